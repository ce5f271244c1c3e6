use Rattle.std.proofs.Common.{subst}
use Rattle.values.specs.declared.plan.PlanNode.{PlanNode}
use Rattle.sources.specs.declared.opening.Opened.{Opened}
use Rattle.work_order.specs.declared.order.Next.{Next}
use Rattle.still_rows.specs.Moves.{Says, IsKept, IsBelow}
use Rattle.still_readers.proofs.Lists.{one_at}
use Rattle.still_rows.proofs.MovesLemmas.{keep_moves, read_below}
use Rattle.still_rows.proofs.moves.advance.Goals as goal

pub returns-in-Answer-clause-moved : goal.returns-in-Answer-clause-moved
returns-in-Answer-clause-moved c = λ node row n r.
    let says = subst (λ (w : Next). Says c.args.nodes.now c.args.rows.now c.node_at-node.result.now c.row_at-row.result.now c.args.frame c.next_of_frame.new.reads.list w) c.in-Answer.is c.next_of_frame.ensures.says in absurd says

pub returns-in-Keep-clause-moved : goal.returns-in-Keep-clause-moved
returns-in-Keep-clause-moved c = λ node row n r.
    let says = subst (λ (w : Next). Says c.args.nodes.now c.args.rows.now c.node_at-node.result.now c.row_at-row.result.now c.args.frame c.next_of_frame.new.reads.list w) c.in-Keep.is c.next_of_frame.ensures.says in
    subst (λ (q : Opened). IsKept c.args.rows.now q) (one_at c.row_at-row.result.now row c.row_at-row.ensures r)
    (keep_moves _ _ _ _ c.args.frame (c.requires.frame, c.node_at-node.ensures, c.row_at-row.ensures) says.0 says.1 says.2)

pub returns-in-Read-clause-moved : goal.returns-in-Read-clause-moved
returns-in-Read-clause-moved c = λ node row n r.
    let says = subst (λ (w : Next). Says c.args.nodes.now c.args.rows.now c.node_at-node.result.now c.row_at-row.result.now c.args.frame c.next_of_frame.new.reads.list w) c.in-Read.is c.next_of_frame.ensures.says in
    subst (λ (q : PlanNode). IsBelow c.args.rows.now q c.args.frame c.in-Read.from) (one_at c.node_at-node.result.now node c.node_at-node.ensures n)
    (read_below c.args.nodes.now c.args.rows.now c.node_at-node.result.now c.args.frame c.in-Read.from c.requires.lawful c.node_at-node.ensures says.1 says.2)
