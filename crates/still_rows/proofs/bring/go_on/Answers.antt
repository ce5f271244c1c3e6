use Rattle.std.proofs.Common.{◌≡◌, ℕ, Some, slice_get, sym, subst}
use Rattle.values.specs.declared.plan.PlanNode.{PlanNode}
use Rattle.sources.specs.declared.opening.Opened.{Opened}
use Rattle.still_readers.proofs.Lists.{one_at}
use Rattle.still_rows.specs.Moves.{LeadsTo}
use Rattle.still_rows.specs.Works.{EndsAs}
use Rattle.still_rows.proofs.bring.go_on.Goals as goal

pub end-ended-requires-clause-node : goal.end-ended-requires-clause-node
end-ended-requires-clause-node c = subst (λ (i : ℕ). slice_get c.args.nodes.now i ≡ Some c.node_at-node.result.now) (sym c.lead-led.ensures.led.node) c.node_at-node.ensures

pub end-ended-requires-clause-row : goal.end-ended-requires-clause-row
end-ended-requires-clause-row c = subst (λ (i : ℕ). slice_get c.args.rows.now i ≡ Some c.row_at-row.result.now) (sym c.lead-led.ensures.led.node) c.row_at-row.ensures

pub returns-clause-steps : goal.returns-clause-steps
returns-clause-steps c = λ row r. subst (λ (q : Opened). LeadsTo c.args.rows.now q c.args.frame c.lead-led.result) (one_at c.row_at-row.result.now row c.row_at-row.ensures r) c.lead-led.ensures.led.steps

pub returns-clause-less : goal.returns-clause-less
returns-clause-less c = rw c.row_at-row.ensures c.lead-led.ensures.led.less

pub returns-clause-ended : goal.returns-clause-ended
returns-clause-ended c = λ node row n r.
    let same = c.lead-led.ensures.led.node in
    let node' : c.node_at-node.result.now ≡ node = one_at c.node_at-node.result.now node (subst (λ (i : ℕ). slice_get c.args.nodes.now i ≡ Some c.node_at-node.result.now) (sym same) c.node_at-node.ensures) n in
    let row' : c.row_at-row.result.now ≡ row = one_at c.row_at-row.result.now row (subst (λ (i : ℕ). slice_get c.args.rows.now i ≡ Some c.row_at-row.result.now) (sym same) c.row_at-row.ensures) r in
    subst (λ (q : PlanNode). EndsAs c.args.nodes.now c.args.rows.now q row c.lead-led.result c.end-ended.new.reads.list c.end-ended.result) node'
    (subst (λ (q : Opened). EndsAs c.args.nodes.now c.args.rows.now c.node_at-node.result.now q c.lead-led.result c.end-ended.new.reads.list c.end-ended.result) row' c.end-ended.ensures.ended)
