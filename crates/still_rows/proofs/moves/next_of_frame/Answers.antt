use Rattle.std.proofs.Common.{◌≡◌, sym, subst}
use Rattle.work_order.specs.declared.order.Next.{Next}
use Rattle.work_order.specs.Order.{next_of}
use Rattle.still_rows.specs.Moves.{Says}
use Rattle.still_rows.proofs.FramesLemmas.{frame_says}
use Rattle.still_rows.proofs.moves.next_of_frame.Goals as goal

pub returns-clause-says : goal.returns-clause-says
returns-clause-says c =
    let is = c.requires.frame.each c.args.node.now c.args.row.now c.requires.node c.requires.row in
    let e = c.try_run-tried.ensures in
    let n : c.next_on.result ≡ next_of c.try_run-tried.result c.args.row.now.colour c.args.row.now.body.reads.list c.args.frame = rw c.as_slice.ensures at c.next_on.ensures in
    subst (λ (w : Next). Says c.args.nodes.now c.args.rows.now c.args.node.now c.args.row.now c.args.frame c.try_run-tried.new.reads.list w) (sym n)
    (frame_says c.args.nodes.now c.args.rows.now c.args.node.now c.args.row.now c.args.frame c.try_run-tried.new.reads.list c.try_run-tried.result c.requires.lawful c.requires.good c.requires.node is
    record { tried_is = e.tried; reads_are = e.reads; fresh = e.fresh })
