use Rattle.std.proofs.Common.{sym, subst}
use Rattle.work_order.specs.declared.frame.Frame.{Frame}
use Rattle.still_rows.specs.declared.moves.Moved.TheVariants as to
use Rattle.still_rows.specs.Moves.{MovesTo}
use Rattle.still_rows.proofs.MovesLemmas.{clear_moves}
use Rattle.still_rows.proofs.moves.clear.Goals as goal

pub returns : goal.returns
returns c =
    subst (λ (g : Frame). MovesTo c.args._nodes.now c.args._rows.now c.args._node.now c.args._row.now c.args.frame c.args._reads.now.list (to.On g)) (sym c.cleared.ensures)
    (clear_moves c.args._nodes.now c.args._rows.now c.args._node.now c.args._row.now c.args.frame c.args._reads.now.list (c.requires.frame, c.requires.node, c.requires.row) c.requires.says)
