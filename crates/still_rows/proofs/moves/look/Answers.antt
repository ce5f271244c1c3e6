use Rattle.std.proofs.Common.{sym, subst}
use Rattle.work_order.specs.declared.frame.Frame.{Frame}
use Rattle.still_readers.proofs.Lists.{within_at}
use Rattle.still_rows.specs.declared.moves.Moved.TheVariants as to
use Rattle.still_rows.specs.Moves.{MovesTo}
use Rattle.still_rows.proofs.MovesLemmas.{look_moves}
use Rattle.still_rows.proofs.moves.look.Goals as goal

pub returns : goal.returns
returns c =
    let x = within_at c.args.row.now.body.reads.list c.args.frame.at c.requires.look.1 in
    subst (λ (g : Frame). MovesTo c.args._nodes.now c.args._rows.now c.args._node.now c.args.row.now c.args.frame c.args._reads.now.list (to.On g)) (sym (c.looked.ensures x.0 x.1))
    (look_moves c.args._nodes.now c.args._rows.now c.args._node.now c.args.row.now c.args.frame c.args._reads.now.list x.0 c.args.source.now c.requires.good (c.requires.frame, c.requires.node, c.requires.row) c.requires.look x.1)
