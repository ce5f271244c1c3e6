use Rattle.std.proofs.Common.{◌∙◌, sym}
use Rattle.still_rows.proofs.FramesLemmas.{unclean_memo}
use Rattle.still_rows.proofs.calls.refresh.Goals as goal

pub bring_up-requires-clause-memo : goal.bring_up-requires-clause-memo
bring_up-requires-clause-memo c = unclean_memo c.args.nodes.now c.args.rows.now c.requires.still.good c.args.node c.requires.kind c.row_at.result.now c.row_at.ensures (sym c.is_clean.ensures ∙ c.if-is_clean.false)
