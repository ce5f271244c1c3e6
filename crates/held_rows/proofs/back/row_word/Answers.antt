use Rattle.std.proofs.Common.{◌≡◌, Some, None, slice_get, sym, ap, ◌∙◌}
use Rattle.std.specs.Option.{option_copied}
use Rattle.sources.proofs.RowLemmas.{code_in-at}
use Rattle.held_rows.proofs.RowWrites.{code_past, nothing_packed}
use Rattle.held_rows.proofs.back.row_word.Goals as goal

pub returns-in-Some : goal.returns-in-Some
returns-in-Some c =
    let at : slice_get c.args.rows.now c.args.row ≡ Some c.in-Some.kept.now = sym c.row_at.ensures ∙ ap option_copied c.in-Some.is in
    record { word = sym (code_in-at c.args.rows.now c.args.row c.in-Some.kept.now at); is_packed = c.requires c.args.row c.in-Some.kept.now at }

pub returns-in-None : goal.returns-in-None
returns-in-None c =
    let at : slice_get c.args.rows.now c.args.row ≡ None = sym c.row_at.ensures ∙ ap option_copied c.in-None.is in
    record { word = sym (code_past c.args.rows.now c.args.row at); is_packed = nothing_packed }
