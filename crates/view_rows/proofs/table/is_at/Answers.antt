use Rattle.std.proofs.Common.{◌≡◌, Some, sym, ap, ◌∙◌}
use Rattle.std.specs.Map.{lookup}
use Rattle.std.specs.Option.{option_map}
use Rattle.std.proofs.lemmas.Option.{slice_get-map}
use Rattle.values.specs.contracts.code.CodePartialEq.TheImpl.{ghosts as codes}
use Rattle.store_fields.proofs.KeyLemmas.{eq_is_same, same_true}
use Rattle.view_rows.specs.Parts.{row_of, with_row}
use Rattle.view_rows.proofs.RowLemmas.{at_key, lookup-rows}
use Rattle.view_rows.proofs.table.is_at.Goals as goal

pub returns-in-Some : goal.returns-in-Some
returns-in-Some c = λ holds.
    let es = c.args.table.now.entries in
    let found = c.in-Some.found.now in
    let part = c.in-Some.field-0-1.now in
    let same : found ≡ c.args.key = same_true found c.args.key (sym (eq_is_same found c.args.key) ∙ sym c.eq.ensures ∙ holds) in (
      row_of part,
      (
        slice_get-map with_row es c.args.place ∙ ap (option_map with_row) (sym c.in-Some.ensures.entry) ∙ (λ i. Some (same i, row_of part)),
        lookup-rows c.args.key es ∙ ap (option_map row_of) (sym (at_key c.args.key es) ∙ ap (λ k. lookup (codes.eq k) es) (sym same) ∙ c.in-Some.ensures.value),
      ),
    )
