use Rattle.std.proofs.Common.{◌≡◌, Some, slice_set, sym, ap, ◌∙◌}
use Rattle.std.specs.Option.{option_map}
use Rattle.std.proofs.lemmas.Option.{slice_get-map}
use Rattle.values.specs.declared.code.Code.{Code}
use Rattle.view_slots.specs.Seen.{seen_by}
use Rattle.view_rows.specs.declared.table.RowPart.{RowPart}
use Rattle.view_rows.specs.Listed.{row_again}
use Rattle.view_rows.specs.Parts.{row_of, with_row, rows_in}
use Rattle.view_rows.proofs.RowLemmas.{value-set}
use Rattle.view_rows.proofs.table.remount_at.Goals as goal

pub returns : goal.returns
returns c = λ e is.
    let es = c.args.table.now.entries in
    let key = c.in-Some.key.now in
    let part = c.index_mut-part.result.now in
    let first = c.in-Some.field-0-1.now in
    let again = row_again (seen_by c.args.sight.now) c.args.items.now in
    let next : RowPart = record { serial = part.serial; slots = c.remount_row.new.self } in
    let same : Some part ≡ Some first = sym c.index_mut-part.ensures.value ∙ slice_get-map (λ (x : Code × RowPart). x.1) es c.args.place ∙ ap (option_map (λ (x : Code × RowPart). x.1)) (sym c.in-Some.ensures.entry) in
    let is_part : part ≡ first = cc in
    let at : Some e ≡ Some (key, row_of first) = sym is ∙ slice_get-map with_row es c.args.place ∙ ap (option_map with_row) (sym c.in-Some.ensures.entry) in
    let is_row : e ≡ (key, row_of part) = (let plain : e ≡ (key, row_of first) = cc in plain) ∙ (λ j. (key, row_of (sym is_part j))) in
    value-set es c.args.place e.0 e.1 next is
    ∙ ap (slice_set (rows_in c.args.table.now) c.args.place) ((λ j. ((is_row j).0, (part.serial, c.remount_row.ensures.remounted j))) ∙ ap again (sym is_row))
