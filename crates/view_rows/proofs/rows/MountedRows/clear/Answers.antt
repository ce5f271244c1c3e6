use Rattle.std.proofs.Common.{List, map, sym, ap, subst, ◌∙◌}
use Rattle.values.specs.declared.code.Code.{Code}
use Rattle.view_meaning.specs.Mounted.{mounted_again}
use Rattle.view_rows.specs.declared.table.RowPart.{RowPart}
use Rattle.view_rows.specs.Listed.{Listed, rows_gone}
use Rattle.view_rows.specs.Parts.{with_row}
use Rattle.view_rows.specs.Shows.{ShowsRows}
use Rattle.view_rows.proofs.Meaning.{cleared}
use Rattle.view_rows.proofs.rows.MountedRows.clear.Goals as goal

pub returns-clause-shows : goal.returns-clause-shows
returns-clause-shows c = λ seen component old e kept stands unmounted shown.
    let whole = ap (λ (es : List (Code × RowPart)). let l : Listed = record { rows = map with_row es; next = c.self.inside.next } in l) c.clear.ensures.empty ∙ ap rows_gone c.self.view_is in
    subst (ShowsRows (mounted_again component.items seen old) e) (sym whole) (cleared seen component old e c.args.self.now kept stands shown unmounted)
