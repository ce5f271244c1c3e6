use Rattle.std.proofs.Common.{List, map, sym, ap, subst}
use Rattle.values.specs.declared.code.Code.{Code}
use Rattle.view_meaning.specs.Mounted.{nothing_mounted}
use Rattle.view_rows.specs.declared.table.RowPart.{RowPart}
use Rattle.view_rows.specs.Listed.{Listed}
use Rattle.view_rows.specs.Parts.{with_row}
use Rattle.view_rows.specs.Shows.{ShowsRows}
use Rattle.view_rows.proofs.Meaning.{nothing_shows}
use Rattle.view_rows.proofs.rows.MountedRows.new.Goals as goal

pub returns-clause-shows : goal.returns-clause-shows
returns-clause-shows c = λ e. subst (ShowsRows nothing_mounted e) (sym (ap (λ (es : List (Code × RowPart)). let l : Listed = record { rows = map with_row es; next = 0 } in l) c.new.ensures.empty)) (nothing_shows e)
