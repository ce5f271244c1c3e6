use Rattle.std.proofs.Common.{◌≡◌, ◌++◌, ℕ, false, map, take, drop}
use Rattle.std.specs.List.{list_any}
use Rattle.std.specs.Map.{lookup}
use Rattle.values.specs.declared.code.Code.{Code}
use Rattle.values.specs.Evaluation.{is_same}
use Rattle.store_fields.specs.Edits.{keys}
use Rattle.view_rows.specs.Listed.{arranged, planned}
use Rattle.view_rows.specs.Parts.{rows_in, with_row}
use Rattle.view_rows.proofs.table.adopt.Given as goal

abbrev pub invariant-loop-i : goal.invariant-loop-i
invariant-loop-i l = record {
  rows : (base width next : ℕ) → rows_in l.fn.plan ≡ planned base width (rows_in l.fn.table) (keys l.rows.rows) next → map with_row l.arranged.entries ≡ take l.i (arranged base width (rows_in l.fn.table) (keys l.rows.rows) next) ++ drop l.i (planned base width (rows_in l.fn.table) (keys l.rows.rows) next);
  left : (q : Code) → list_any (λ y. is_same y q) (take l.i (keys l.rows.rows)) ≡ false → lookup (is_same q) (rows_in l.table) ≡ lookup (is_same q) (rows_in l.fn.table);
}
