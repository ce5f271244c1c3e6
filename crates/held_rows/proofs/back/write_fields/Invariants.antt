use Rattle.std.proofs.Common.{◌≡◌, ℕ, Some, slice_get, set}
use Rattle.store_fields.specs.declared.row.Row.{Row}
use Rattle.store_fields.specs.Edits.{with_rows}
use Rattle.sources.specs.Rows.{value_in}
use Rattle.held_rows.proofs.RowWrites.{row_upto}
use Rattle.held_rows.proofs.back.write_fields.Given as goal

abbrev pub invariant-loop-field : goal.invariant-loop-field
invariant-loop-field l = record {
  width : l.store.width ≡ l.initial.store.width;
  shown : (place : ℕ) (row : Row) → slice_get l.initial.store.rows place ≡ Some row → row.key ≡ l.key → l.store ≡ with_rows l.initial.store (set l.initial.store.rows place (row_upto l.names (value_in l.rows) l.id l.field row));
}
