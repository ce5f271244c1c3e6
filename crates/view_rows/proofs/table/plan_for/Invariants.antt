use Rattle.std.proofs.Common.{◌≡◌, map, take}
use Rattle.std.specs.Map.{keys_of}
use Rattle.store_fields.specs.Edits.{keys}
use Rattle.view_rows.specs.Listed.{counted, planned}
use Rattle.view_rows.specs.Parts.{rows_in, with_row}
use Rattle.view_rows.proofs.table.plan_for.Given as goal

abbrev pub invariant-loop-i : goal.invariant-loop-i
invariant-loop-i l = record {
  rows : map with_row l.planned.entries ≡ planned l.base l.width (rows_in l.table) (take l.i (keys l.rows.rows)) l.next;
  next : l.count ≡ counted (rows_in l.table) (take l.i (keys l.rows.rows)) l.next;
  same : keys_of l.planned.entries ≡ take l.i (keys l.rows.rows);
}
