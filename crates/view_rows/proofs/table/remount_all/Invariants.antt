use Rattle.std.proofs.Common.{◌≡◌, ◌++◌, length, map, take, drop}
use Rattle.view_slots.specs.Seen.{seen_by}
use Rattle.view_rows.specs.Listed.{row_again}
use Rattle.view_rows.specs.Parts.{rows_in}
use Rattle.view_rows.proofs.table.remount_all.Given as goal

abbrev pub invariant-loop-i : goal.invariant-loop-i
invariant-loop-i l = record {
  rows : take l.i (rows_in l.table) ++ map (row_again (seen_by l.sight) l.items) (drop l.i (rows_in l.table)) ≡ map (row_again (seen_by l.sight) l.items) (rows_in l.fn.table);
  len : length (rows_in l.table) ≡ length (rows_in l.fn.table);
}
