use Rattle.std.proofs.Common.{◌≡◌, ℕ, take}
use Rattle.store_fields.specs.Edits.{keys}
use Rattle.view_rows.specs.Listed.{arranged, counted}
use Rattle.view_rows.specs.Parts.{rows_in}
use Rattle.view_rows.proofs.table.stands.Given as goal

abbrev pub invariant-loop-i : goal.invariant-loop-i
invariant-loop-i l = (base width next : ℕ) → (arranged base width (rows_in l.table) (take l.i (keys l.rows.rows)) next ≡ take l.i (rows_in l.table)) × (counted (rows_in l.table) (take l.i (keys l.rows.rows)) next ≡ next)
