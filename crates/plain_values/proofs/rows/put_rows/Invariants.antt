use Rattle.std.proofs.Common.{◌≡◌, drop}
use Rattle.plain_values.specs.Evaluated.{after_rows}
use Rattle.plain_values.specs.Seen.{values_seen}
use Rattle.plain_values.proofs.rows.put_rows.Given as goal

abbrev pub invariant-loop-place : goal.invariant-loop-place
invariant-loop-place l = after_rows l.store (drop l.place l.rows.rows) (values_seen l.values) ≡ after_rows l.store l.rows.rows (values_seen l.initial.values)
