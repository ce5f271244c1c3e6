use Rattle.std.proofs.Common.{◌≡◌, take}
use Rattle.plan_meaning.specs.Carried.{rows_to}
use Rattle.row_carrying.proofs.targets.rows_to.Given as goal

abbrev pub invariant-loop-row : goal.invariant-loop-row
invariant-loop-row l = l.to.items ≡ take l.row (rows_to l.old l.new)
