use Rattle.std.proofs.Common.{◌+◌, ◌*◌}
use Rattle.still_readers.specs.Building.{weight}
use Rattle.still_rows.proofs.evaluating.+parts.Given as goal

abbrev pub decreases-evaluate : goal.decreases-evaluate
decreases-evaluate l = 2 * weight l.expr.now

abbrev pub decreases-operand : goal.decreases-operand
decreases-operand l = 2 * weight l.expr.now + 1
