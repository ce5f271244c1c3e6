use Rattle.std.proofs.Common.{◌≤◌, length}
use Rattle.lane_run.specs.Lanes.{first_ops}
use Rattle.lane_run.proofs.today.ops_run.Given as goal

abbrev pub invariant-loop-before : goal.invariant-loop-before
invariant-loop-before l = l.before ≤ length (first_ops l.script l.phase)
