use Rattle.std.proofs.Common.{take}
use Rattle.lane_run.specs.Lanes.{HasDone, first_ops}
use Rattle.lane_run.proofs.lane.run_lane.Given as goal

abbrev pub invariant-loop-before : goal.invariant-loop-before
invariant-loop-before g l = HasDone l.phase (take l.before (first_ops l.script l.phase)) l.initial.still l.still l.initial.answers l.answers
