use Rattle.std.proofs.Common.{take}
use Rattle.std.specs.List.{All}
use Rattle.lane_run.specs.Today.{LanesRun}
use Rattle.script_run.proofs.today.runs_today.Given as goal

abbrev pub invariant-loop-before : goal.invariant-loop-before
invariant-loop-before l = All LanesRun (take l.before l.script)
