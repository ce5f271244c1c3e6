use Rattle.std.proofs.Common.{take, drop}
use Rattle.phase_run.specs.Told.{first_verdicts}
use Rattle.phase_run.proofs.ToldAnswers.{AreToldTo}
use Rattle.phase_run.proofs.telling.tell_edits.Given as goal

abbrev pub invariant-loop-place : goal.invariant-loop-place
invariant-loop-place l = AreToldTo (first_verdicts l.still.verdicts) (take l.first l.initial.answers) (drop l.first l.initial.answers) l.index l.place l.answers
