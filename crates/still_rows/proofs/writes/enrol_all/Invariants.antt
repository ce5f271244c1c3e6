use Rattle.still_rows.specs.Ends.{IsEnrolledFor}
use Rattle.still_rows.proofs.writes.enrol_all.Given as goal

abbrev pub invariant-loop-place : goal.invariant-loop-place
invariant-loop-place l = IsEnrolledFor l.node l.reads l.place l.initial.readers l.readers
