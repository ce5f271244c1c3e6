use Rattle.std.proofs.Common.{◌≡◌, true}
use Rattle.still_rows.specs.Moves.{work_left, IsLed}
use Rattle.still_rows.proofs.moves.check_all.Given as goal

abbrev pub invariant-loop-read : goal.invariant-loop-read
invariant-loop-read l = record {
  led : IsLed l._nodes l.rows l.row l.initial.frame l.frame;
  cleared : l.frame.cleared ≡ true;
}

abbrev pub decreases-loop-read : goal.decreases-loop-read
decreases-loop-read l = work_left l.row l.frame
