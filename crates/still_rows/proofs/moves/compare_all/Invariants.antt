use Rattle.std.proofs.Common.{◌≡◌, false}
use Rattle.still_rows.specs.Moves.{work_left, IsLed}
use Rattle.still_rows.proofs.moves.compare_all.Given as goal

abbrev pub invariant-loop-read : goal.invariant-loop-read
invariant-loop-read l = record {
  led : IsLed l._nodes l.rows l.row l.initial.frame l.frame;
  begun : l.frame.cleared ≡ false;
}

abbrev pub decreases-loop-read : goal.decreases-loop-read
decreases-loop-read l = work_left l.row l.frame
