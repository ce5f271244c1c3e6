use Rattle.std.proofs.Common.{◌≤◌, length}
use Rattle.still_readers.specs.Readers.{IsLast, bound_of}
use Rattle.still_readers.specs.Marking.{IsSpreading, IsDarkened, LeavesOthers, AreMet, marking_left}
use Rattle.still_readers.proofs.marking.mark_readers.Given as goal

abbrev pub invariant-loop-at : goal.invariant-loop-at
invariant-loop-at l = record {
  within : bound_of l.at ≤ length l.readers.list;
  last : IsLast l.readers.list l.now (bound_of l.at) l.at;
  spreading : IsSpreading l.nodes l.rows l.readers l.marking l.signal l.now (bound_of l.at);
  met : AreMet l.readers l.signal l.marking.todo.list;
  darkened : IsDarkened l.initial.rows l.rows;
  others : LeavesOthers l.readers l.signal l.initial.rows l.rows;
  less : marking_left l.marking ≤ marking_left l.initial.marking;
}

abbrev pub decreases-loop-at : goal.decreases-loop-at
decreases-loop-at l = bound_of l.at
