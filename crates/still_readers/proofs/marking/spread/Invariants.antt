use Rattle.std.proofs.Common.{ℕ}
use Rattle.still_readers.specs.Marking.{IsSpreading, IsDarkened, LeavesOthers, AreMet, marking_left}
use Rattle.still_readers.proofs.marking.spread.Given as goal

abbrev pub invariant-loop-now : goal.invariant-loop-now
invariant-loop-now l = record {
  spreading : (old : ℕ) × IsSpreading l.nodes l.rows l.readers l.marking l.signal old 0;
  met : AreMet l.readers l.signal l.marking.todo.list;
  darkened : IsDarkened l.initial.rows l.rows;
  others : LeavesOthers l.readers l.signal l.initial.rows l.rows;
}

abbrev pub decreases-loop-now : goal.decreases-loop-now
decreases-loop-now l = marking_left l.marking
