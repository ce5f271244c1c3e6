use Rattle.std.proofs.Common.{◌≤◌}
use Rattle.phase_graph.proofs.Disposing.{AreDisposed}
use Rattle.phase_graph.proofs.table.Table.dispose_marked.Given as goal

abbrev pub invariant-loop-at : goal.invariant-loop-at
invariant-loop-at l = record {
  from_on : l.area ≤ l.at;
  disposed : AreDisposed l.initial.self l.self l.area l.at l.done;
}

abbrev pub decreases-loop-at : goal.decreases-loop-at
decreases-loop-at l = l.at
