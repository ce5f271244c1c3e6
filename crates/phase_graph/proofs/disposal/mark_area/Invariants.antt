use Rattle.std.proofs.Common.{◌≡◌, length}
use Rattle.phase_graph.specs.Table.{AreMarked}
use Rattle.phase_graph.proofs.disposal.mark_area.Given as goal

abbrev pub invariant-loop-at : goal.invariant-loop-at
invariant-loop-at l = record {
  long : length l.inside ≡ length l.owners;
  marked : AreMarked l.owners l.area l.area l.at l.inside;
}
