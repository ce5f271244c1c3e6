use Rattle.std.proofs.Common.{◌≡◌}
use Rattle.phase_graph.specs.Table.{HaveRoom, edit_lists}
use Rattle.phase_graph.specs.Way.{no_edits}
use Rattle.phase_graph.proofs.between.empty_lists.Given as goal

abbrev pub invariant-loop : goal.invariant-loop
invariant-loop l = record {
  lists : edit_lists l.lists.items ≡ no_edits l.counter;
  room : HaveRoom l.lists.items l.room;
}
