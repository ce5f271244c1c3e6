use Rattle.phase_graph.specs.Table.{AreGiven}
use Rattle.phase_graph.proofs.making.give_all.Given as goal

abbrev pub invariant-loop-at : goal.invariant-loop-at
invariant-loop-at l = AreGiven l.nodes l.codes l.at l.initial.rows l.rows
