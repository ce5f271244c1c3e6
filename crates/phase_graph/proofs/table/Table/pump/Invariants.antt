use Rattle.phase_graph.proofs.Pumps.{ArePumped}
use Rattle.phase_graph.proofs.table.Table.pump.Given as goal

abbrev pub invariant-loop-row : goal.invariant-loop-row
invariant-loop-row l = ArePumped l.initial.self l.self l.row l.told
