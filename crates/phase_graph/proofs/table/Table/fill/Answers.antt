use Rattle.phase_graph.proofs.Tables.{still_open}
use Rattle.phase_graph.proofs.table.Table.fill.Goals as goal

pub refuse-number-requires-clause-clock : goal.refuse-number-requires-clause-clock
refuse-number-requires-clause-clock c = (still_open c.args.self.now c.requires.table c.requires.open).ticks
