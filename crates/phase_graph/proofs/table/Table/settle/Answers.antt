use Rattle.phase_graph.proofs.Steps.{all_done}
use Rattle.phase_graph.proofs.Tables.{stirred_table}
use Rattle.phase_graph.proofs.table.Table.settle.Goals as goal

pub returns-clause-table : goal.returns-clause-table
returns-clause-table c = stirred_table c.args.self.now c.stir_all.new.self c.requires.table c.stir_all.ensures.stirred

pub returns-clause-settled : goal.returns-clause-settled
returns-clause-settled c = all_done c.args.self.now c.stir_all.new.self c.stir_all.result c.requires.table c.requires.few c.stir_all.ensures.stirred c.stir_all.ensures.full c.stir_all.ensures.left c.stir_all.ensures.settled
