use Rattle.run_history.specs.Calls.{pump}
use Rattle.phase_graph.specs.Table.{edit_lists}
use Rattle.phase_graph.proofs.Views.{graph_home}
use Rattle.phase_graph.proofs.graph.Graph.pump.Goals as goal

pub returns-clause-call : goal.returns-clause-call
returns-clause-call c = λ s g pass home way. graph_home c.args.self.now c.self.inside.table c.pump.new.self (edit_lists c.self.inside.edits.items) c.self.inside.edit_room pass (pump c.pump.result) c.self.view_is c.pump.ensures.kept.in_phase (c.pump.ensures.call pass) s g home way
