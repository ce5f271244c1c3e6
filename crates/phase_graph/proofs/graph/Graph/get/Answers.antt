use Rattle.run_history.specs.Calls.{get}
use Rattle.phase_graph.specs.Table.{edit_lists}
use Rattle.phase_graph.proofs.Views.{graph_calls}
use Rattle.phase_graph.proofs.graph.Graph.get.Goals as goal

pub returns-clause-call : goal.returns-clause-call
returns-clause-call c = λ s g pass way. graph_calls c.args.self.now c.self.inside.table c.get.new.self (edit_lists c.self.inside.edits.items) c.self.inside.edit_room pass (get c.args.node c.get.result) c.self.view_is c.get.ensures.kept.in_phase (c.get.ensures.call pass) s g way
