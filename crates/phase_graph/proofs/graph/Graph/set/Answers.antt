use Rattle.run_history.specs.Calls.{set}
use Rattle.phase_graph.specs.Table.{edit_lists}
use Rattle.phase_graph.proofs.Views.{graph_calls}
use Rattle.phase_graph.proofs.graph.Graph.set.Goals as goal

pub returns-clause-call : goal.returns-clause-call
returns-clause-call c = λ s g pass way. graph_calls c.args.self.now c.self.inside.table c.set.new.self (edit_lists c.self.inside.edits.items) c.self.inside.edit_room pass (set c.args.signal c.args.code c.set.result) c.self.view_is c.set.ensures.kept.in_phase (c.set.ensures.call pass) s g way
