use Rattle.phase_graph.specs.Table.{edit_lists}
use Rattle.phase_graph.proofs.Views.{rows_packed}
use Rattle.phase_graph.proofs.graph.Graph.rows.Goals as goal

pub returns-clause-packed : goal.returns-clause-packed
returns-clause-packed c = rows_packed c.args.self.now c.self.inside.table (edit_lists c.self.inside.edits.items) c.self.inside.edit_room c.self.view_is c.self.invariant.table
