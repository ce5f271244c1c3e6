use Rattle.phase_graph.specs.Table.{edit_lists}
use Rattle.phase_graph.proofs.Views.{value_is}
use Rattle.phase_graph.proofs.graph.Graph.value.Goals as goal

pub returns : goal.returns
returns c =
    let a = c.in_ok-kept.ensures in
    value_is c.args.self.now c.self.inside.table (edit_lists c.self.inside.edits.items) c.self.inside.edit_room c.args.row c.in_ok-kept.kept.now c.deref.result.now c.self.view_is c.self.invariant.table c.deref.ensures.value a.lookup.3.0 a.lookup.1 c.unpack.result c.unpack.ensures.value c.unpack.ensures.none
