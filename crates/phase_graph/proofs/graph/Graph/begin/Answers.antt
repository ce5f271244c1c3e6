use Rattle.std.proofs.Common.{ap, ◌∙◌}
use Rattle.phase_graph.specs.declared.table.Table.{Table}
use Rattle.phase_graph.specs.Table.{edit_lists, seen}
use Rattle.phase_graph.proofs.Openings.{opens_way}
use Rattle.phase_graph.proofs.graph.Graph.begin.Goals as goal

pub returns-clause-way : goal.returns-clause-way
returns-clause-way c = λ s opens. opens_way c.args.self.now c.subscribe.new.self c.begin.new.self c.in_ok-entries.entries (edit_lists c.self.inside.edits.items) (edit_lists c.in_ok-lists.lists.items) c.self.inside.edit_room c.args.edits c.args.passes (ap (λ (t : Table). seen t (edit_lists c.self.inside.edits.items) c.self.inside.edit_room) c.subscribe.ensures.rest ∙ c.self.view_is) c.subscribe.ensures.table c.in_ok-entries.ensures.list c.requires.ticks c.in_ok-lists.ensures.lists c.begin.ensures.begun s opens
