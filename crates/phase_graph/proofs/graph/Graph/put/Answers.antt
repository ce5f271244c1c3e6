use Rattle.std.proofs.Common.{ap, arith, ◌∙◌}
use Rattle.phase_graph.specs.Graph.{GraphState}
use Rattle.phase_graph.specs.Table.{edit_lists}
use Rattle.phase_graph.proofs.Puttings.{put_source, put_rest, put_ticks, put_long, put_value, put_same_seen, put_others, put_settled}
use Rattle.phase_graph.proofs.graph.Graph.put.Goals as goal

pub renew-requires-clause-source : goal.renew-requires-clause-source
renew-requires-clause-source c = put_source c.args.self.now c.self.inside.table c.self.inside.table (edit_lists c.self.inside.edits.items) c.self.inside.edit_room c.args.row c.args.code (c.self.view_is ∙ c.make_exact.ensures) c.requires.row

pub returns-clause-rest : goal.returns-clause-rest
returns-clause-rest c = put_rest c.args.self.now c.self.inside.table c.renew.new.self (edit_lists c.self.inside.edits.items) c.self.inside.edit_room c.args.row c.args.code (c.self.view_is ∙ c.make_exact.ensures) c.requires.closed c.renew.ensures.put

pub returns-clause-ticks : goal.returns-clause-ticks
returns-clause-ticks c = put_ticks c.args.self.now c.self.inside.table c.renew.new.self (edit_lists c.self.inside.edits.items) c.self.inside.edit_room c.args.row c.args.code (c.self.view_is ∙ c.make_exact.ensures) c.renew.ensures.put

pub returns-clause-long : goal.returns-clause-long
returns-clause-long c = put_long c.args.self.now c.self.inside.table c.renew.new.self (edit_lists c.self.inside.edits.items) c.self.inside.edit_room c.args.row c.args.code (c.self.view_is ∙ c.make_exact.ensures) c.renew.ensures.put

pub returns-clause-value : goal.returns-clause-value
returns-clause-value c = put_value c.args.self.now c.self.inside.table c.renew.new.self (edit_lists c.self.inside.edits.items) c.self.inside.edit_room c.args.row c.args.code (c.self.view_is ∙ c.make_exact.ensures) c.renew.ensures.put

pub returns-clause-same : goal.returns-clause-same
returns-clause-same c = put_same_seen c.args.self.now c.self.inside.table c.renew.new.self (edit_lists c.self.inside.edits.items) c.self.inside.edit_room c.args.row c.args.code (c.self.view_is ∙ c.make_exact.ensures) c.renew.ensures.put

pub returns-clause-others : goal.returns-clause-others
returns-clause-others c = put_others c.args.self.now c.self.inside.table c.renew.new.self (edit_lists c.self.inside.edits.items) c.self.inside.edit_room c.args.row c.args.code (c.self.view_is ∙ c.make_exact.ensures) c.renew.ensures.put

pub returns-clause-settled : goal.returns-clause-settled
returns-clause-settled c = put_settled c.args.self.now c.self.inside.table c.renew.new.self (edit_lists c.self.inside.edits.items) c.self.inside.edit_room c.args.row c.args.code (c.self.view_is ∙ c.make_exact.ensures) c.self.invariant.table (let b = ap (λ (q : GraphState). q.base) (c.self.view_is ∙ c.make_exact.ensures) in let t = c.requires.ticks in omega arith) c.renew.ensures.put
