use Rattle.std.proofs.Common.{ap, arith}
use Rattle.phase_graph.specs.Graph.{GraphState}
use Rattle.phase_graph.specs.Table.{edit_lists}
use Rattle.phase_graph.proofs.Views.{settled_ticks, settled_memos, stirred_sources}
use Rattle.phase_graph.proofs.graph.Graph.settle.Goals as goal

pub returns-clause-ticks : goal.returns-clause-ticks
returns-clause-ticks c = settled_ticks c.args.self.now c.self.inside.table c.settle.new.self (edit_lists c.self.inside.edits.items) c.self.inside.edit_room c.self.view_is c.self.invariant.table c.settle.ensures.settled

pub returns-clause-memos : goal.returns-clause-memos
returns-clause-memos c = settled_memos c.args.self.now c.self.inside.table c.settle.new.self (edit_lists c.self.inside.edits.items) c.self.inside.edit_room c.self.view_is c.self.invariant.table c.settle.ensures.settled

pub returns-clause-sources : goal.returns-clause-sources
returns-clause-sources c = stirred_sources c.args.self.now c.self.inside.table c.settle.new.self (edit_lists c.self.inside.edits.items) c.self.inside.edit_room c.self.view_is c.self.invariant.table c.settle.ensures.settled.stirred (let b = ap (λ (q : GraphState). q.base) c.self.view_is in let t = c.requires.ticks in omega arith)
