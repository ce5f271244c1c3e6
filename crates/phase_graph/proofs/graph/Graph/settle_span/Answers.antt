use Rattle.std.proofs.Common.{ap, arith}
use Rattle.phase_graph.specs.Graph.{GraphState}
use Rattle.phase_graph.specs.Table.{edit_lists}
use Rattle.phase_graph.proofs.Views.{span_ticks, span_long, span_memos, span_below, span_past, stirred_sources}
use Rattle.phase_graph.proofs.graph.Graph.settle_span.Goals as goal

pub returns-clause-ticks : goal.returns-clause-ticks
returns-clause-ticks c = span_ticks c.args.self.now c.self.inside.table c.settle_span.new.self (edit_lists c.self.inside.edits.items) c.self.inside.edit_room c.self.view_is c.self.invariant.table c.args.from c.args.to c.settle_span.ensures.settled

pub returns-clause-long : goal.returns-clause-long
returns-clause-long c = span_long c.args.self.now c.self.inside.table c.settle_span.new.self (edit_lists c.self.inside.edits.items) c.self.inside.edit_room c.self.view_is c.self.invariant.table c.args.from c.args.to c.settle_span.ensures.settled

pub returns-clause-memos : goal.returns-clause-memos
returns-clause-memos c = span_memos c.args.self.now c.self.inside.table c.settle_span.new.self (edit_lists c.self.inside.edits.items) c.self.inside.edit_room c.self.view_is c.self.invariant.table c.args.from c.args.to c.settle_span.ensures.settled

pub returns-clause-below : goal.returns-clause-below
returns-clause-below c = span_below c.args.self.now c.self.inside.table c.settle_span.new.self (edit_lists c.self.inside.edits.items) c.self.inside.edit_room c.self.view_is c.self.invariant.table c.args.from c.args.to c.settle_span.ensures.settled

pub returns-clause-past : goal.returns-clause-past
returns-clause-past c = span_past c.args.self.now c.self.inside.table c.settle_span.new.self (edit_lists c.self.inside.edits.items) c.self.inside.edit_room c.self.view_is c.self.invariant.table c.args.from c.args.to c.settle_span.ensures.settled

pub returns-clause-sources : goal.returns-clause-sources
returns-clause-sources c = stirred_sources c.args.self.now c.self.inside.table c.settle_span.new.self (edit_lists c.self.inside.edits.items) c.self.inside.edit_room c.self.view_is c.self.invariant.table c.settle_span.ensures.settled.stirred (let b = ap (λ (q : GraphState). q.base) c.self.view_is in let t = c.requires.ticks in omega arith)
