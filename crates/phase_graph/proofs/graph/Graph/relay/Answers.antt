use Rattle.std.proofs.Common.{List, length, sym, ap, ◌∙◌, arith}
use Rattle.values.specs.declared.plan.Plan.{Plan}
use Rattle.values.specs.Reserved.{Reserve}
use Rattle.still_readers.proofs.Lists.{not_both}
use Rattle.store_fields.specs.declared.edit.Edit.{Edit}
use Rattle.phase_graph.specs.Table.{edit_lists}
use Rattle.phase_graph.proofs.Relayings.{relay_targets, relay_table, relay_rows, relay_empty, relay_closed, relay_plan, none_have_room}
use Rattle.phase_graph.proofs.graph.Graph.relay.Goals as goal

pub take_over-requires-clause-targets : goal.take_over-requires-clause-targets
take_over-requires-clause-targets c = relay_targets c.args.self.now c.args.relaid c.self.inside.table c.relaid.inside.table c.replace-old.result c.replace-old.new.dest c.replace-old.new.dest (edit_lists c.self.inside.edits.items) c.self.inside.edit_room c.relaid.inside.to.items c.as_slice.result.now c.self.view_is c.relaid.view_is c.replace-old.ensures.value c.replace-old.ensures.after c.as_slice.ensures.value c.relaid.invariant.laid c.requires.goes

pub invariant_of-self : goal.invariant_of-self
invariant_of-self c =
    let l = c.relaid.inside.table in
    let t = c.take_over.new.self in
    let plan = relay_plan c.args.self.now c.args.relaid c.self.inside.table l c.replace-old.result c.replace-old.new.dest t (edit_lists c.self.inside.edits.items) c.self.inside.edit_room c.relaid.inside.to.items c.as_slice.result.now c.self.view_is c.relaid.view_is c.replace-old.ensures.value c.replace-old.ensures.after c.as_slice.ensures.value c.relaid.invariant.laid c.take_over.ensures in
    let closed = relay_closed c.args.self.now c.args.relaid c.self.inside.table l c.replace-old.result c.replace-old.new.dest t (edit_lists c.self.inside.edits.items) c.self.inside.edit_room c.relaid.inside.to.items c.as_slice.result.now c.self.view_is c.relaid.view_is c.replace-old.ensures.value c.replace-old.ensures.after c.as_slice.ensures.value c.relaid.invariant.laid c.take_over.ensures in
    record {
      table = relay_table c.args.self.now c.args.relaid c.self.inside.table l c.replace-old.result c.replace-old.new.dest t (edit_lists c.self.inside.edits.items) c.self.inside.edit_room c.relaid.inside.to.items c.as_slice.result.now c.self.view_is c.relaid.view_is c.replace-old.ensures.value c.replace-old.ensures.after c.as_slice.ensures.value c.relaid.invariant.laid c.take_over.ensures c.self.invariant.table c.requires.closed c.requires.ticks c.requires.goes;
      lists = none_have_room c.relaid.inside.edits.items c.relaid.invariant.none;
      few_passes = (let e = ap (λ (q : List (Reserve Edit)). length q) c.relaid.invariant.none in omega arith);
      few_edits = omega arith;
      idle = (λ p. absurd (not_both t.clock.in_phase p closed));
      inside = c.relaid.invariant.inside ∙ ap (λ (q : Plan). length q.owners) (sym plan);
    }

pub returns-clause-rows : goal.returns-clause-rows
returns-clause-rows c = relay_rows c.args.self.now c.args.relaid c.self.inside.table c.relaid.inside.table c.replace-old.result c.replace-old.new.dest c.take_over.new.self (edit_lists c.self.inside.edits.items) c.self.inside.edit_room c.relaid.inside.to.items c.as_slice.result.now c.self.view_is c.relaid.view_is c.replace-old.ensures.value c.replace-old.ensures.after c.as_slice.ensures.value c.relaid.invariant.laid c.take_over.ensures

pub returns-clause-empty : goal.returns-clause-empty
returns-clause-empty c = relay_empty c.args.self.now c.args.relaid c.self.inside.table c.relaid.inside.table c.replace-old.result c.replace-old.new.dest c.take_over.new.self (edit_lists c.self.inside.edits.items) c.self.inside.edit_room c.relaid.inside.to.items c.as_slice.result.now c.self.view_is c.relaid.view_is c.replace-old.ensures.value c.replace-old.ensures.after c.as_slice.ensures.value c.relaid.invariant.laid c.take_over.ensures
