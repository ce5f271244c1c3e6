use Rattle.std.proofs.Common.{◌≡◌, ◌∙◌, ◌-◌, sym, ap, length, length-set, subst, arith}
use Rattle.std.proofs.lemmas.Option.{get_or_from_slice_get}
use Rattle.values.specs.declared.plan.Plan.{Plan}
use Rattle.values.specs.Reserved.{Reserve, room_of}
use Rattle.store_fields.specs.declared.edit.Edit.{Edit}
use Rattle.phase_graph.specs.Table.{MakesEdit, list_with}
use Rattle.phase_graph.proofs.Passes.{list_there, room_after, graph_edits, view_edits}
use Rattle.phase_graph.proofs.graph.Graph.edit.Goals as goal

pub edit_in-requires-clause-room : goal.edit_in-requires-clause-room
edit_in-requires-clause-room c =
    let h = list_there c.args.self.now c.self.inside.table c.self.inside.edits.items c.self.inside.edit_room c.args.pass c.self.view_is c.requires.pass in
    let same : c.index_mut-list.result.now ≡ h.list = c.index_mut-list.ensures.value ∙ get_or_from_slice_get c.self.inside.edits.items (c.args.pass - 1) h.list _ h.at in
    let a = ap (λ (q : Reserve Edit). length q.list) same in let b = ap (λ (q : Reserve Edit). room_of q) same in
    let l = c.self.invariant.lists.each (c.args.pass - 1) h.list h.at in let k = h.shorter in omega arith

pub edit_in-requires-clause-few : goal.edit_in-requires-clause-few
edit_in-requires-clause-few c =
    let h = list_there c.args.self.now c.self.inside.table c.self.inside.edits.items c.self.inside.edit_room c.args.pass c.self.view_is c.requires.pass in
    let same : c.index_mut-list.result.now ≡ h.list = c.index_mut-list.ensures.value ∙ get_or_from_slice_get c.self.inside.edits.items (c.args.pass - 1) h.list _ h.at in
    let a = ap (λ (q : Reserve Edit). length q.list) same in
    let l = c.self.invariant.few_edits in let k = h.shorter in omega arith

pub invariant_of-self : goal.invariant_of-self
invariant_of-self c =
    let h = list_there c.args.self.now c.self.inside.table c.self.inside.edits.items c.self.inside.edit_room c.args.pass c.self.view_is c.requires.pass in
    let same : c.index_mut-list.result.now ≡ h.list = c.index_mut-list.ensures.value ∙ get_or_from_slice_get c.self.inside.edits.items (c.args.pass - 1) h.list _ h.at in
    let kept = c.edit_in.ensures.kept in
    let old = c.self.invariant in
    record {
      table = kept.table;
      lists = room_after c.self.inside.edits.items c.self.inside.edit_room c.args.pass h c.edit_in.new.list old.lists (c.edit_in.ensures.room ∙ ap (λ (q : Reserve Edit). room_of q) same);
      few_passes = (let l = length-set c.self.inside.edits.items (c.args.pass - 1) c.edit_in.new.list in let f = old.few_passes in omega arith);
      few_edits = old.few_edits;
      idle = (λ p. old.idle (sym kept.in_phase ∙ p));
      inside = old.inside ∙ ap (λ (q : Plan). length q.owners) (sym kept.plan);
    }

pub returns-clause-call : goal.returns-clause-call
returns-clause-call c = λ s g way.
    let h = list_there c.args.self.now c.self.inside.table c.self.inside.edits.items c.self.inside.edit_room c.args.pass c.self.view_is c.requires.pass in
    let same : c.index_mut-list.result.now ≡ h.list = c.index_mut-list.ensures.value ∙ get_or_from_slice_get c.self.inside.edits.items (c.args.pass - 1) h.list _ h.at in
    graph_edits c.args.self.now c.self.inside.table c.edit_in.new.table c.self.inside.edits.items c.self.inside.edit_room c.args.pass c.args.owner c.args.asked c.edit_in.result h c.edit_in.new.list c.self.view_is c.edit_in.ensures.kept
    (subst (λ (q : Reserve Edit). MakesEdit c.self.inside.table c.edit_in.new.table c.args.pass c.args.owner (length q.list) c.args.asked c.edit_in.result) same c.edit_in.ensures.call)
    (subst (λ (q : Reserve Edit). c.edit_in.new.list.list ≡ list_with q.list c.args.asked c.edit_in.result) same c.edit_in.ensures.list) s g way

pub returns-clause-edits : goal.returns-clause-edits
returns-clause-edits c =
    let h = list_there c.args.self.now c.self.inside.table c.self.inside.edits.items c.self.inside.edit_room c.args.pass c.self.view_is c.requires.pass in
    let same : c.index_mut-list.result.now ≡ h.list = c.index_mut-list.ensures.value ∙ get_or_from_slice_get c.self.inside.edits.items (c.args.pass - 1) h.list _ h.at in
    view_edits c.args.self.now c.self.inside.table c.self.inside.edits.items c.self.inside.edit_room c.args.pass c.args.asked c.edit_in.result h c.edit_in.new.list c.self.view_is
    (subst (λ (q : Reserve Edit). c.edit_in.new.list.list ≡ list_with q.list c.args.asked c.edit_in.result) same c.edit_in.ensures.list)
