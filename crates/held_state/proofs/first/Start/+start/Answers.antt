use Rattle.std.proofs.Common.{◌≡◌, ℕ, ◌<◌, ◌^◌, List, ◌∷◌, ◌++◌, [], None, map, length, rules, sym, ap, ◌∙◌, subst, arith}
use Rattle.std.specs.List.{flat_map}
use Rattle.component_items.specs.Ids.{item_ids, item_owners}
use Rattle.component_items.specs.declared.component.Attr.{Attr}
use Rattle.component_items.specs.declared.component.Item.{Item, the_lemmas}
use Rattle.plain_evaluation.specs.Held.{nothing, stored, arrived, no_rows, first_attr}
use Rattle.held_state.specs.Built.{with_more, with_item, with_items, AreNext}
use Rattle.held_state.specs.Start.{built}
use Rattle.held_state.proofs.Built.{with_item-Signal, with_item-Memo, with_item-Effect, with_item-Resource, with_item-Load, with_item-Store, with_item-Cleanup, with_item-Area, with_item-If, with_item-Each, with_item-Element, with_item-Text, with_item-Shown, next-Area, next-If, next-Each, next-Element, ok_then, store_few, from_place, loop_same, loop_now, loop_next, moved_next, moved_area, moved_items, moved_whole, more_more, area_step}
use Rattle.std.proofs.lemmas.Grind.{common_steps}
use Rattle.std.proofs.lemmas.List.{map-append, length-map}
use Rattle.held_state.specs.declared.holding.Going.{Going}
use Rattle.held_state.specs.Seen.{going_seen}
use Rattle.held_state.proofs.Seen.{with_going}
use Rattle.held_state.proofs.first.Start.+start.Goals as goal

pub area-returns : goal.area-returns
area-returns t c =
    let placeholder : Going = record { first_id = c.len-first_id.result; past_id = c.len-first_id.result; first_owner = c.len-first_owner.result; past_owner = c.len-first_owner.result } in
    let going : Going = record { first_id = c.len-first_id.result; past_id = c.len.result; first_owner = c.len-first_owner.result; past_owner = c.len-2.result } in
    let pushed : map going_seen c.push.new.self.items ≡ map going_seen c.args.self.now.goings.items ++ going_seen placeholder ∷ [] = ap (map going_seen) c.in_ok-push.ensures.items ∙ map-append going_seen c.args.self.now.goings.items (placeholder ∷ []) in
    let is : built c.items.new.self ≡ with_items c.args.items.now (record { holdings = (built c.args.self.now).holdings; goings = (built c.args.self.now).goings ++ going_seen placeholder ∷ [] }) = c.in_ok-items.ensures ∙ ap (λ goings. with_items c.args.items.now (record { holdings = (built c.args.self.now).holdings; goings = goings })) pushed in
    let first_id : c.len-first_id.result ≡ length (built c.args.self.now).holdings = grind (arith, common_steps, length-map) in
    let first_owner : c.len-first_owner.result ≡ length (built c.args.self.now).goings = grind (arith, common_steps, length-map) in
    let past_id : c.len.result ≡ length (built c.items.new.self).holdings = grind (arith, common_steps, length-map) in
    let past_owner : c.len-2.result ≡ length (built c.items.new.self).goings = grind (arith, common_steps, length-map) in
    with_going (built c.items.new.self).holdings c.items.new.self.goings.items c.len-first_owner.result going
    ∙ area_step (built c.args.self.now) (built c.items.new.self) c.args.items.now (going_seen placeholder) c.len-first_id.result c.len-first_owner.result c.len.result c.len-2.result c.requires is first_id first_owner past_id past_owner

pub item-put_store-requires : goal.item-put_store-requires
item-put_store-requires t c = let few = store_few (built c.args.self.now) c.args.item.now c.in-Store.id c.in-Store.name c.in-Store.max c.in-Store.fields c.in-Store.starts c.in-Store.is c.requires in subst (λ (fields : List ℕ). length fields < 2 ^ 32) (sym c.as_slice.ensures) few

pub item-returns-in-Signal : goal.item-returns-in-Signal
item-returns-in-Signal t c = ok_then c.put.result _ _ _ c.put.ensures (sym (ap (λ item. with_item item (built c.args.self.now)) c.in-Signal.is ∙ with_item-Signal (built c.args.self.now) c.in-Signal.id c.in-Signal.name c.in-Signal.start))

pub item-returns-in-Memo : goal.item-returns-in-Memo
item-returns-in-Memo t c = ok_then c.put-in-Memo.result _ _ _ c.put-in-Memo.ensures (sym (ap (λ item. with_item item (built c.args.self.now)) c.in-Memo.is ∙ with_item-Memo (built c.args.self.now) c.in-Memo.id c.in-Memo.name c.in-Memo.expr))

pub item-returns-in-Effect : goal.item-returns-in-Effect
item-returns-in-Effect t c = ok_then c.put-in-Effect.result _ _ _ c.put-in-Effect.ensures (sym (ap (λ item. with_item item (built c.args.self.now)) c.in-Effect.is ∙ with_item-Effect (built c.args.self.now) c.in-Effect.id c.in-Effect.name c.in-Effect.expr))

pub item-returns-in-Resource : goal.item-returns-in-Resource
item-returns-in-Resource t c = ok_then c.put-in-Resource.result _ _ _ c.put-in-Resource.ensures (sym (ap (λ item. with_item item (built c.args.self.now)) c.in-Resource.is ∙ with_item-Resource (built c.args.self.now) c.in-Resource.id c.in-Resource.name c.in-Resource.after c.in-Resource.keys c.in-Resource.values))

pub item-returns-in-Shown : goal.item-returns-in-Shown
item-returns-in-Shown t c = ok_then c.put-in-Shown.result _ _ _ c.put-in-Shown.ensures (sym (ap (λ item. with_item item (built c.args.self.now)) c.in-Shown.is ∙ with_item-Shown (built c.args.self.now) c.in-Shown.id c.in-Shown.expr))

pub item-returns-in-Cleanup : goal.item-returns-in-Cleanup
item-returns-in-Cleanup t c = sym (ap (λ item. with_item item (built c.args.self.now)) c.in-Cleanup.is ∙ with_item-Cleanup (built c.args.self.now) c.in-Cleanup.text)

pub item-returns-in-Text : goal.item-returns-in-Text
item-returns-in-Text t c = sym (ap (λ item. with_item item (built c.args.self.now)) c.in-Text.is ∙ with_item-Text (built c.args.self.now) c.in-Text.text)

pub item-returns-in-Store : goal.item-returns-in-Store
item-returns-in-Store t c =
    ok_then c.put_store.result _ _ _ c.put_store.ensures
    (ap (λ (fields : List ℕ). with_more (stored (no_rows c.in-Store.max (length fields)) ∷ nothing ∷ map (λ field. nothing) fields) (built c.args.self.now)) c.as_slice.ensures
    ∙ sym (ap (λ item. with_item item (built c.args.self.now)) c.in-Store.is ∙ with_item-Store (built c.args.self.now) c.in-Store.id c.in-Store.name c.in-Store.max c.in-Store.fields c.in-Store.starts))

pub item-returns-in_ok-put-in-Load : goal.item-returns-in_ok-put-in-Load
item-returns-in_ok-put-in-Load t c =
    ok_then c.put-in-Load-2.result _ _ _ c.put-in-Load-2.ensures
    (ap (with_more (nothing ∷ [])) c.in_ok-put-in-Load.ensures
    ∙ more_more (built c.args.self.now) (arrived None ∷ []) (nothing ∷ [])
    ∙ sym (ap (λ item. with_item item (built c.args.self.now)) c.in-Load.is ∙ with_item-Load (built c.args.self.now) c.in-Load.id c.in-Load.name c.in-Load.resource c.in-Load.key))

pub item-area-requires : goal.item-area-requires
item-area-requires t c = (
  search (rules, the_lemmas) depth 8,
  moved_area (with_more (nothing ∷ []) (built c.args.self.now)) (built c.put-in-Area.new.self) c.in-Area.items c.as_slice-in-Area.result.now c.in_ok-put-in-Area.ensures c.as_slice-in-Area.ensures
      (next-Area (built c.args.self.now) c.in-Area.id c.in-Area.name c.in-Area.owner c.in-Area.items (subst (λ (item : Item). AreNext (built c.args.self.now) (item_ids item) (item_owners item)) c.in-Area.is c.requires)),
)

pub item-returns-in_ok-put-in-Area : goal.item-returns-in_ok-put-in-Area
item-returns-in_ok-put-in-Area t c =
    ok_then c.area.result _ _ _ c.area.ensures
    (moved_whole (with_more (nothing ∷ []) (built c.args.self.now)) (built c.put-in-Area.new.self) c.in-Area.items c.as_slice-in-Area.result.now c.in_ok-put-in-Area.ensures c.as_slice-in-Area.ensures
    ∙ sym (ap (λ item. with_item item (built c.args.self.now)) c.in-Area.is ∙ with_item-Area (built c.args.self.now) c.in-Area.id c.in-Area.name c.in-Area.owner c.in-Area.items (subst (λ (item : Item). AreNext (built c.args.self.now) (item_ids item) (item_owners item)) c.in-Area.is c.requires)))

pub item-items-requires : goal.item-items-requires
item-items-requires t c = (
  search (rules, the_lemmas) depth 8,
  moved_next (with_more (nothing ∷ []) (built c.args.self.now)) (built c.put-in-If.new.self) c.in-If.items c.as_slice-in-If.result.now c.in_ok-put-in-If.ensures c.as_slice-in-If.ensures
      (next-If (built c.args.self.now) c.in-If.id c.in-If.cond c.in-If.items (subst (λ (item : Item). AreNext (built c.args.self.now) (item_ids item) (item_owners item)) c.in-If.is c.requires)),
)

pub item-returns-in_ok-put-in-If : goal.item-returns-in_ok-put-in-If
item-returns-in_ok-put-in-If t c =
    ok_then c.items.result _ _ _ c.items.ensures
    (moved_items (with_more (nothing ∷ []) (built c.args.self.now)) (built c.put-in-If.new.self) c.in-If.items c.as_slice-in-If.result.now c.in_ok-put-in-If.ensures c.as_slice-in-If.ensures
    ∙ sym (ap (λ item. with_item item (built c.args.self.now)) c.in-If.is ∙ with_item-If (built c.args.self.now) c.in-If.id c.in-If.cond c.in-If.items))

pub item-items-requires-in-Each : goal.item-items-requires-in-Each
item-items-requires-in-Each t c = (
  search (rules, the_lemmas) depth 8,
  moved_next (with_more (nothing ∷ []) (built c.args.self.now)) (built c.put-in-Each.new.self) c.in-Each.items c.as_slice-in-Each.result.now c.in_ok-put-in-Each.ensures c.as_slice-in-Each.ensures
      (next-Each (built c.args.self.now) c.in-Each.id c.in-Each.store c.in-Each.items (subst (λ (item : Item). AreNext (built c.args.self.now) (item_ids item) (item_owners item)) c.in-Each.is c.requires)),
)

pub item-returns-in_ok-put-in-Each : goal.item-returns-in_ok-put-in-Each
item-returns-in_ok-put-in-Each t c =
    ok_then c.items-in-Each.result _ _ _ c.items-in-Each.ensures
    (moved_items (with_more (nothing ∷ []) (built c.args.self.now)) (built c.put-in-Each.new.self) c.in-Each.items c.as_slice-in-Each.result.now c.in_ok-put-in-Each.ensures c.as_slice-in-Each.ensures
    ∙ sym (ap (λ item. with_item item (built c.args.self.now)) c.in-Each.is ∙ with_item-Each (built c.args.self.now) c.in-Each.id c.in-Each.store c.in-Each.items))

pub item-items-requires-in-Element : goal.item-items-requires-in-Element
item-items-requires-in-Element t c = (
  search (rules, the_lemmas) depth 8,
  moved_next (with_more (flat_map first_attr c.in-Element.attrs) (built c.args.self.now)) (built c.put_attrs.new.self) c.in-Element.items c.as_slice-in-Element-2.result.now (c.in_ok-put_attrs-in-Element.ensures ∙ ap (λ (attrs : List Attr). with_more (flat_map first_attr attrs) (built c.args.self.now)) c.as_slice-in-Element.ensures) c.as_slice-in-Element-2.ensures
      (next-Element (built c.args.self.now) c.in-Element.tag c.in-Element.closed c.in-Element.attrs c.in-Element.items (subst (λ (item : Item). AreNext (built c.args.self.now) (item_ids item) (item_owners item)) c.in-Element.is c.requires)),
)

pub item-returns-in_ok-put_attrs-in-Element : goal.item-returns-in_ok-put_attrs-in-Element
item-returns-in_ok-put_attrs-in-Element t c =
    ok_then c.items-in-Element.result _ _ _ c.items-in-Element.ensures
    (moved_items (with_more (flat_map first_attr c.in-Element.attrs) (built c.args.self.now)) (built c.put_attrs.new.self) c.in-Element.items c.as_slice-in-Element-2.result.now (c.in_ok-put_attrs-in-Element.ensures ∙ ap (λ (attrs : List Attr). with_more (flat_map first_attr attrs) (built c.args.self.now)) c.as_slice-in-Element.ensures) c.as_slice-in-Element-2.ensures
    ∙ sym (ap (λ item. with_item item (built c.args.self.now)) c.in-Element.is ∙ with_item-Element (built c.args.self.now) c.in-Element.tag c.in-Element.closed c.in-Element.attrs c.in-Element.items))

pub items-item-requires : goal.items-item-requires
items-item-requires t c =
    let cut = from_place c.args.items.now c.loop-item.item-index c.item-item.result c.loop-item-test.true c.item-item.is in
    (search (rules, the_lemmas), loop_now (built c.loop-item.self) c.args.items.now c.loop-item.item-index c.item-item.result cut c.loop-item.invariant.next)

pub items-loop-item-preserved : goal.items-loop-item-preserved
items-loop-item-preserved t c =
    let cut = from_place c.args.items.now c.loop-item.item-index c.item-item.result c.loop-item-test.true c.item-item.is in
    record {
      same = loop_same (built c.loop-item.self) (built c.item.new.self) (with_items c.args.items.now (built c.args.self.now)) c.args.items.now c.loop-item.item-index c.item-item.result cut c.loop-item.invariant.same c.loop-item.invariant.next c.in_ok-item.ensures;
      next = loop_next (built c.loop-item.self) (built c.item.new.self) c.args.items.now c.loop-item.item-index c.item-item.result cut c.loop-item.invariant.next c.in_ok-item.ensures;
    }
