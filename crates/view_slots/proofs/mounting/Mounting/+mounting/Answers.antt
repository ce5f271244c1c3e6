use Rattle.std.proofs.Common.{Some, List, [], ◌∷◌, refl, sym, ap, ◌∙◌, map}
use Rattle.std.proofs.lemmas.Option.{slice_get-get_or}
use Rattle.values.specs.Evaluation.{truth}
use Rattle.component_items.specs.declared.component.Attr.{Attr}
use Rattle.component_items.specs.declared.component.Item.{Item}
use Rattle.plain_evaluation.specs.Place.{place_at}
use Rattle.view_meaning.specs.Parts.{shows, area, branch, each, plain, attr_part, item_parts}
use Rattle.view_slots.specs.Home.{rowless, home_parts, mounted_with}
use Rattle.view_slots.specs.Plain.{all_sides}
use Rattle.view_slots.specs.Seen.{seen_by}
use Rattle.view_slots.proofs.HomeParts.{parts-Signal, parts-Memo, parts-Effect, parts-Resource, parts-Load, parts-Store, parts-Cleanup, parts-Area, parts-If, parts-Each, parts-Element, parts-Text, parts-Shown}
use Rattle.view_slots.proofs.SlotLemmas.{mounted-none}
use Rattle.view_slots.proofs.WalkLemmas.{on_true, on_false, one_more, walks, walks_none, walks_open, walks_closed, walks_element}
use Rattle.view_slots.proofs.mounting.Mounting.+mounting.Goals as goal

pub item-returns-in-Signal : goal.item-returns-in-Signal
item-returns-in-Signal t c = walks_none (seen_by c.args.self.now.sight.now) c.args.self.now.key c.args.self.now.base c.args.item.now (all_sides c.args.slots.now) (ap (λ item. item_parts (rowless (seen_by c.args.self.now.sight.now).view) item c.args.self.now.key) c.in-Signal.is ∙ parts-Signal (rowless (seen_by c.args.self.now.sight.now).view) c.in-Signal.id c.in-Signal.name c.in-Signal.start c.args.self.now.key)

pub item-returns-in-Memo : goal.item-returns-in-Memo
item-returns-in-Memo t c = walks_none (seen_by c.args.self.now.sight.now) c.args.self.now.key c.args.self.now.base c.args.item.now (all_sides c.args.slots.now) (ap (λ item. item_parts (rowless (seen_by c.args.self.now.sight.now).view) item c.args.self.now.key) c.in-Memo.is ∙ parts-Memo (rowless (seen_by c.args.self.now.sight.now).view) c.in-Memo.id c.in-Memo.name c.in-Memo.expr c.args.self.now.key)

pub item-returns-in-Effect : goal.item-returns-in-Effect
item-returns-in-Effect t c = walks_none (seen_by c.args.self.now.sight.now) c.args.self.now.key c.args.self.now.base c.args.item.now (all_sides c.args.slots.now) (ap (λ item. item_parts (rowless (seen_by c.args.self.now.sight.now).view) item c.args.self.now.key) c.in-Effect.is ∙ parts-Effect (rowless (seen_by c.args.self.now.sight.now).view) c.in-Effect.id c.in-Effect.name c.in-Effect.expr c.args.self.now.key)

pub item-returns-in-Resource : goal.item-returns-in-Resource
item-returns-in-Resource t c = walks_none (seen_by c.args.self.now.sight.now) c.args.self.now.key c.args.self.now.base c.args.item.now (all_sides c.args.slots.now) (ap (λ item. item_parts (rowless (seen_by c.args.self.now.sight.now).view) item c.args.self.now.key) c.in-Resource.is ∙ parts-Resource (rowless (seen_by c.args.self.now.sight.now).view) c.in-Resource.id c.in-Resource.name c.in-Resource.after c.in-Resource.keys c.in-Resource.values c.args.self.now.key)

pub item-returns-in-Load : goal.item-returns-in-Load
item-returns-in-Load t c = walks_none (seen_by c.args.self.now.sight.now) c.args.self.now.key c.args.self.now.base c.args.item.now (all_sides c.args.slots.now) (ap (λ item. item_parts (rowless (seen_by c.args.self.now.sight.now).view) item c.args.self.now.key) c.in-Load.is ∙ parts-Load (rowless (seen_by c.args.self.now.sight.now).view) c.in-Load.id c.in-Load.name c.in-Load.resource c.in-Load.key c.args.self.now.key)

pub item-returns-in-Store : goal.item-returns-in-Store
item-returns-in-Store t c = walks_none (seen_by c.args.self.now.sight.now) c.args.self.now.key c.args.self.now.base c.args.item.now (all_sides c.args.slots.now) (ap (λ item. item_parts (rowless (seen_by c.args.self.now.sight.now).view) item c.args.self.now.key) c.in-Store.is ∙ parts-Store (rowless (seen_by c.args.self.now.sight.now).view) c.in-Store.id c.in-Store.name c.in-Store.max c.in-Store.fields c.in-Store.starts c.args.self.now.key)

pub item-returns-in-Cleanup : goal.item-returns-in-Cleanup
item-returns-in-Cleanup t c = walks_none (seen_by c.args.self.now.sight.now) c.args.self.now.key c.args.self.now.base c.args.item.now (all_sides c.args.slots.now) (ap (λ item. item_parts (rowless (seen_by c.args.self.now.sight.now).view) item c.args.self.now.key) c.in-Cleanup.is ∙ parts-Cleanup (rowless (seen_by c.args.self.now.sight.now).view) c.in-Cleanup.text c.args.self.now.key)

pub item-returns-then-is_live : goal.item-returns-then-is_live
item-returns-then-is_live t c = walks_open (seen_by c.args.self.now.sight.now) c.args.self.now.key c.args.self.now.base c.args.item.now (all_sides c.args.slots.now) ((seen_by c.args.self.now.sight.now).view.live c.in-Area.owner) (area (place_at c.in-Area.id c.args.self.now.key)) c.in-Area.items (all_sides c.area.new.slots) (all_sides c.items.new.slots) (ap (λ item. item_parts (rowless (seen_by c.args.self.now.sight.now).view) item c.args.self.now.key) c.in-Area.is ∙ parts-Area (rowless (seen_by c.args.self.now.sight.now).view) c.in-Area.id c.in-Area.name c.in-Area.owner c.in-Area.items c.args.self.now.key) (sym c.is_live.ensures ∙ c.if-is_live.true) c.area.ensures (c.items.ensures ∙ ap (λ (items : List Item). mounted_with (seen_by c.args.self.now.sight.now) (home_parts (seen_by c.args.self.now.sight.now).view items c.args.self.now.key) c.args.self.now.key c.args.self.now.base (all_sides c.area.new.slots)) c.as_slice.ensures)

pub item-returns-else-is_live : goal.item-returns-else-is_live
item-returns-else-is_live t c = walks_closed (seen_by c.args.self.now.sight.now) c.args.self.now.key c.args.self.now.base c.args.item.now (all_sides c.args.slots.now) ((seen_by c.args.self.now.sight.now).view.live c.in-Area.owner) _ (ap (λ item. item_parts (rowless (seen_by c.args.self.now.sight.now).view) item c.args.self.now.key) c.in-Area.is ∙ parts-Area (rowless (seen_by c.args.self.now.sight.now).view) c.in-Area.id c.in-Area.name c.in-Area.owner c.in-Area.items c.args.self.now.key) (sym c.is_live.ensures ∙ c.if-is_live.false) _ refl

pub item-returns-then-branch : goal.item-returns-then-branch
item-returns-then-branch t c = walks_open (seen_by c.args.self.now.sight.now) c.args.self.now.key c.args.self.now.base c.args.item.now (all_sides c.args.slots.now) (truth ((seen_by c.args.self.now.sight.now).view.value (place_at c.in-If.id c.args.self.now.key))) (branch (place_at c.in-If.id c.args.self.now.key)) c.in-If.items (all_sides c.branch-self.new.slots) (all_sides c.items-then-branch.new.slots) (ap (λ item. item_parts (rowless (seen_by c.args.self.now.sight.now).view) item c.args.self.now.key) c.in-If.is ∙ parts-If (rowless (seen_by c.args.self.now.sight.now).view) c.in-If.id c.in-If.cond c.in-If.items c.args.self.now.key) (sym c.branch-self.ensures.truth ∙ c.if-branch.true) (on_true c.branch-self.result _ c.if-branch.true c.branch-self.ensures.«open») (c.items-then-branch.ensures ∙ ap (λ (items : List Item). mounted_with (seen_by c.args.self.now.sight.now) (home_parts (seen_by c.args.self.now.sight.now).view items c.args.self.now.key) c.args.self.now.key c.args.self.now.base (all_sides c.branch-self.new.slots)) c.as_slice-then-branch.ensures)

pub item-returns-else-branch : goal.item-returns-else-branch
item-returns-else-branch t c = walks_closed (seen_by c.args.self.now.sight.now) c.args.self.now.key c.args.self.now.base c.args.item.now (all_sides c.args.slots.now) (truth ((seen_by c.args.self.now.sight.now).view.value (place_at c.in-If.id c.args.self.now.key))) _ (ap (λ item. item_parts (rowless (seen_by c.args.self.now.sight.now).view) item c.args.self.now.key) c.in-If.is ∙ parts-If (rowless (seen_by c.args.self.now.sight.now).view) c.in-If.id c.in-If.cond c.in-If.items c.args.self.now.key) (sym c.branch-self.ensures.truth ∙ c.if-branch.false) _ (on_false c.branch-self.result _ c.if-branch.false c.branch-self.ensures.closed)

pub item-returns-in-Each : goal.item-returns-in-Each
item-returns-in-Each t c = walks (seen_by c.args.self.now.sight.now) c.args.self.now.key c.args.self.now.base c.args.item.now (all_sides c.args.slots.now) (each c.in-Each.id c.in-Each.store ∷ []) (all_sides c.each.new.slots) (ap (λ item. item_parts (rowless (seen_by c.args.self.now.sight.now).view) item c.args.self.now.key) c.in-Each.is ∙ parts-Each (seen_by c.args.self.now.sight.now).view c.in-Each.id c.in-Each.store c.in-Each.items c.args.self.now.key) c.each.ensures

pub item-returns-in-Element : goal.item-returns-in-Element
item-returns-in-Element t c = walks_element (seen_by c.args.self.now.sight.now) c.args.self.now.key c.args.self.now.base c.args.item.now (all_sides c.args.slots.now) c.in-Element.tag c.in-Element.closed (map (attr_part c.args.self.now.key) c.in-Element.attrs) c.in-Element.items (all_sides c.attrs.new.slots) (all_sides c.items-in-Element.new.slots) (ap (λ item. item_parts (rowless (seen_by c.args.self.now.sight.now).view) item c.args.self.now.key) c.in-Element.is ∙ parts-Element (rowless (seen_by c.args.self.now.sight.now).view) c.in-Element.tag c.in-Element.closed c.in-Element.attrs c.in-Element.items c.args.self.now.key) (c.attrs.ensures ∙ ap (λ (attrs : List Attr). mounted_with (seen_by c.args.self.now.sight.now) (map (attr_part c.args.self.now.key) attrs) c.args.self.now.key c.args.self.now.base (all_sides c.args.slots.now)) c.as_slice-in-Element.ensures) (c.items-in-Element.ensures ∙ ap (λ (items : List Item). mounted_with (seen_by c.args.self.now.sight.now) (home_parts (seen_by c.args.self.now.sight.now).view items c.args.self.now.key) c.args.self.now.key c.args.self.now.base (all_sides c.attrs.new.slots)) c.as_slice-in-Element-2.ensures)

pub item-returns-in-Text : goal.item-returns-in-Text
item-returns-in-Text t c = walks (seen_by c.args.self.now.sight.now) c.args.self.now.key c.args.self.now.base c.args.item.now (all_sides c.args.slots.now) (plain c.in-Text.text ∷ []) (all_sides c.args.slots.now) (ap (λ item. item_parts (rowless (seen_by c.args.self.now.sight.now).view) item c.args.self.now.key) c.in-Text.is ∙ parts-Text (rowless (seen_by c.args.self.now.sight.now).view) c.in-Text.text c.args.self.now.key) (sym (mounted-none (seen_by c.args.self.now.sight.now) c.args.self.now.key c.args.self.now.base (all_sides c.args.slots.now)))

pub item-returns-in-Shown : goal.item-returns-in-Shown
item-returns-in-Shown t c = walks (seen_by c.args.self.now.sight.now) c.args.self.now.key c.args.self.now.base c.args.item.now (all_sides c.args.slots.now) (shows (place_at c.in-Shown.id c.args.self.now.key) ∷ []) (all_sides c.shown.new.slots) (ap (λ item. item_parts (rowless (seen_by c.args.self.now.sight.now).view) item c.args.self.now.key) c.in-Shown.is ∙ parts-Shown (rowless (seen_by c.args.self.now.sight.now).view) c.in-Shown.id c.in-Shown.expr c.args.self.now.key) c.shown.ensures

pub items-loop-item-init : goal.items-loop-item-init
items-loop-item-init t c = sym (mounted-none (seen_by c.args.self.now.sight.now) c.args.self.now.key c.args.self.now.base (all_sides c.args.slots.now))

pub items-loop-item-preserved : goal.items-loop-item-preserved
items-loop-item-preserved t c = one_more (seen_by c.args.self.now.sight.now) c.args.self.now.key c.args.self.now.base c.args.items.now c.loop-item.item-index c.item-item.result (all_sides c.args.slots.now) (all_sides c.loop-item.slots) (all_sides c.item.new.slots) (slice_get-get_or c.args.items.now c.loop-item.item-index c.item-item.result c.loop-item-test.true ∙ ap Some (sym c.item-item.is)) c.loop-item.invariant c.item.ensures
