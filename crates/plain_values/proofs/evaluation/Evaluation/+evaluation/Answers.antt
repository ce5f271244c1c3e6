use Rattle.std.proofs.Common.{ℕ, suc, ◌+◌, drop, Bool, if◌then◌else◌, List, sym, ap, ◌∙◌, arith}
use Rattle.store_fields.specs.declared.row.Row.{Row}
use Rattle.component_items.specs.declared.component.Attr.{Attr}
use Rattle.component_items.specs.declared.component.Item.{Item}
use Rattle.plain_evaluation.specs.Held.{holding_of}
use Rattle.plain_evaluation.specs.Scratch.{with_value}
use Rattle.plain_values.specs.Evaluated.{evaluated, loaded_by, after_attrs, after_item, after_items, for_each}
use Rattle.plain_values.specs.Seen.{values_seen, row_seen, given_in}
use Rattle.plain_values.proofs.EvaluatedLemmas.{after_item-Signal, after_item-Memo, after_item-Effect, after_item-Resource, after_item-Load, after_item-Store, after_item-Cleanup, after_item-Area, after_item-If, after_item-Each, after_item-Element, after_item-Text, after_item-Shown}
use Rattle.plain_values.proofs.PlaceLemmas.{drop_at, ok_then, no_rows_held, rows_as_held}
use Rattle.plain_values.proofs.evaluation.Evaluation.+evaluation.Goals as goal

pub item-returns-in-Signal : goal.item-returns-in-Signal
item-returns-in-Signal t c = ok_then c.set.result _ _ _ c.set.ensures ((λ i. with_value (c.place.ensures i) (c.signal.ensures i) (values_seen c.args.values.now)) ∙ sym (ap (λ item. after_item (given_in c.args.self.now) item (row_seen c.args.row) (values_seen c.args.values.now)) c.in-Signal.is ∙ after_item-Signal (given_in c.args.self.now) c.in-Signal.id c.in-Signal.name c.in-Signal.start (row_seen c.args.row) (values_seen c.args.values.now)))

pub item-returns-in-Memo : goal.item-returns-in-Memo
item-returns-in-Memo t c = ok_then c.evaluate.result _ _ _ c.evaluate.ensures (sym (ap (λ item. after_item (given_in c.args.self.now) item (row_seen c.args.row) (values_seen c.args.values.now)) c.in-Memo.is ∙ after_item-Memo (given_in c.args.self.now) c.in-Memo.id c.in-Memo.name c.in-Memo.expr (row_seen c.args.row) (values_seen c.args.values.now)))

pub item-returns-in-Effect : goal.item-returns-in-Effect
item-returns-in-Effect t c = ok_then c.evaluate-in-Effect.result _ _ _ c.evaluate-in-Effect.ensures (sym (ap (λ item. after_item (given_in c.args.self.now) item (row_seen c.args.row) (values_seen c.args.values.now)) c.in-Effect.is ∙ after_item-Effect (given_in c.args.self.now) c.in-Effect.id c.in-Effect.name c.in-Effect.expr (row_seen c.args.row) (values_seen c.args.values.now)))

pub item-returns-in-Shown : goal.item-returns-in-Shown
item-returns-in-Shown t c = ok_then c.evaluate-in-Shown.result _ _ _ c.evaluate-in-Shown.ensures (sym (ap (λ item. after_item (given_in c.args.self.now) item (row_seen c.args.row) (values_seen c.args.values.now)) c.in-Shown.is ∙ after_item-Shown (given_in c.args.self.now) c.in-Shown.id c.in-Shown.expr (row_seen c.args.row) (values_seen c.args.values.now)))

pub item-returns-in-Resource : goal.item-returns-in-Resource
item-returns-in-Resource t c = sym (ap (λ item. after_item (given_in c.args.self.now) item (row_seen c.args.row) (values_seen c.args.values.now)) c.in-Resource.is ∙ after_item-Resource (given_in c.args.self.now) c.in-Resource.id c.in-Resource.name c.in-Resource.after c.in-Resource.keys c.in-Resource.values (row_seen c.args.row) (values_seen c.args.values.now))

pub item-returns-in-Cleanup : goal.item-returns-in-Cleanup
item-returns-in-Cleanup t c = sym (ap (λ item. after_item (given_in c.args.self.now) item (row_seen c.args.row) (values_seen c.args.values.now)) c.in-Cleanup.is ∙ after_item-Cleanup (given_in c.args.self.now) c.in-Cleanup.text (row_seen c.args.row) (values_seen c.args.values.now))

pub item-returns-in-Text : goal.item-returns-in-Text
item-returns-in-Text t c = sym (ap (λ item. after_item (given_in c.args.self.now) item (row_seen c.args.row) (values_seen c.args.values.now)) c.in-Text.is ∙ after_item-Text (given_in c.args.self.now) c.in-Text.text (row_seen c.args.row) (values_seen c.args.values.now))

pub item-returns-in_ok-evaluate-in-Load : goal.item-returns-in_ok-evaluate-in-Load
item-returns-in_ok-evaluate-in-Load t c = ok_then c.load.result _ _ _ c.load.ensures (ap (loaded_by (given_in c.args.self.now) c.in-Load.id c.in-Load.resource (row_seen c.args.row)) (c.in_ok-evaluate-in-Load.ensures ∙ ap (λ (id : ℕ). evaluated (given_in c.args.self.now) id c.in-Load.key (row_seen c.args.row) (values_seen c.args.values.now)) {x = c.in-Load.id + 1} {y = suc c.in-Load.id} (omega arith)) ∙ sym (ap (λ item. after_item (given_in c.args.self.now) item (row_seen c.args.row) (values_seen c.args.values.now)) c.in-Load.is ∙ after_item-Load (given_in c.args.self.now) c.in-Load.id c.in-Load.name c.in-Load.resource c.in-Load.key (row_seen c.args.row) (values_seen c.args.values.now)))

pub item-returns-in-Store : goal.item-returns-in-Store
item-returns-in-Store t c = ok_then c.store.result _ _ _ c.store.ensures (sym (ap (λ item. after_item (given_in c.args.self.now) item (row_seen c.args.row) (values_seen c.args.values.now)) c.in-Store.is ∙ after_item-Store (given_in c.args.self.now) c.in-Store.id c.in-Store.name c.in-Store.max c.in-Store.fields c.in-Store.starts (row_seen c.args.row) (values_seen c.args.values.now)))

pub item-returns-in_ok-evaluate-in-If : goal.item-returns-in_ok-evaluate-in-If
item-returns-in_ok-evaluate-in-If t c = ok_then c.items-in-If.result _ _ _ c.items-in-If.ensures ((λ i. after_items (given_in c.args.self.now) (c.as_slice-in-If.ensures i) (row_seen c.args.row) (c.in_ok-evaluate-in-If.ensures i)) ∙ sym (ap (λ item. after_item (given_in c.args.self.now) item (row_seen c.args.row) (values_seen c.args.values.now)) c.in-If.is ∙ after_item-If (given_in c.args.self.now) c.in-If.id c.in-If.cond c.in-If.items (row_seen c.args.row) (values_seen c.args.values.now)))

pub item-returns-then-not-is_live : goal.item-returns-then-not-is_live
item-returns-then-not-is_live t c =
    sym (ap (λ item. after_item (given_in c.args.self.now) item (row_seen c.args.row) (values_seen c.args.values.now)) c.in-Area.is ∙ after_item-Area (given_in c.args.self.now) c.in-Area.id c.in-Area.name c.in-Area.owner c.in-Area.items (row_seen c.args.row) (values_seen c.args.values.now) ∙ sym (ap (λ (live : Bool). if live then after_items (given_in c.args.self.now) c.in-Area.items (row_seen c.args.row) (values_seen c.args.values.now) else (values_seen c.args.values.now)) c.if-not-is_live.ensures))

pub item-returns-else-not-is_live : goal.item-returns-else-not-is_live
item-returns-else-not-is_live t c =
    ok_then c.items.result _ _ _ c.items.ensures
    (ap (λ (items : List Item). after_items (given_in c.args.self.now) items (row_seen c.args.row) (values_seen c.args.values.now)) c.as_slice.ensures
    ∙ sym (ap (λ item. after_item (given_in c.args.self.now) item (row_seen c.args.row) (values_seen c.args.values.now)) c.in-Area.is ∙ after_item-Area (given_in c.args.self.now) c.in-Area.id c.in-Area.name c.in-Area.owner c.in-Area.items (row_seen c.args.row) (values_seen c.args.values.now) ∙ sym (ap (λ (live : Bool). if live then after_items (given_in c.args.self.now) c.in-Area.items (row_seen c.args.row) (values_seen c.args.values.now) else (values_seen c.args.values.now)) c.if-not-is_live.ensures)))

pub item-returns-in-None : goal.item-returns-in-None
item-returns-in-None t c =
    sym (ap (λ item. after_item (given_in c.args.self.now) item (row_seen c.args.row) (values_seen c.args.values.now)) c.in-Each.is ∙ after_item-Each (given_in c.args.self.now) c.in-Each.id c.in-Each.store c.in-Each.items (row_seen c.args.row) (values_seen c.args.values.now) ∙ ap (λ (rows : List Row). for_each (after_items (given_in c.args.self.now) c.in-Each.items) c.in-Each.store rows (values_seen c.args.values.now)) (no_rows_held (holding_of c.args.self.now.held.now.held c.in-Each.store) c.in-None.ensures))

pub item-returns-in-Some : goal.item-returns-in-Some
item-returns-in-Some t c =
    ok_then c.each.result _ _ _ c.each.ensures
    (ap (λ (items : List Item). for_each (after_items (given_in c.args.self.now) items) c.in-Each.store c.in-Some.rows.now.rows (values_seen c.args.values.now)) c.as_slice-in-Some.ensures
    ∙ sym (ap (λ item. after_item (given_in c.args.self.now) item (row_seen c.args.row) (values_seen c.args.values.now)) c.in-Each.is ∙ after_item-Each (given_in c.args.self.now) c.in-Each.id c.in-Each.store c.in-Each.items (row_seen c.args.row) (values_seen c.args.values.now) ∙ ap (λ (rows : List Row). for_each (after_items (given_in c.args.self.now) c.in-Each.items) c.in-Each.store rows (values_seen c.args.values.now)) (rows_as_held (holding_of c.args.self.now.held.now.held c.in-Each.store) c.in-Some.rows.now c.in-Some.ensures)))

pub item-returns-in_ok-attrs-in-Element : goal.item-returns-in_ok-attrs-in-Element
item-returns-in_ok-attrs-in-Element t c =
    ok_then c.items-in-Element.result _ _ _ c.items-in-Element.ensures
    ((λ i. after_items (given_in c.args.self.now) (c.as_slice-in-Element-2.ensures i) (row_seen c.args.row) (c.in_ok-attrs-in-Element.ensures i))
    ∙ ap (λ (attrs : List Attr). after_items (given_in c.args.self.now) c.in-Element.items (row_seen c.args.row) (after_attrs (given_in c.args.self.now) attrs (row_seen c.args.row) (values_seen c.args.values.now))) c.as_slice-in-Element.ensures
    ∙ sym (ap (λ item. after_item (given_in c.args.self.now) item (row_seen c.args.row) (values_seen c.args.values.now)) c.in-Element.is ∙ after_item-Element (given_in c.args.self.now) c.in-Element.tag c.in-Element.closed c.in-Element.attrs c.in-Element.items (row_seen c.args.row) (values_seen c.args.values.now)))

pub each-loop-at-preserved : goal.each-loop-at-preserved
each-loop-at-preserved t c =
    let cut = drop_at c.args.rows.now.rows c.loop-at.at c.row_at.result.now c.row_at.ensures in
    ap (for_each (after_items (given_in c.args.self.now) c.args.items.now) c.args.store (drop (c.loop-at.at + 1) c.args.rows.now.rows)) c.in_ok-items.ensures
    ∙ sym (ap (λ (rows : List Row). for_each (after_items (given_in c.args.self.now) c.args.items.now) c.args.store rows (values_seen c.loop-at.values)) cut)
    ∙ c.loop-at.invariant
