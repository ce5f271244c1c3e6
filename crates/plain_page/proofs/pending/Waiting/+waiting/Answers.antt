use Rattle.std.proofs.Common.{ℕ, ◌+◌, ◌<◌, ◌++◌, drop, length, if◌then◌else◌, Bool, List, [], sym, ap, ◌∙◌, append_assoc, arith}
use Rattle.std.specs.List.{flat_map}
use Rattle.std.proofs.lemmas.List.{append-nil}
use Rattle.store_fields.specs.declared.row.Row.{Row}
use Rattle.component_items.specs.declared.component.Item.{Item}
use Rattle.plain_evaluation.specs.Held.{holding_of}
use Rattle.plain_evaluation.specs.Written.{state_of}
use Rattle.plain_values.specs.Seen.{values_seen}
use Rattle.plain_page.specs.Waiting.{item_waiting, items_waiting}
use Rattle.plain_values.proofs.PlaceLemmas.{drop_some, ok_then, no_rows_held, rows_as_held}
use Rattle.plain_page.proofs.WaitingLemmas.{waiting-Signal, waiting-Memo, waiting-Effect, waiting-Resource, waiting-Load, waiting-Store, waiting-Cleanup, waiting-Area, waiting-If, waiting-Each, waiting-Element, waiting-Text, waiting-Shown}
use Rattle.plain_page.proofs.pending.Waiting.+waiting.Goals as goal

pub item-returns-in-Signal : goal.item-returns-in-Signal
item-returns-in-Signal t c = sym (ap (λ item. c.args.loads.now.items ++ item_waiting (state_of c.args.self.now.held.now.held) (values_seen c.args.self.now.values.now) item) c.in-Signal.is ∙ ap (λ more. c.args.loads.now.items ++ more) (waiting-Signal (state_of c.args.self.now.held.now.held) (values_seen c.args.self.now.values.now) c.in-Signal.id c.in-Signal.name c.in-Signal.start) ∙ append-nil c.args.loads.now.items)

pub item-returns-in-Memo : goal.item-returns-in-Memo
item-returns-in-Memo t c = sym (ap (λ item. c.args.loads.now.items ++ item_waiting (state_of c.args.self.now.held.now.held) (values_seen c.args.self.now.values.now) item) c.in-Memo.is ∙ ap (λ more. c.args.loads.now.items ++ more) (waiting-Memo (state_of c.args.self.now.held.now.held) (values_seen c.args.self.now.values.now) c.in-Memo.id c.in-Memo.name c.in-Memo.expr) ∙ append-nil c.args.loads.now.items)

pub item-returns-in-Effect : goal.item-returns-in-Effect
item-returns-in-Effect t c = sym (ap (λ item. c.args.loads.now.items ++ item_waiting (state_of c.args.self.now.held.now.held) (values_seen c.args.self.now.values.now) item) c.in-Effect.is ∙ ap (λ more. c.args.loads.now.items ++ more) (waiting-Effect (state_of c.args.self.now.held.now.held) (values_seen c.args.self.now.values.now) c.in-Effect.id c.in-Effect.name c.in-Effect.expr) ∙ append-nil c.args.loads.now.items)

pub item-returns-in-Resource : goal.item-returns-in-Resource
item-returns-in-Resource t c = sym (ap (λ item. c.args.loads.now.items ++ item_waiting (state_of c.args.self.now.held.now.held) (values_seen c.args.self.now.values.now) item) c.in-Resource.is ∙ ap (λ more. c.args.loads.now.items ++ more) (waiting-Resource (state_of c.args.self.now.held.now.held) (values_seen c.args.self.now.values.now) c.in-Resource.id c.in-Resource.name c.in-Resource.after c.in-Resource.keys c.in-Resource.values) ∙ append-nil c.args.loads.now.items)

pub item-returns-in-Store : goal.item-returns-in-Store
item-returns-in-Store t c = sym (ap (λ item. c.args.loads.now.items ++ item_waiting (state_of c.args.self.now.held.now.held) (values_seen c.args.self.now.values.now) item) c.in-Store.is ∙ ap (λ more. c.args.loads.now.items ++ more) (waiting-Store (state_of c.args.self.now.held.now.held) (values_seen c.args.self.now.values.now) c.in-Store.id c.in-Store.name c.in-Store.max c.in-Store.fields c.in-Store.starts) ∙ append-nil c.args.loads.now.items)

pub item-returns-in-Cleanup : goal.item-returns-in-Cleanup
item-returns-in-Cleanup t c = sym (ap (λ item. c.args.loads.now.items ++ item_waiting (state_of c.args.self.now.held.now.held) (values_seen c.args.self.now.values.now) item) c.in-Cleanup.is ∙ ap (λ more. c.args.loads.now.items ++ more) (waiting-Cleanup (state_of c.args.self.now.held.now.held) (values_seen c.args.self.now.values.now) c.in-Cleanup.text) ∙ append-nil c.args.loads.now.items)

pub item-returns-in-Text : goal.item-returns-in-Text
item-returns-in-Text t c = sym (ap (λ item. c.args.loads.now.items ++ item_waiting (state_of c.args.self.now.held.now.held) (values_seen c.args.self.now.values.now) item) c.in-Text.is ∙ ap (λ more. c.args.loads.now.items ++ more) (waiting-Text (state_of c.args.self.now.held.now.held) (values_seen c.args.self.now.values.now) c.in-Text.text) ∙ append-nil c.args.loads.now.items)

pub item-returns-in-Shown : goal.item-returns-in-Shown
item-returns-in-Shown t c = sym (ap (λ item. c.args.loads.now.items ++ item_waiting (state_of c.args.self.now.held.now.held) (values_seen c.args.self.now.values.now) item) c.in-Shown.is ∙ ap (λ more. c.args.loads.now.items ++ more) (waiting-Shown (state_of c.args.self.now.held.now.held) (values_seen c.args.self.now.values.now) c.in-Shown.id c.in-Shown.expr) ∙ append-nil c.args.loads.now.items)

pub item-returns-in-Load : goal.item-returns-in-Load
item-returns-in-Load t c = ok_then c.load.result _ _ _ c.load.ensures (sym (ap (λ item. c.args.loads.now.items ++ item_waiting (state_of c.args.self.now.held.now.held) (values_seen c.args.self.now.values.now) item) c.in-Load.is ∙ ap (λ more. c.args.loads.now.items ++ more) (waiting-Load (state_of c.args.self.now.held.now.held) (values_seen c.args.self.now.values.now) c.in-Load.id c.in-Load.name c.in-Load.resource c.in-Load.key)))

pub item-returns-then-not-is_live : goal.item-returns-then-not-is_live
item-returns-then-not-is_live t c = sym (ap (λ item. c.args.loads.now.items ++ item_waiting (state_of c.args.self.now.held.now.held) (values_seen c.args.self.now.values.now) item) c.in-Area.is ∙ ap (λ more. c.args.loads.now.items ++ more) (waiting-Area (state_of c.args.self.now.held.now.held) (values_seen c.args.self.now.values.now) c.in-Area.id c.in-Area.name c.in-Area.owner c.in-Area.items ∙ sym (ap (λ (b : Bool). if b then items_waiting (state_of c.args.self.now.held.now.held) (values_seen c.args.self.now.values.now) c.in-Area.items else []) c.if-not-is_live.ensures)) ∙ append-nil c.args.loads.now.items)

pub item-returns-else-not-is_live : goal.item-returns-else-not-is_live
item-returns-else-not-is_live t c =
    ok_then c.items.result _ _ _ c.items.ensures (ap (λ (items : List Item). c.args.loads.now.items ++ items_waiting (state_of c.args.self.now.held.now.held) (values_seen c.args.self.now.values.now) items) c.as_slice.ensures ∙ sym (ap (λ item. c.args.loads.now.items ++ item_waiting (state_of c.args.self.now.held.now.held) (values_seen c.args.self.now.values.now) item) c.in-Area.is ∙ ap (λ more. c.args.loads.now.items ++ more) (waiting-Area (state_of c.args.self.now.held.now.held) (values_seen c.args.self.now.values.now) c.in-Area.id c.in-Area.name c.in-Area.owner c.in-Area.items ∙ sym (ap (λ (b : Bool). if b then items_waiting (state_of c.args.self.now.held.now.held) (values_seen c.args.self.now.values.now) c.in-Area.items else []) c.if-not-is_live.ensures))))

pub item-returns-in-If : goal.item-returns-in-If
item-returns-in-If t c = ok_then c.items-in-If.result _ _ _ c.items-in-If.ensures (ap (λ (items : List Item). c.args.loads.now.items ++ items_waiting (state_of c.args.self.now.held.now.held) (values_seen c.args.self.now.values.now) items) c.as_slice-in-If.ensures ∙ sym (ap (λ item. c.args.loads.now.items ++ item_waiting (state_of c.args.self.now.held.now.held) (values_seen c.args.self.now.values.now) item) c.in-If.is ∙ ap (λ more. c.args.loads.now.items ++ more) (waiting-If (state_of c.args.self.now.held.now.held) (values_seen c.args.self.now.values.now) c.in-If.id c.in-If.cond c.in-If.items)))

pub item-returns-in-Element : goal.item-returns-in-Element
item-returns-in-Element t c = ok_then c.items-in-Element.result _ _ _ c.items-in-Element.ensures (ap (λ (items : List Item). c.args.loads.now.items ++ items_waiting (state_of c.args.self.now.held.now.held) (values_seen c.args.self.now.values.now) items) c.as_slice-in-Element.ensures ∙ sym (ap (λ item. c.args.loads.now.items ++ item_waiting (state_of c.args.self.now.held.now.held) (values_seen c.args.self.now.values.now) item) c.in-Element.is ∙ ap (λ more. c.args.loads.now.items ++ more) (waiting-Element (state_of c.args.self.now.held.now.held) (values_seen c.args.self.now.values.now) c.in-Element.tag c.in-Element.closed c.in-Element.attrs c.in-Element.items)))

pub item-returns-in-None : goal.item-returns-in-None
item-returns-in-None t c = sym (ap (λ item. c.args.loads.now.items ++ item_waiting (state_of c.args.self.now.held.now.held) (values_seen c.args.self.now.values.now) item) c.in-Each.is ∙ ap (λ more. c.args.loads.now.items ++ more) (waiting-Each (state_of c.args.self.now.held.now.held) (values_seen c.args.self.now.values.now) c.in-Each.id c.in-Each.store c.in-Each.items ∙ ap (λ (rows : List Row). flat_map (λ row. items_waiting (state_of c.args.self.now.held.now.held) (values_seen c.args.self.now.values.now) c.in-Each.items) rows) (no_rows_held (holding_of c.args.self.now.held.now.held c.in-Each.store) c.in-None.ensures)) ∙ append-nil c.args.loads.now.items)

pub item-returns-in-Some : goal.item-returns-in-Some
item-returns-in-Some t c =
    ok_then c.each.result _ _ _ c.each.ensures
    (ap (λ (items : List Item). c.args.loads.now.items ++ flat_map (λ row. items_waiting (state_of c.args.self.now.held.now.held) (values_seen c.args.self.now.values.now) items) c.in-Some.rows.now.rows) c.as_slice-in-Some.ensures
    ∙ sym (ap (λ item. c.args.loads.now.items ++ item_waiting (state_of c.args.self.now.held.now.held) (values_seen c.args.self.now.values.now) item) c.in-Each.is ∙ ap (λ more. c.args.loads.now.items ++ more) (waiting-Each (state_of c.args.self.now.held.now.held) (values_seen c.args.self.now.values.now) c.in-Each.id c.in-Each.store c.in-Each.items ∙ ap (λ (rows : List Row). flat_map (λ row. items_waiting (state_of c.args.self.now.held.now.held) (values_seen c.args.self.now.values.now) c.in-Each.items) rows) (rows_as_held (holding_of c.args.self.now.held.now.held c.in-Each.store) c.in-Some.rows.now c.in-Some.ensures))))

pub each-loop-preserved : goal.each-loop-preserved
each-loop-preserved t c =
    let within : c.loop.counter < length c.args.rows.now.rows = omega arith in
    let cut = drop_some c.args.rows.now.rows c.loop.counter within in
    let here : List ℕ = items_waiting (state_of c.args.self.now.held.now.held) (values_seen c.args.self.now.values.now) c.args.items.now in
    let rest : List ℕ = flat_map (λ row. here) (drop (c.loop.counter + 1) c.args.rows.now.rows) in
    ap (λ more. more ++ rest) c.in_ok-items.ensures
    ∙ append_assoc c.loop.loads.items here rest
    ∙ sym (ap (λ (rows : List Row). c.loop.loads.items ++ flat_map (λ row. here) rows) cut.1)
    ∙ c.loop.invariant
