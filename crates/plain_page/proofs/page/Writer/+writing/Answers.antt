use Rattle.std.proofs.Common.{◌≡◌, ℕ, ◌+◌, ◌++◌, drop, if◌then◌else◌, Bool, false, List, [], Some, sym, ap, ◌∙◌, append_assoc}
use Rattle.std.specs.List.{flat_map}
use Rattle.std.proofs.lemmas.List.{append-nil}
use Rattle.std.proofs.lemmas.List.Folds.{flat_map-map}
use Rattle.values.specs.Evaluation.{truth}
use Rattle.html_out.specs.Shown.{escaped}
use Rattle.store_fields.specs.declared.row.Row.{Row}
use Rattle.component_items.specs.declared.component.Attr.{Attr}
use Rattle.component_items.specs.declared.component.Item.{Item}
use Rattle.plain_evaluation.specs.Held.{holding_of, rows_held}
use Rattle.plain_evaluation.specs.Page.{opening, closing, item_bytes, items_bytes}
use Rattle.plain_evaluation.proofs.PageLemmas.{item_bytes-Signal, item_bytes-Memo, item_bytes-Effect, item_bytes-Resource, item_bytes-Load, item_bytes-Store, item_bytes-Cleanup, item_bytes-Area, item_bytes-If, item_bytes-Each, item_bytes-Element, item_bytes-Text, item_bytes-Shown}
use Rattle.plain_page.specs.Buffer.{bytes_of}
use Rattle.plain_page.specs.Seen.{view_in}
use Rattle.plain_values.proofs.PlaceLemmas.{drop_at, ok_then, no_rows_held, rows_as_held}
use Rattle.plain_page.proofs.page.Writer.+writing.Goals as goal

pub item-returns-in-Signal : goal.item-returns-in-Signal
item-returns-in-Signal t c = sym (ap (λ item. (bytes_of c.args.page.now) ++ item_bytes (view_in c.args.self.now) item c.args.key) c.in-Signal.is ∙ ap (λ bytes. (bytes_of c.args.page.now) ++ bytes) (item_bytes-Signal (view_in c.args.self.now) c.in-Signal.id c.in-Signal.name c.in-Signal.start c.args.key) ∙ append-nil (bytes_of c.args.page.now))

pub item-returns-in-Memo : goal.item-returns-in-Memo
item-returns-in-Memo t c = sym (ap (λ item. (bytes_of c.args.page.now) ++ item_bytes (view_in c.args.self.now) item c.args.key) c.in-Memo.is ∙ ap (λ bytes. (bytes_of c.args.page.now) ++ bytes) (item_bytes-Memo (view_in c.args.self.now) c.in-Memo.id c.in-Memo.name c.in-Memo.expr c.args.key) ∙ append-nil (bytes_of c.args.page.now))

pub item-returns-in-Effect : goal.item-returns-in-Effect
item-returns-in-Effect t c = sym (ap (λ item. (bytes_of c.args.page.now) ++ item_bytes (view_in c.args.self.now) item c.args.key) c.in-Effect.is ∙ ap (λ bytes. (bytes_of c.args.page.now) ++ bytes) (item_bytes-Effect (view_in c.args.self.now) c.in-Effect.id c.in-Effect.name c.in-Effect.expr c.args.key) ∙ append-nil (bytes_of c.args.page.now))

pub item-returns-in-Resource : goal.item-returns-in-Resource
item-returns-in-Resource t c = sym (ap (λ item. (bytes_of c.args.page.now) ++ item_bytes (view_in c.args.self.now) item c.args.key) c.in-Resource.is ∙ ap (λ bytes. (bytes_of c.args.page.now) ++ bytes) (item_bytes-Resource (view_in c.args.self.now) c.in-Resource.id c.in-Resource.name c.in-Resource.after c.in-Resource.keys c.in-Resource.values c.args.key) ∙ append-nil (bytes_of c.args.page.now))

pub item-returns-in-Load : goal.item-returns-in-Load
item-returns-in-Load t c = sym (ap (λ item. (bytes_of c.args.page.now) ++ item_bytes (view_in c.args.self.now) item c.args.key) c.in-Load.is ∙ ap (λ bytes. (bytes_of c.args.page.now) ++ bytes) (item_bytes-Load (view_in c.args.self.now) c.in-Load.id c.in-Load.name c.in-Load.resource c.in-Load.key c.args.key) ∙ append-nil (bytes_of c.args.page.now))

pub item-returns-in-Store : goal.item-returns-in-Store
item-returns-in-Store t c = sym (ap (λ item. (bytes_of c.args.page.now) ++ item_bytes (view_in c.args.self.now) item c.args.key) c.in-Store.is ∙ ap (λ bytes. (bytes_of c.args.page.now) ++ bytes) (item_bytes-Store (view_in c.args.self.now) c.in-Store.id c.in-Store.name c.in-Store.max c.in-Store.fields c.in-Store.starts c.args.key) ∙ append-nil (bytes_of c.args.page.now))

pub item-returns-in-Cleanup : goal.item-returns-in-Cleanup
item-returns-in-Cleanup t c = sym (ap (λ item. (bytes_of c.args.page.now) ++ item_bytes (view_in c.args.self.now) item c.args.key) c.in-Cleanup.is ∙ ap (λ bytes. (bytes_of c.args.page.now) ++ bytes) (item_bytes-Cleanup (view_in c.args.self.now) c.in-Cleanup.text c.args.key) ∙ append-nil (bytes_of c.args.page.now))

pub item-returns-then-not-is_live : goal.item-returns-then-not-is_live
item-returns-then-not-is_live t c = sym (ap (λ item. (bytes_of c.args.page.now) ++ item_bytes (view_in c.args.self.now) item c.args.key) c.in-Area.is ∙ ap (λ bytes. (bytes_of c.args.page.now) ++ bytes) (item_bytes-Area (view_in c.args.self.now) c.in-Area.id c.in-Area.name c.in-Area.owner c.in-Area.items c.args.key ∙ sym (ap (λ (b : Bool). if b then items_bytes (view_in c.args.self.now) c.in-Area.items c.args.key else []) c.if-not-is_live.ensures)) ∙ append-nil (bytes_of c.args.page.now))

pub item-returns-else-not-is_live : goal.item-returns-else-not-is_live
item-returns-else-not-is_live t c =
    ok_then c.items.result _ _ _ c.items.ensures (ap (λ (items : List Item). (bytes_of c.args.page.now) ++ items_bytes (view_in c.args.self.now) items c.args.key) c.as_slice.ensures ∙ sym (ap (λ item. (bytes_of c.args.page.now) ++ item_bytes (view_in c.args.self.now) item c.args.key) c.in-Area.is ∙ ap (λ bytes. (bytes_of c.args.page.now) ++ bytes) (item_bytes-Area (view_in c.args.self.now) c.in-Area.id c.in-Area.name c.in-Area.owner c.in-Area.items c.args.key ∙ sym (ap (λ (b : Bool). if b then items_bytes (view_in c.args.self.now) c.in-Area.items c.args.key else []) c.if-not-is_live.ensures))))

pub item-returns-then-not-truth : goal.item-returns-then-not-truth
item-returns-then-not-truth t c = sym (ap (λ item. (bytes_of c.args.page.now) ++ item_bytes (view_in c.args.self.now) item c.args.key) c.in-If.is ∙ ap (λ bytes. (bytes_of c.args.page.now) ++ bytes) (item_bytes-If (view_in c.args.self.now) c.in-If.id c.in-If.cond c.in-If.items c.args.key ∙ sym (ap (λ (b : Bool). if b then items_bytes (view_in c.args.self.now) c.in-If.items c.args.key else []) (c.if-not-truth.ensures ∙ ap truth c.value.ensures))) ∙ append-nil (bytes_of c.args.page.now))

pub item-returns-else-not-truth : goal.item-returns-else-not-truth
item-returns-else-not-truth t c =
    ok_then c.items-in-If.result _ _ _ c.items-in-If.ensures (ap (λ (items : List Item). (bytes_of c.args.page.now) ++ items_bytes (view_in c.args.self.now) items c.args.key) c.as_slice-in-If.ensures ∙ sym (ap (λ item. (bytes_of c.args.page.now) ++ item_bytes (view_in c.args.self.now) item c.args.key) c.in-If.is ∙ ap (λ bytes. (bytes_of c.args.page.now) ++ bytes) (item_bytes-If (view_in c.args.self.now) c.in-If.id c.in-If.cond c.in-If.items c.args.key ∙ sym (ap (λ (b : Bool). if b then items_bytes (view_in c.args.self.now) c.in-If.items c.args.key else []) (c.if-not-truth.ensures ∙ ap truth c.value.ensures)))))

pub item-returns-in-None : goal.item-returns-in-None
item-returns-in-None t c = sym (ap (λ item. (bytes_of c.args.page.now) ++ item_bytes (view_in c.args.self.now) item c.args.key) c.in-Each.is ∙ ap (λ bytes. (bytes_of c.args.page.now) ++ bytes) (item_bytes-Each (view_in c.args.self.now) c.in-Each.id c.in-Each.store c.in-Each.items c.args.key ∙ flat_map-map (λ row. items_bytes (view_in c.args.self.now) c.in-Each.items (Some row)) (λ row. row.key) (rows_held c.args.self.now.held.now.held c.in-Each.store) ∙ ap (λ (rows : List Row). flat_map (λ row. items_bytes (view_in c.args.self.now) c.in-Each.items (Some row.key)) rows) (no_rows_held (holding_of c.args.self.now.held.now.held c.in-Each.store) c.in-None.ensures)) ∙ append-nil (bytes_of c.args.page.now))

pub item-returns-in-Some : goal.item-returns-in-Some
item-returns-in-Some t c =
    ok_then c.each.result _ _ _ c.each.ensures
    (ap (λ (items : List Item). (bytes_of c.args.page.now) ++ flat_map (λ row. items_bytes (view_in c.args.self.now) items (Some row.key)) c.in-Some.rows.now.rows) c.as_slice-in-Some.ensures
    ∙ sym (ap (λ item. (bytes_of c.args.page.now) ++ item_bytes (view_in c.args.self.now) item c.args.key) c.in-Each.is ∙ ap (λ bytes. (bytes_of c.args.page.now) ++ bytes) (item_bytes-Each (view_in c.args.self.now) c.in-Each.id c.in-Each.store c.in-Each.items c.args.key ∙ flat_map-map (λ row. items_bytes (view_in c.args.self.now) c.in-Each.items (Some row)) (λ row. row.key) (rows_held c.args.self.now.held.now.held c.in-Each.store) ∙ ap (λ (rows : List Row). flat_map (λ row. items_bytes (view_in c.args.self.now) c.in-Each.items (Some row.key)) rows) (rows_as_held (holding_of c.args.self.now.held.now.held c.in-Each.store) c.in-Some.rows.now c.in-Some.ensures))))

pub item-returns-in_ok-items-in-Element : goal.item-returns-in_ok-items-in-Element
item-returns-in_ok-items-in-Element t c =
    let opened : List ℕ = opening (view_in c.args.self.now) c.args.key c.in-Element.tag c.in-Element.attrs in
    let inside : List ℕ = items_bytes (view_in c.args.self.now) c.in-Element.items c.args.key in
    let closed : List ℕ = closing (view_in c.args.self.now) c.in-Element.tag c.in-Element.closed in
    let first : bytes_of c.opening.new.page ≡ (bytes_of c.args.page.now) ++ opened = c.in_ok-opening-in-Element.ensures ∙ ap (λ (attrs : List Attr). (bytes_of c.args.page.now) ++ opening (view_in c.args.self.now) c.args.key c.in-Element.tag attrs) c.as_slice-in-Element.ensures in
    let second : bytes_of c.items-in-Element.new.page ≡ ((bytes_of c.args.page.now) ++ opened) ++ inside = c.in_ok-items-in-Element.ensures ∙ (λ i. first i ++ items_bytes (view_in c.args.self.now) (c.as_slice-in-Element-2.ensures i) c.args.key) in
    ok_then c.closing.result _ _ _ c.closing.ensures
    (ap (λ bytes. bytes ++ closed) (second ∙ append_assoc (bytes_of c.args.page.now) opened inside)
    ∙ append_assoc (bytes_of c.args.page.now) (opened ++ inside) closed
    ∙ sym (ap (λ item. (bytes_of c.args.page.now) ++ item_bytes (view_in c.args.self.now) item c.args.key) c.in-Element.is ∙ ap (λ bytes. (bytes_of c.args.page.now) ++ bytes) (item_bytes-Element (view_in c.args.self.now) c.in-Element.tag c.in-Element.closed c.in-Element.attrs c.in-Element.items c.args.key)))

pub item-returns-in-Text : goal.item-returns-in-Text
item-returns-in-Text t c =
    ok_then c.put_text.result _ _ _ c.put_text.ensures (ap (λ text. (bytes_of c.args.page.now) ++ escaped false text) c.text.ensures ∙ sym (ap (λ item. (bytes_of c.args.page.now) ++ item_bytes (view_in c.args.self.now) item c.args.key) c.in-Text.is ∙ ap (λ bytes. (bytes_of c.args.page.now) ++ bytes) (item_bytes-Text (view_in c.args.self.now) c.in-Text.text c.args.key)))

pub item-returns-in-Shown : goal.item-returns-in-Shown
item-returns-in-Shown t c =
    ok_then c.shown.result _ _ _ c.shown.ensures (sym (ap (λ item. (bytes_of c.args.page.now) ++ item_bytes (view_in c.args.self.now) item c.args.key) c.in-Shown.is ∙ ap (λ bytes. (bytes_of c.args.page.now) ++ bytes) (item_bytes-Shown (view_in c.args.self.now) c.in-Shown.id c.in-Shown.expr c.args.key)))

pub each-loop-at-preserved : goal.each-loop-at-preserved
each-loop-at-preserved t c =
    let cut = drop_at c.args.rows.now.rows c.loop-at.at c.row_at.result.now c.row_at.ensures in
    let here : List ℕ = items_bytes (view_in c.args.self.now) c.args.items.now (Some c.row_at.result.now.key) in
    let rest : List ℕ = flat_map (λ row. items_bytes (view_in c.args.self.now) c.args.items.now (Some row.key)) (drop (c.loop-at.at + 1) c.args.rows.now.rows) in
    ap (λ bytes. bytes ++ rest) c.in_ok-items.ensures
    ∙ append_assoc (bytes_of c.loop-at.page) here rest
    ∙ sym (ap (λ (rows : List Row). bytes_of c.loop-at.page ++ flat_map (λ row. items_bytes (view_in c.args.self.now) c.args.items.now (Some row.key)) rows) cut)
    ∙ c.loop-at.invariant
