use Rattle.std.proofs.Common.{◌+◌, ◌++◌, ◌∷◌, [], inl, inr, map, sym, ap, ◌∙◌, rules, arith}
use Rattle.std.specs.List.{flat_map, list_all}
use Rattle.plain_evaluation.specs.Fits.{item_fits, store_held}
use Rattle.plain_evaluation.specs.Written.{state_of, pairs_among, write_attr, write_fields, in_row}
use Rattle.component_items.specs.declared.component.Item.{the_lemmas}
use Rattle.component_items.specs.Ids.{ids_in}
use Rattle.store_fields.specs.declared.row.Row.{Row}
use Rattle.plan_lines.specs.Scenes.{scene_in}
use Rattle.plan_lines.specs.Lines.{all_below, placed_in, placed_of, items_written}
use Rattle.plan_lines.proofs.Appends.{put_all, put_behind, nothing_put, part_more, part_at, all_put}
use Rattle.plan_lines.proofs.Bounds.{ids_at, all_at, ids-Load, ids-Store, ids-Area, ids-If, ids-Each, ids-Element, fits-Store, fits-Area, fits-If, fits-Each, fits-Element, rows_there, no_rows_there, narrow_rows}
use Rattle.plan_lines.proofs.LineForms.{lines-Signal, lines-Memo, lines-Effect, lines-Resource, lines-Load, lines-Store, lines-Cleanup, lines-Area_live, lines-Area_dead, lines-If, lines-Each, lines-Element, lines-Text, lines-Shown}
use Rattle.plan_lines.proofs.writer.Writer.+items.Goals as goal

pub put_item-overflow_add-id : goal.put_item-overflow_add-id
put_item-overflow_add-id t c =
    let below = ids-Load c.args.item.now c.requires.ids c.in-Load.id c.in-Load.name c.in-Load.resource c.in-Load.key c.in-Load.is in omega arith

pub put_item-put_rows-requires : goal.put_item-put_rows-requires
put_item-put_rows-requires t c =
    let item = c.args.item.now in
    let fit = store_held c.args.self.now.held.now.held in
    let own = c.in-Store in
    narrow_rows c.args.self.now.held.now.held own.id own.max own.fields c.in-Some.rows.now (ids-Store item c.requires.ids own.id own.name own.max own.fields own.starts own.is) (fits-Store fit item c.requires.fits own.id own.name own.max own.fields own.starts own.is) c.in-Some.ensures

pub put_item-put_items-requires : goal.put_item-put_items-requires
put_item-put_items-requires t c =
    let item = c.args.item.now in
    let fit = store_held c.args.self.now.held.now.held in
    let own = c.in-Area in
    let ids = ids-Area item c.requires.ids own.id own.name own.owner own.items own.is in
    let fits = fits-Area fit item c.requires.fits own.id own.name own.owner own.items own.is in
    (search (rules, the_lemmas) depth 8, (ap (λ items. all_below (ids_in items)) c.as_slice.ensures ∙ ids, ap (λ items. list_all (item_fits fit) items) c.as_slice.ensures ∙ fits))

pub put_item-put_items-requires-in-If : goal.put_item-put_items-requires-in-If
put_item-put_items-requires-in-If t c =
    let item = c.args.item.now in
    let fit = store_held c.args.self.now.held.now.held in
    let own = c.in-If in
    let ids = ids-If item c.requires.ids own.id own.cond own.items own.is in
    let fits = fits-If fit item c.requires.fits own.id own.cond own.items own.is in
    (search (rules, the_lemmas) depth 8, (ap (λ items. all_below (ids_in items)) c.as_slice-in-If.ensures ∙ ids, ap (λ items. list_all (item_fits fit) items) c.as_slice-in-If.ensures ∙ fits))

pub put_item-put_items-requires-in-loop-place : goal.put_item-put_items-requires-in-loop-place
put_item-put_items-requires-in-loop-place t c =
    let item = c.args.item.now in
    let fit = store_held c.args.self.now.held.now.held in
    let own = c.in-Each in
    let ids = ids-Each item c.requires.ids own.id own.store own.items own.is in
    let fits = fits-Each fit item c.requires.fits own.id own.store own.items own.is in
    (search (rules, the_lemmas) depth 8, (ap (λ items. all_below (ids_in items)) c.as_slice-in-loop-place.ensures ∙ ids, ap (λ items. list_all (item_fits fit) items) c.as_slice-in-loop-place.ensures ∙ fits))

pub put_item-put_items-requires-in-Element : goal.put_item-put_items-requires-in-Element
put_item-put_items-requires-in-Element t c =
    let item = c.args.item.now in
    let fit = store_held c.args.self.now.held.now.held in
    let own = c.in-Element in
    let ids = ids-Element item c.requires.ids own.tag own.closed own.attrs own.items own.is in
    let fits = fits-Element fit item c.requires.fits own.tag own.closed own.attrs own.items own.is in
    (search (rules, the_lemmas) depth 8, (ap (λ items. all_below (ids_in items)) c.as_slice-in-Element-2.ensures ∙ ids, ap (λ items. list_all (item_fits fit) items) c.as_slice-in-Element-2.ensures ∙ fits))

pub put_items-put_item-requires : goal.put_items-put_item-requires
put_items-put_item-requires t c =
    let fit = store_held c.args.self.now.held.now.held in
    let ids = ids_at c.args.items.now c.loop-item.item-index c.item-item.result c.requires.ids c.loop-item-test.true c.item-item.is in
    let fits = all_at (item_fits fit) c.args.items.now c.loop-item.item-index c.item-item.result c.requires.fits c.loop-item-test.true c.item-item.is in
    (search (rules, the_lemmas), (ids, fits))

pub put_item-returns-then-not-is_live : goal.put_item-returns-then-not-is_live
put_item-returns-then-not-is_live t c =
    let state = state_of c.args.self.now.held.now.held in
    let pairs = pairs_among c.args.self.now.component.now.items in
    let item = c.args.item.now in
    let scene = scene_in c.args.scene in
    let before = map placed_in c.args.lines.now.items in
    let own = c.in-Area in
    nothing_put before _ (lines-Area_dead state pairs item scene own.id own.name own.owner own.items own.is (sym c.if-not-is_live.ensures))

pub put_item-returns-in_default : goal.put_item-returns-in_default
put_item-returns-in_default t c =
    let state = state_of c.args.self.now.held.now.held in
    let pairs = pairs_among c.args.self.now.component.now.items in
    let item = c.args.item.now in
    let scene = scene_in c.args.scene in
    let before = map placed_in c.args.lines.now.items in
    let own = c.in-Each in
    nothing_put before _ (lines-Each state pairs item scene own.id own.store own.items own.is ∙ ap (λ rows. map placed_of (flat_map (λ row. items_written c.args.self.now.component.now c.args.self.now.held.now.held own.items (in_row own.store row.key scene)) rows)) (no_rows_there c.args.self.now.held.now.held own.store c.in_default.ensures))

pub put_item-loop-place-preserved : goal.put_item-loop-place-preserved
put_item-loop-place-preserved t c =
    let state = state_of c.args.self.now.held.now.held in
    let pairs = pairs_among c.args.self.now.component.now.items in
    let item = c.args.item.now in
    let scene = scene_in c.args.scene in
    let before = map placed_in c.args.lines.now.items in
    let own = c.in-Each in
    let here = map placed_in c.loop-place.lines.items in
    let part = λ (row : Row). items_written c.args.self.now.component.now c.args.self.now.held.now.held own.items (in_row own.store row.key scene) in
    part_more here _ _ _ _ (c.in_ok-put_items-in-Each.ensures ∙ (λ i. here ++ map placed_of (items_written c.args.self.now.component.now c.args.self.now.held.now.held (c.as_slice-in-loop-place.ensures i) (c.in_row-there.ensures i)))) (ap (λ lines. here ++ lines) (sym (part_at placed_of part c.in-Some-rows.rows.now.rows c.loop-place.place c.row_at.result.now c.row_at.ensures)) ∙ c.loop-place.invariant)

pub put_item-returns-in-Signal : goal.put_item-returns-in-Signal
put_item-returns-in-Signal t c =
    let state = state_of c.args.self.now.held.now.held in
    let pairs = pairs_among c.args.self.now.component.now.items in
    let item = c.args.item.now in
    let scene = scene_in c.args.scene in
    let before = map placed_in c.args.lines.now.items in
    let own = c.in-Signal in
    put_all c.put.result before _ _ _ (lines-Signal state pairs item scene own.id own.name own.start own.is ∙ ap (λ line. line ∷ []) (sym c.source.ensures)) c.put.ensures

pub put_item-returns-in-Memo : goal.put_item-returns-in-Memo
put_item-returns-in-Memo t c =
    let state = state_of c.args.self.now.held.now.held in
    let pairs = pairs_among c.args.self.now.component.now.items in
    let item = c.args.item.now in
    let scene = scene_in c.args.scene in
    let before = map placed_in c.args.lines.now.items in
    let own = c.in-Memo in
    put_all c.put-in-Memo.result before _ _ _ (lines-Memo state pairs item scene own.id own.name own.expr own.is ∙ ap (λ line. line ∷ []) (sym c.computed.ensures)) c.put-in-Memo.ensures

pub put_item-returns-in-Effect : goal.put_item-returns-in-Effect
put_item-returns-in-Effect t c =
    let state = state_of c.args.self.now.held.now.held in
    let pairs = pairs_among c.args.self.now.component.now.items in
    let item = c.args.item.now in
    let scene = scene_in c.args.scene in
    let before = map placed_in c.args.lines.now.items in
    let own = c.in-Effect in
    put_all c.put-in-Effect.result before _ _ _ (lines-Effect state pairs item scene own.id own.name own.expr own.is ∙ ap (λ line. line ∷ []) (sym c.computed-in-Effect.ensures)) c.put-in-Effect.ensures

pub put_item-returns-in-Shown : goal.put_item-returns-in-Shown
put_item-returns-in-Shown t c =
    let state = state_of c.args.self.now.held.now.held in
    let pairs = pairs_among c.args.self.now.component.now.items in
    let item = c.args.item.now in
    let scene = scene_in c.args.scene in
    let before = map placed_in c.args.lines.now.items in
    let own = c.in-Shown in
    put_all c.put-in-Shown.result before _ _ _ (lines-Shown state pairs item scene own.id own.expr own.is ∙ ap (λ line. line ∷ []) (sym c.computed-in-Shown.ensures)) c.put-in-Shown.ensures

pub put_item-returns-in_ok-put-in-Load : goal.put_item-returns-in_ok-put-in-Load
put_item-returns-in_ok-put-in-Load t c =
    let state = state_of c.args.self.now.held.now.held in
    let pairs = pairs_among c.args.self.now.component.now.items in
    let item = c.args.item.now in
    let scene = scene_in c.args.scene in
    let before = map placed_in c.args.lines.now.items in
    let own = c.in-Load in
    put_behind c.put-in-Load-2.result before _ _ _ _ _ c.in_ok-put-in-Load.ensures (lines-Load state pairs item scene own.id own.name own.resource own.key own.is ∙ (λ i. sym c.computed-in-Load.ensures i ∷ sym c.source-in-Load.ensures i ∷ [])) c.put-in-Load-2.ensures

pub put_item-returns-in-None : goal.put_item-returns-in-None
put_item-returns-in-None t c =
    let state = state_of c.args.self.now.held.now.held in
    let pairs = pairs_among c.args.self.now.component.now.items in
    let item = c.args.item.now in
    let scene = scene_in c.args.scene in
    let before = map placed_in c.args.lines.now.items in
    let own = c.in-Store in
    nothing_put before _ (lines-Store state pairs item scene own.id own.name own.max own.fields own.starts own.is ∙ ap (λ rows. map placed_of (flat_map (λ row. write_fields (2 + own.id) row.fields (in_row own.id row.key scene)) rows)) (no_rows_there c.args.self.now.held.now.held own.id c.in-None.ensures))

pub put_item-returns-in-Some : goal.put_item-returns-in-Some
put_item-returns-in-Some t c =
    let state = state_of c.args.self.now.held.now.held in
    let pairs = pairs_among c.args.self.now.component.now.items in
    let item = c.args.item.now in
    let scene = scene_in c.args.scene in
    let before = map placed_in c.args.lines.now.items in
    let own = c.in-Store in
    put_all c.put_rows.result before _ _ _ (lines-Store state pairs item scene own.id own.name own.max own.fields own.starts own.is ∙ ap (λ rows. map placed_of (flat_map (λ row. write_fields (2 + own.id) row.fields (in_row own.id row.key scene)) rows)) (rows_there c.args.self.now.held.now.held own.id c.in-Some.rows.now c.in-Some.ensures)) c.put_rows.ensures

pub put_item-returns-else-not-is_live : goal.put_item-returns-else-not-is_live
put_item-returns-else-not-is_live t c =
    let state = state_of c.args.self.now.held.now.held in
    let pairs = pairs_among c.args.self.now.component.now.items in
    let item = c.args.item.now in
    let scene = scene_in c.args.scene in
    let before = map placed_in c.args.lines.now.items in
    let own = c.in-Area in
    put_all c.put_items.result before _ _ _ (lines-Area_live state pairs item scene own.id own.name own.owner own.items own.is (sym c.if-not-is_live.ensures) ∙ (λ i. map placed_of (items_written c.args.self.now.component.now c.args.self.now.held.now.held (sym c.as_slice.ensures i) (sym c.in_area.ensures i)))) c.put_items.ensures

pub put_item-returns-in_ok-put-in-If : goal.put_item-returns-in_ok-put-in-If
put_item-returns-in_ok-put-in-If t c =
    let state = state_of c.args.self.now.held.now.held in
    let pairs = pairs_among c.args.self.now.component.now.items in
    let item = c.args.item.now in
    let scene = scene_in c.args.scene in
    let before = map placed_in c.args.lines.now.items in
    let own = c.in-If in
    put_behind c.put_items-in-If.result before _ _ _ _ _ c.in_ok-put-in-If.ensures (lines-If state pairs item scene own.id own.cond own.items own.is ∙ (λ i. sym c.computed-in-If.ensures i ∷ map placed_of (items_written c.args.self.now.component.now c.args.self.now.held.now.held (sym c.as_slice-in-If.ensures i) scene))) c.put_items-in-If.ensures

pub put_item-returns-after-loop-place : goal.put_item-returns-after-loop-place
put_item-returns-after-loop-place t c =
    let state = state_of c.args.self.now.held.now.held in
    let pairs = pairs_among c.args.self.now.component.now.items in
    let item = c.args.item.now in
    let scene = scene_in c.args.scene in
    let before = map placed_in c.args.lines.now.items in
    let own = c.in-Each in
    let part = λ (row : Row). items_written c.args.self.now.component.now c.args.self.now.held.now.held own.items (in_row own.store row.key scene) in
    all_put placed_of part before (map placed_in c.loop-place.lines.items) c.in-Some-rows.rows.now.rows c.loop-place.place (omega arith) c.loop-place.invariant ∙ ap (λ lines. before ++ lines) (sym (lines-Each state pairs item scene own.id own.store own.items own.is ∙ ap (λ rows. map placed_of (flat_map part rows)) (rows_there c.args.self.now.held.now.held own.store c.in-Some-rows.rows.now c.in-Some-rows.ensures)))

pub put_item-returns-in_ok-put_attrs-in-Element : goal.put_item-returns-in_ok-put_attrs-in-Element
put_item-returns-in_ok-put_attrs-in-Element t c =
    let state = state_of c.args.self.now.held.now.held in
    let pairs = pairs_among c.args.self.now.component.now.items in
    let item = c.args.item.now in
    let scene = scene_in c.args.scene in
    let before = map placed_in c.args.lines.now.items in
    let own = c.in-Element in
    put_behind c.put_items-in-Element.result before _ _ _ _ _ c.in_ok-put_attrs-in-Element.ensures (lines-Element state pairs item scene own.tag own.closed own.attrs own.items own.is ∙ (λ i. map placed_of (flat_map (write_attr scene) (sym c.as_slice-in-Element.ensures i)) ++ map placed_of (items_written c.args.self.now.component.now c.args.self.now.held.now.held (sym c.as_slice-in-Element-2.ensures i) scene))) c.put_items-in-Element.ensures

pub put_item-returns-in-Resource : goal.put_item-returns-in-Resource
put_item-returns-in-Resource t c =
    let state = state_of c.args.self.now.held.now.held in
    let pairs = pairs_among c.args.self.now.component.now.items in
    let item = c.args.item.now in
    let scene = scene_in c.args.scene in
    let before = map placed_in c.args.lines.now.items in
    nothing_put before _ (
    elim c.in-Resource.is [
      | inl own ↦ lines-Resource state pairs item scene own.0 own.1 own.2 own.3 own.4 own.5
      | inr others ↦
          elim others [ inl own ↦ lines-Cleanup state pairs item scene own.0 own.1 | inr own ↦ lines-Text state pairs item scene own.0 own.1 ]
    ])

pub put_item-returns-in-Resource-2 : goal.put_item-returns-in-Resource-2
put_item-returns-in-Resource-2 t c =
    let state = state_of c.args.self.now.held.now.held in
    let pairs = pairs_among c.args.self.now.component.now.items in
    let item = c.args.item.now in
    let scene = scene_in c.args.scene in
    let before = map placed_in c.args.lines.now.items in
    nothing_put before _ (
    elim c.in-Resource.is [
      | inl own ↦ lines-Resource state pairs item scene own.0 own.1 own.2 own.3 own.4 own.5
      | inr others ↦
          elim others [ inl own ↦ lines-Cleanup state pairs item scene own.0 own.1 | inr own ↦ lines-Text state pairs item scene own.0 own.1 ]
    ])

pub put_item-returns-in-Resource-3 : goal.put_item-returns-in-Resource-3
put_item-returns-in-Resource-3 t c =
    let state = state_of c.args.self.now.held.now.held in
    let pairs = pairs_among c.args.self.now.component.now.items in
    let item = c.args.item.now in
    let scene = scene_in c.args.scene in
    let before = map placed_in c.args.lines.now.items in
    nothing_put before _ (
    elim c.in-Resource.is [
      | inl own ↦ lines-Resource state pairs item scene own.0 own.1 own.2 own.3 own.4 own.5
      | inr others ↦
          elim others [ inl own ↦ lines-Cleanup state pairs item scene own.0 own.1 | inr own ↦ lines-Text state pairs item scene own.0 own.1 ]
    ])
