use Rattle.std.proofs.Common.{◌≡◌, ◌++◌, ◌∷◌, [], inl, inr, true, map, sym, ap, ◌∙◌}
use Rattle.std.specs.List.{flat_map}
use Rattle.plain_evaluation.specs.Keyed.{item_keyed, items_keyed, keyed_attr}
use Rattle.plan_lines.specs.Flags.{flags_of}
use Rattle.plan_lines.proofs.Appends.{put_all, put_behind, nothing_put}
use Rattle.plan_lines.proofs.KeyedForms.{flags-Signal, flags-Memo, flags-Effect, flags-Resource, flags-Load, flags-Store, flags-Cleanup, flags-Area, flags-If, flags-Each, flags-Element, flags-Text, flags-Shown}
use Rattle.plan_lines.proofs.keyed.+flags.Goals as goal

pub put_item_flags-returns-in-Load : goal.put_item_flags-returns-in-Load
put_item_flags-returns-in-Load t c =
    let own = c.in-Load in
    put_all c.put_two_flags.result _ _ _ _ (flags-Load c.args.item.now c.args.inside own.id own.name own.resource own.key own.is) c.put_two_flags.ensures

pub put_item_flags-returns-in_ok-put_two_flags-in-Store : goal.put_item_flags-returns-in_ok-put_two_flags-in-Store
put_item_flags-returns-in_ok-put_two_flags-in-Store t c =
    let own = c.in-Store in
    put_behind c.put_field_flags.result c.args.flags.now.items _ _ _ _ _ c.in_ok-put_two_flags-in-Store.ensures (flags-Store c.args.item.now c.args.inside own.id own.name own.max own.fields own.starts own.is ∙ ap (λ fields. c.args.inside ∷ c.args.inside ∷ map (λ field. true) fields) (sym c.as_slice.ensures)) c.put_field_flags.ensures

pub put_item_flags-returns-in_ok-put_flag-in-Each : goal.put_item_flags-returns-in_ok-put_flag-in-Each
put_item_flags-returns-in_ok-put_flag-in-Each t c =
    let own = c.in-Each in
    put_behind c.put_flags.result c.args.flags.now.items _ _ _ _ _ c.in_ok-put_flag-in-Each.ensures (flags-Each c.args.item.now c.args.inside own.id own.store own.items own.is ∙ ap (λ items. c.args.inside ∷ flags_of (items_keyed items true)) (sym c.as_slice-in-Each.ensures)) c.put_flags.ensures

pub put_item_flags-returns-in_ok-put_attr_flags-in-Element : goal.put_item_flags-returns-in_ok-put_attr_flags-in-Element
put_item_flags-returns-in_ok-put_attr_flags-in-Element t c =
    let own = c.in-Element in
    put_behind c.put_flags-in-Element.result c.args.flags.now.items _ _ _ _ _ c.in_ok-put_attr_flags-in-Element.ensures (flags-Element c.args.item.now c.args.inside own.tag own.closed own.attrs own.items own.is ∙ (λ i. flags_of (flat_map (keyed_attr c.args.inside) (sym c.as_slice-in-Element.ensures i)) ++ flags_of (items_keyed (sym c.as_slice-in-Element-2.ensures i) c.args.inside))) c.put_flags-in-Element.ensures

pub put_item_flags-returns-in-Cleanup : goal.put_item_flags-returns-in-Cleanup
put_item_flags-returns-in-Cleanup t c =
    let item = c.args.item.now in
    let inside = c.args.inside in
    nothing_put c.args.flags.now.items _ (elim c.in-Cleanup.is [ inl own ↦ flags-Cleanup item inside own.0 own.1 | inr own ↦ flags-Text item inside own.0 own.1 ])

pub put_item_flags-returns-in-Cleanup-2 : goal.put_item_flags-returns-in-Cleanup-2
put_item_flags-returns-in-Cleanup-2 t c =
    let item = c.args.item.now in
    let inside = c.args.inside in
    nothing_put c.args.flags.now.items _ (elim c.in-Cleanup.is [ inl own ↦ flags-Cleanup item inside own.0 own.1 | inr own ↦ flags-Text item inside own.0 own.1 ])

pub put_item_flags-returns-in-Signal : goal.put_item_flags-returns-in-Signal
put_item_flags-returns-in-Signal t c =
    let item = c.args.item.now in
    let inside = c.args.inside in
    let one : flags_of (item_keyed item inside) ≡ inside ∷ [] =
    elim c.in-Signal.is [
      | inl own ↦ flags-Signal item inside own.0 own.1 own.2 own.3
      | inr others ↦
          elim others [
            | inl own ↦ flags-Memo item inside own.0 own.1 own.2 own.3
            | inr others ↦
                elim others [
                  | inl own ↦ flags-Effect item inside own.0 own.1 own.2 own.3
                  | inr others ↦
                      elim others [ inl own ↦ flags-Resource item inside own.0 own.1 own.2 own.3 own.4 own.5 | inr own ↦ flags-Shown item inside own.0 own.1 own.2 ]
                ]
          ]
    ]
    in
    put_all c.put_flag-in-Signal.result _ _ _ _ one c.put_flag-in-Signal.ensures

pub put_item_flags-returns-in_ok-put_flag-in-Area : goal.put_item_flags-returns-in_ok-put_flag-in-Area
put_item_flags-returns-in_ok-put_flag-in-Area t c =
    let item = c.args.item.now in
    let inside = c.args.inside in
    let both : flags_of (item_keyed item inside) ≡ (inside ∷ []) ++ flags_of (items_keyed c.in-Area.items inside) =
    elim c.in-Area.is [ inl own ↦ flags-Area item inside own.0 own.1 own.2 c.in-Area.items own.3 | inr own ↦ flags-If item inside own.0 own.1 c.in-Area.items own.2 ]
    in
    put_behind c.put_flags-in-Area.result c.args.flags.now.items _ _ _ _ _ c.in_ok-put_flag-in-Area.ensures (both ∙ ap (λ items. inside ∷ flags_of (items_keyed items inside)) (sym c.as_slice-in-Area.ensures)) c.put_flags-in-Area.ensures
