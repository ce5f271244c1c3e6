use Rattle.std.proofs.Common.{◌≡◌, ◌++◌, ◌∷◌, [], inl, inr, map, sym, ap, ◌∙◌}
use Rattle.std.specs.List.{flat_map}
use Rattle.plain_evaluation.specs.Origins.{tell_attr}
use Rattle.id_owners.specs.Table.{in_owner, owners_told, item_owned, items_owned}
use Rattle.id_owners.proofs.Appends.{put_all, put_behind, nothing_put}
use Rattle.id_owners.proofs.OwnedForms.{owned-Signal, owned-Memo, owned-Effect, owned-Resource, owned-Load, owned-Store, owned-Cleanup, owned-Area, owned-If, owned-Each, owned-Element, owned-Text, owned-Shown}
use Rattle.id_owners.proofs.walk.+owners.Goals as goal

pub put_item_owners-returns-in-Load : goal.put_item_owners-returns-in-Load
put_item_owners-returns-in-Load t c =
    let own = c.in-Load in
    put_all c.put_two_owners.result _ _ _ _ (owned-Load c.args.item.now c.args.owner own.id own.name own.resource own.key own.is) c.put_two_owners.ensures

pub put_item_owners-returns-in_ok-put_two_owners-in-Store : goal.put_item_owners-returns-in_ok-put_two_owners-in-Store
put_item_owners-returns-in_ok-put_two_owners-in-Store t c =
    let own = c.in-Store in
    let o = c.args.owner in
    put_behind c.put_field_owners.result c.args.owners.now _ _ _ _ _ c.in_ok-put_two_owners-in-Store.ensures (owned-Store c.args.item.now o own.id own.name own.max own.fields own.starts own.is ∙ ap (λ fields. o ∷ o ∷ map (λ field. o) fields) (sym c.as_slice.ensures)) c.put_field_owners.ensures

pub put_item_owners-returns-in-Area : goal.put_item_owners-returns-in-Area
put_item_owners-returns-in-Area t c =
    let own = c.in-Area in
    put_all c.put_block.result _ _ _ _ (owned-Area c.args.item.now c.args.owner own.id own.name own.inner own.items own.is ∙ ap (λ items. c.args.owner ∷ items_owned items own.inner) (sym c.as_slice-in-Area.ensures)) c.put_block.ensures

pub put_item_owners-returns-in_ok-put_attr_owners-in-Element : goal.put_item_owners-returns-in_ok-put_attr_owners-in-Element
put_item_owners-returns-in_ok-put_attr_owners-in-Element t c =
    let own = c.in-Element in
    let o = c.args.owner in
    put_behind c.put_owners.result c.args.owners.now _ _ _ _ _ c.in_ok-put_attr_owners-in-Element.ensures (owned-Element c.args.item.now o own.tag own.closed own.attrs own.items own.is ∙ (λ i. owners_told (flat_map (tell_attr (in_owner o)) (sym c.as_slice-in-Element.ensures i)) ++ items_owned (sym c.as_slice-in-Element-2.ensures i) o)) c.put_owners.ensures

pub put_item_owners-returns-in-Cleanup : goal.put_item_owners-returns-in-Cleanup
put_item_owners-returns-in-Cleanup t c =
    let item = c.args.item.now in
    let o = c.args.owner in
    nothing_put c.args.owners.now _ (elim c.in-Cleanup.is [ inl own ↦ owned-Cleanup item o own.0 own.1 | inr own ↦ owned-Text item o own.0 own.1 ])

pub put_item_owners-returns-in-Cleanup-2 : goal.put_item_owners-returns-in-Cleanup-2
put_item_owners-returns-in-Cleanup-2 t c =
    let item = c.args.item.now in
    let o = c.args.owner in
    nothing_put c.args.owners.now _ (elim c.in-Cleanup.is [ inl own ↦ owned-Cleanup item o own.0 own.1 | inr own ↦ owned-Text item o own.0 own.1 ])

pub put_item_owners-returns-in-Signal : goal.put_item_owners-returns-in-Signal
put_item_owners-returns-in-Signal t c =
    let item = c.args.item.now in
    let o = c.args.owner in
    let one : item_owned item o ≡ o ∷ [] =
    elim c.in-Signal.is [
      | inl own ↦ owned-Signal item o own.0 own.1 own.2 own.3
      | inr others ↦
          elim others [
            | inl own ↦ owned-Memo item o own.0 own.1 own.2 own.3
            | inr others ↦
                elim others [
                  | inl own ↦ owned-Effect item o own.0 own.1 own.2 own.3
                  | inr others ↦
                      elim others [ inl own ↦ owned-Resource item o own.0 own.1 own.2 own.3 own.4 own.5 | inr own ↦ owned-Shown item o own.0 own.1 own.2 ]
                ]
          ]
    ]
    in
    put_all c.put_owner.result _ _ _ _ one c.put_owner.ensures

pub put_item_owners-returns-in-If : goal.put_item_owners-returns-in-If
put_item_owners-returns-in-If t c =
    let item = c.args.item.now in
    let o = c.args.owner in
    let both : item_owned item o ≡ o ∷ items_owned c.in-If.items o =
    elim c.in-If.is [ inl own ↦ owned-If item o own.0 own.1 c.in-If.items own.2 | inr own ↦ owned-Each item o own.0 own.1 c.in-If.items own.2 ]
    in
    put_all c.put_block-in-If.result _ _ _ _ (both ∙ ap (λ items. o ∷ items_owned items o) (sym c.as_slice-in-If.ensures)) c.put_block-in-If.ensures
