use Rattle.std.proofs.Common.{◌≡◌, ◌∷◌, inl, inr, map, Some, sym, ap, ◌∙◌}
use Rattle.plan_meaning.specs.Owners.{item_owning, owners_inside}
use Rattle.plan_lines.proofs.Appends.{put_all, put_behind, nothing_put}
use Rattle.node_plan.specs.OwnersOf.{cleanups_in}
use Rattle.node_plan.proofs.OwnersLemmas.{owners-Area, owners-If, owners-Each, owners-Element, no_owners}
use Rattle.node_plan.proofs.owners.+owners.Goals as goal

pub put_item_owners-returns-in_ok-push-in-Area : goal.put_item_owners-returns-in_ok-push-in-Area
put_item_owners-returns-in_ok-push-in-Area t c =
    let own = c.in-Area in
    let cleanups : cleanups_in own.items ≡ c.in_ok-cleanups-in-Area.cleanups = ap cleanups_in (sym c.as_slice.ensures) ∙ sym c.in_ok-cleanups-in-Area.ensures in
    put_behind c.put_owners.result c.args.owners.now.items _ _ _ _ _ c.in_ok-push-in-Area.ensures.items (owners-Area c.args.item.now c.args.around own.id own.name own.owner own.items own.is ∙ (λ i. record { parent = Some c.args.around; cleanups = cleanups i } ∷ owners_inside (map item_owning (sym c.as_slice-in-Area.ensures i)) own.owner)) c.put_owners.ensures

pub put_item_owners-returns-in_default : goal.put_item_owners-returns-in_default
put_item_owners-returns-in_default t c =
    let other = c.in_default in
    nothing_put c.args.owners.now.items _ (no_owners c.args.item.now c.args.around other.not-Area other.not-If other.not-Each other.not-Element)

pub put_item_owners-returns-in-If : goal.put_item_owners-returns-in-If
put_item_owners-returns-in-If t c =
    let item = c.args.item.now in
    let around = c.args.around in
    let items = c.in-If.items in
    let owners : (item_owning item).owners around ≡ owners_inside (map item_owning items) around =
    elim c.in-If.is [
      | inl own ↦ owners-If item around own.0 own.1 items own.2
      | inr others ↦
          elim others [ inl own ↦ owners-Each item around own.0 own.1 items own.2 | inr own ↦ owners-Element item around own.0 own.1 own.2 items own.3 ]
    ]
    in
    put_all c.put_owners-in-If.result c.args.owners.now.items _ _ _ (owners ∙ ap (λ items. owners_inside (map item_owning items) around) (sym c.as_slice-in-If.ensures)) c.put_owners-in-If.ensures
