use Rattle.std.proofs.Common.{sym, ap, ◌∙◌}
use Rattle.component_items.specs.Around.{items_listed}
use Rattle.component_items.specs.Own.{place, inside, owner_among}
use Rattle.std.specs.Option.{option_map}
use Rattle.component_items.proofs.AroundLemmas.{owner_own, found_here, found_behind, found_inside, held_items, held_none}
use Rattle.component_items.proofs.around.+owner.Goals as goal

pub owner_among-returns-in-Some : goal.owner_among-returns-in-Some
owner_among-returns-in-Some t c = λ areas. sym (c.loop-item.invariant areas ∙ found_here (λ l. l.owner) c.args.id c.args.items.now c.loop-item.item-index c.item-item.result (place c.args.owner areas) c.loop-item-test.true c.item-item.is _ (sym (c.in-Some.ensures areas)))

pub owner_among-loop-item-preserved : goal.owner_among-loop-item-preserved
owner_among-loop-item-preserved t c = λ areas. c.loop-item.invariant areas ∙ found_behind (λ l. l.owner) c.args.id c.args.items.now c.loop-item.item-index c.item-item.result (place c.args.owner areas) c.loop-item-test.true c.item-item.is (sym (c.in_default.ensures areas))

pub owner_within-returns-then-is_some : goal.owner_within-returns-then-is_some
owner_within-returns-then-is_some t c = λ areas. sym (owner_own c.args.item.now c.args.id c.args.owner areas c.own_name.result (sym c.if-is_some.ensures) c.own_name.ensures)

pub owner_within-returns-in-Area : goal.owner_within-returns-in-Area
owner_within-returns-in-Area t c = λ areas.
    let around = place c.args.owner areas in
    let there = inside c.args.item.now around in
    c.owner_among.ensures there.areas
    ∙ ap (λ items. owner_among c.args.id (items_listed items (place c.owner_inside-area.result there.areas))) c.as_slice.ensures
    ∙ ap (λ owner. owner_among c.args.id (items_listed c.in-Area.items (place owner there.areas))) (c.owner_inside-area.ensures areas)
    ∙ sym (ap (λ items. owner_among c.args.id (items_listed items there)) (held_items c.args.item.now c.in-Area.items c.in-Area.is))
    ∙ sym (ap (option_map (λ l. l.owner)) (found_inside c.args.item.now c.args.id around c.own_name.result (sym c.if-is_some.ensures) (c.own_name.ensures around)))

pub owner_within-returns-in_default : goal.owner_within-returns-in_default
owner_within-returns-in_default t c = λ areas.
    let around = place c.args.owner areas in
    sym (ap (λ items. owner_among c.args.id (items_listed items (inside c.args.item.now around))) (held_none c.args.item.now c.in_default.not-Area c.in_default.not-If c.in_default.not-Each c.in_default.not-Element))
    ∙ sym (ap (option_map (λ l. l.owner)) (found_inside c.args.item.now c.args.id around c.own_name.result (sym c.if-is_some.ensures) (c.own_name.ensures around)))
