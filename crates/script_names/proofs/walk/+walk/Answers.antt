use Rattle.std.proofs.Common.{rules, All, sym, subst, arith}
use Rattle.std.proofs.lemmas.Grind.{common_steps}
use Rattle.component_items.specs.declared.component.Item.{the_lemmas}
use Rattle.component_items.specs.Ids.{ids_in}
use Rattle.script_names.proofs.Small.{IsSmall, small_item, small_area, small_element, small_store}
use Rattle.script_names.proofs.Walked.{of_signal, of_memo, of_effect, of_resource, of_load, of_store, of_area, of_element, of_if, of_each, of_cleanup, of_text, of_shown}
use Rattle.script_names.proofs.walk.+walk.Goals as goal

pub add_item-new-requires : goal.add_item-new-requires
add_item-new-requires t c = let small = small_store c.args.item.now c.in-Store.id c.in-Store.name c.in-Store.max c.in-Store.fields c.in-Store.starts c.in-Store.is c.requires.small in grind (arith, common_steps)

pub add_item-add_items-requires : goal.add_item-add_items-requires
add_item-add_items-requires t c =
    let small = small_area c.args.item.now c.in-Area.id c.in-Area.name c.in-Area.inside c.in-Area.items c.in-Area.is c.requires.small in
    (search (rules, the_lemmas), subst (λ items. All IsSmall (ids_in items)) (sym c.as_slice-in-Area.ensures) small)

pub add_item-add_items-requires-in-Element : goal.add_item-add_items-requires-in-Element
add_item-add_items-requires-in-Element t c =
    let small = small_element c.args.item.now c.in-Element.tag c.in-Element.closed c.in-Element.attrs c.in-Element.items c.in-Element.is c.requires.small in
    (search (rules, the_lemmas) depth 8, subst (λ items. All IsSmall (ids_in items)) (sym c.as_slice-in-Element.ensures) small)

pub add_item-returns-in-Signal : goal.add_item-returns-in-Signal
add_item-returns-in-Signal t c = grind (arith, common_steps, of_signal c.args.owner c.in-Signal.id c.in-Signal.name c.in-Signal.start)

pub add_item-returns-in-Memo : goal.add_item-returns-in-Memo
add_item-returns-in-Memo t c = grind (arith, common_steps, of_memo c.args.owner c.in-Memo.id c.in-Memo.name c.in-Memo.expr)

pub add_item-returns-in-Load : goal.add_item-returns-in-Load
add_item-returns-in-Load t c = grind (arith, common_steps, of_load c.args.owner c.in-Load.id c.in-Load.name c.in-Load.resource c.in-Load.key)

pub add_item-returns-in_ok-store-in-Store : goal.add_item-returns-in_ok-store-in-Store
add_item-returns-in_ok-store-in-Store t c = grind (arith, common_steps, of_store c.args.owner c.in-Store.id c.in-Store.name c.in-Store.max c.in-Store.fields c.in-Store.starts)

pub add_item-returns-in_ok-declare-in-Area : goal.add_item-returns-in_ok-declare-in-Area
add_item-returns-in_ok-declare-in-Area t c = grind (arith, common_steps, of_area c.args.owner c.in-Area.id c.in-Area.name c.in-Area.inside c.in-Area.items)

pub add_item-returns-in-Element : goal.add_item-returns-in-Element
add_item-returns-in-Element t c = grind (arith, common_steps, of_element c.args.owner c.in-Element.tag c.in-Element.closed c.in-Element.attrs c.in-Element.items)

pub add_item-returns-in-Effect : goal.add_item-returns-in-Effect
add_item-returns-in-Effect t c = grind (arith, common_steps, of_effect c.args.owner c.in-Effect.id c.in-Effect.name c.in-Effect.expr)

pub add_item-returns-in-Resource : goal.add_item-returns-in-Resource
add_item-returns-in-Resource t c = grind (arith, common_steps, of_resource c.args.owner c.in-Resource.id c.in-Resource.name c.in-Resource.after c.in-Resource.keys c.in-Resource.values)

pub add_item-returns-in-If : goal.add_item-returns-in-If
add_item-returns-in-If t c = grind (arith, common_steps, of_if c.args.owner c.in-If.id c.in-If.cond c.in-If.items)

pub add_item-returns-in-Each : goal.add_item-returns-in-Each
add_item-returns-in-Each t c = grind (arith, common_steps, of_each c.args.owner c.in-Each.id c.in-Each.store c.in-Each.items)

pub add_item-returns-in-Cleanup : goal.add_item-returns-in-Cleanup
add_item-returns-in-Cleanup t c = grind (arith, common_steps, of_cleanup c.args.owner c.in-Cleanup.text)

pub add_item-returns-in-Text : goal.add_item-returns-in-Text
add_item-returns-in-Text t c = grind (arith, common_steps, of_text c.args.owner c.in-Text.text)

pub add_item-returns-in-Shown : goal.add_item-returns-in-Shown
add_item-returns-in-Shown t c = grind (arith, common_steps, of_shown c.args.owner c.in-Shown.id c.in-Shown.expr)

pub add_items-add_item-requires : goal.add_items-add_item-requires
add_items-add_item-requires t c = let small = small_item c.args.items.now c.loop-item.item-index c.item-item.result c.loop-item-test.true c.item-item.is c.requires.small in
    (search (rules, the_lemmas), small)
