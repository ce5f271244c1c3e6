use Rattle.std.proofs.Common.{◌≡◌, List, [], true, map, length, replicate, ap, ◌∙◌, arith}
use Rattle.std.proofs.lemmas.Grind.{common_steps}
use Rattle.std.proofs.lemmas.List.{length-map}
use Rattle.component_items.specs.declared.component.Item.{Item}
use Rattle.held_state.specs.Built.{with_area}
use Rattle.held_state.specs.Seen.{holding_seen, going_seen}
use Rattle.held_state.specs.Start.{built}
use Rattle.held_state.proofs.Whole.{first_whole}
use Rattle.held_state.proofs.held.Held.first.Goals as goal

pub returns : goal.returns
returns c =
    let count : c.len.result ≡ length (built c.area.new.self).goings = grind (arith, common_steps, length-map) in
    let live : c.in_ok-live.live.items ≡ replicate (length (built c.area.new.self).goings) true = c.in_ok-live.ensures.items_if_clones_equal (λ y is. is) ∙ ap (λ n. replicate n true) count in
    let empty : built c.area.new.self ≡ with_area c.items-items.result.now (record { holdings = []; goings = [] }) = c.in_ok-area.ensures ∙ (λ i. with_area c.items-items.result.now (record { holdings = map holding_seen (c.new.ensures.items i); goings = map going_seen (c.new-2.ensures.items i) })) in
    let is : built c.area.new.self ≡ with_area c.args.component.now.items (record { holdings = []; goings = [] }) = empty ∙ ap (λ (items : List Item). with_area items (record { holdings = []; goings = [] })) c.items-items.ensures.items in
    first_whole c.args.component.now (built c.area.new.self) c.in_ok-live.live.items c.items-items.ensures.kept is live
