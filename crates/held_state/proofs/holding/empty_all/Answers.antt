use Rattle.std.proofs.Common.{◌≡◌, ◌+◌, map, set, ap, ◌∙◌, sym}
use Rattle.std.proofs.lemmas.List.{map-set}
use Rattle.plain_evaluation.specs.Held.{nothing}
use Rattle.plain_evaluation.specs.Killed.{with_each}
use Rattle.held_state.specs.declared.holding.Holding.TheVariants.{Nothing}
use Rattle.held_state.specs.Seen.{holding_seen, numbers_from}
use Rattle.held_state.proofs.Seen.{numbers-first, set_past}
use Rattle.held_state.proofs.holding.empty_all.Goals as goal
use Rattle.held_state.proofs.holding.empty_all.Goals.{then-id-holdings+in-Stored-1, then-id-holdings+in-Nothing-1, else-id-holdings}

pub loop-id-preserved : goal.loop-id-preserved
loop-id-preserved c =
    let first = numbers-first c.loop-id.id c.args.past c.loop-id-test.true in
    let is : c.if-id-holdings.holdings ≡ set c.loop-id.holdings c.loop-id.id Nothing = elim c.if-id-holdings.branch [ then-id-holdings+in-Stored-1 w ↦ w.holdings-is | then-id-holdings+in-Nothing-1 w ↦ w.holdings-is | else-id-holdings w ↦ w.holdings-is ∙ sym (set_past c.loop-id.holdings c.loop-id.id Nothing w.if-id-holdings.false) ] in
    ap (λ holdings. with_each nothing (numbers_from (c.loop-id.id + 1) c.args.past) (map holding_seen holdings)) is
    ∙ ap (with_each nothing (numbers_from (c.loop-id.id + 1) c.args.past)) (map-set holding_seen c.loop-id.holdings c.loop-id.id Nothing)
    ∙ sym (ap (λ numbers. with_each nothing numbers (map holding_seen c.loop-id.holdings)) first)
    ∙ c.loop-id.invariant
