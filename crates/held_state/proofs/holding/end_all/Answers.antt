use Rattle.std.proofs.Common.{◌≡◌, ◌+◌, false, set, ap, ◌∙◌, sym}
use Rattle.plain_evaluation.specs.Killed.{with_each}
use Rattle.held_state.specs.Seen.{numbers_from}
use Rattle.held_state.proofs.Seen.{numbers-first, set_past}
use Rattle.held_state.proofs.holding.end_all.Goals as goal
use Rattle.held_state.proofs.holding.end_all.Goals.{then-owner-live, else-owner-live}

pub loop-owner-preserved : goal.loop-owner-preserved
loop-owner-preserved c =
    let first = numbers-first c.loop-owner.owner c.args.past c.loop-owner-test.true in
    let is : c.if-owner-live.live ≡ set c.loop-owner.live c.loop-owner.owner false = elim c.if-owner-live.branch [ then-owner-live w ↦ w.live-is | else-owner-live w ↦ w.live-is ∙ sym (set_past c.loop-owner.live c.loop-owner.owner false w.if-owner-live.false) ] in
    ap (with_each false (numbers_from (c.loop-owner.owner + 1) c.args.past)) is ∙ sym (ap (λ numbers. with_each false numbers c.loop-owner.live) first) ∙ c.loop-owner.invariant
