-- Rounds of settlings: what they owe of the loader's counts, and what a prompt loader makes of them.
use Rattle.std.proofs.Common.{◌≡◌, ℕ, suc, ◌+◌, ◌-◌, ◌^◌, ◌<◌, ◌≤◌, ◌==◌, Bool, true, false, cond, List, [], ◌∷◌, length, map, min, Result, Ok, Err, refl, sym, ap, subst, ◌∙◌, arith}
use Rattle.std.specs.Prelude.{IfOk}
use Rattle.std.proofs.lemmas.Bool.{eqb-true, true≢false}
use Rattle.outside.specs.Counts.{RoseByTogether}
use Rattle.outside.proofs.CountLemmas.{RoseByTogether-then}
use Rattle.component_items.specs.declared.component.Component.{Component}
use Rattle.component_items.specs.Kept.{IsKept}
use Rattle.plain_evaluation.specs.Held.{Held}
use Rattle.plain_evaluation.specs.Scratch.{pending}
use Rattle.held_state.specs.State.{HeldState, IsOf, with_held}
use Rattle.load_meaning.specs.declared.late.Late.{Late}
use Rattle.load_meaning.specs.declared.late.Late.TheVariants.{NotYet, Failed}
use Rattle.load_meaning.specs.Polls.{Progress, AreInStep, all_promptly, rounds_promptly, enough_rounds}
use Rattle.run_meaning.specs.Run.{Settled, refusals_owed}
use Rattle.load_polls.specs.Loads.{not_yet_count, failed_count}
use Rattle.still_graph.specs.Answers.{late_of, ids_of}
use Rattle.still_graph.specs.declared.settling.Settled.{Settled as Settling}
use Rattle.settled_rows.specs.Finishing.{AreCounted}
use Rattle.still_graph.specs.Settling.{IsMiddle}
use Rattle.still_graph.specs.Still.{StillState, progress_from, progress_of}
use Rattle.still_graph.specs.declared.still.Stage.TheVariants as stage
use Rattle.load_rounds.proofs.Rounds.{round_last}
use Rattle.settling_rounds.specs.Settlings.{SettlesPromptly}

-- ---- what is owed

-- what rose by more rose by less
pub fewer : (m n before after other_before other_after : ℕ) → m ≤ n → RoseByTogether n before after other_before other_after → RoseByTogether m before after other_before other_after
fewer m n before after other_before other_after l h = (min m h.0, m - min m h.0, omega arith, omega (arith, h.3), omega (arith, h.2, h.4))

-- each is late for one of two reasons
both_in : (late : List (ℕ × Late)) → failed_count late + not_yet_count late ≡ length (map (λ (l : ℕ × Late). l.0) late)
both_in [] = refl
both_in (l ∷ late) = by l.0 l.1 (both_in late)
  where
    by : (id : ℕ) (why : Late) → failed_count late + not_yet_count late ≡ length (map (λ (l : ℕ × Late). l.0) late)
        → failed_count ((id, why) ∷ late) + not_yet_count ((id, why) ∷ late) ≡ length (map (λ (l : ℕ × Late). l.0) ((id, why) ∷ late))
    by id NotYet e = omega arith
    by id Failed e = omega arith

-- each load that a settling names was counted
pub each_counted : (late : List (ℕ × Late)) (not_yets not_yets_after faults faults_after : ℕ) → AreCounted late not_yets not_yets_after faults faults_after → RoseByTogether (length (map (λ (l : ℕ × Late). l.0) late)) faults faults_after not_yets not_yets_after
each_counted late not_yets not_yets_after faults faults_after c = (failed_count late, not_yet_count late, both_in late, c.faults, c.not_yets)

-- and each that is named then
pub named_counted : {E : Type 0} (r : Result (List ℕ) E) (settled : Settling) (not_yets not_yets_after faults faults_after : ℕ) → IfOk r (λ ids. ids ≡ ids_of settled) → AreCounted (late_of settled) not_yets not_yets_after faults faults_after → IfOk r (λ ids. RoseByTogether (length ids) faults faults_after not_yets not_yets_after)
named_counted (Ok ids) settled not_yets not_yets_after faults faults_after is counted =
    subst (λ (l : List ℕ). RoseByTogether (length l) faults faults_after not_yets not_yets_after) (sym is) (each_counted (late_of settled) not_yets not_yets_after faults faults_after counted)
named_counted (Err e) settled not_yets not_yets_after faults faults_after is counted = tt

-- what is owed where a load is pending
pub owed_some : (rounds id : ℕ) (ids : List ℕ) → refusals_owed rounds (id ∷ ids) ≡ (rounds - 1) + length (id ∷ ids)
owed_some rounds id ids = by (length (id ∷ ids) == 0) refl
  where
    by : (b : Bool) → (length (id ∷ ids) == 0) ≡ b → cond b 0 ((rounds - 1) + length (id ∷ ids)) ≡ (rounds - 1) + length (id ∷ ids)
    by true e = absurd (let none : length (id ∷ ids) ≡ 0 = eqb-true (length (id ∷ ids)) 0 e in omega arith)
    by false e = refl

-- one settling owes no more than one for each load
owed_once : (ids : List ℕ) → refusals_owed 1 ids ≤ length ids
owed_once [] = omega arith
owed_once (id ∷ ids) = let e = owed_some 1 id ids in omega arith

pub counted_once : (ids : List ℕ) (before after other_before other_after : ℕ) → RoseByTogether (length ids) before after other_before other_after → RoseByTogether (refusals_owed 1 ids) before after other_before other_after
counted_once ids before after other_before other_after h = fewer (refusals_owed 1 ids) (length ids) before after other_before other_after (owed_once ids) h

-- and one more, where loads were pending, no more than one for each load more
owed_more : (rounds : ℕ) (old new : List ℕ) → 1 ≤ rounds → 0 < length old → refusals_owed (rounds + 1) new ≤ refusals_owed rounds old + length new
owed_more rounds [] new some l = absurd (omega arith)
owed_more rounds (id ∷ old) [] some l = omega arith
owed_more rounds (id ∷ old) (other ∷ new) some l = let e = owed_some rounds id old in let f = owed_some (rounds + 1) other new in omega arith

pub counted_more : (rounds : ℕ) (old new : List ℕ) (before between after other_before other_between other_after : ℕ) → 1 ≤ rounds → 0 < length old
    → RoseByTogether (refusals_owed rounds old) before between other_before other_between → RoseByTogether (length new) between after other_between other_after
    → RoseByTogether (refusals_owed (rounds + 1) new) before after other_before other_after
counted_more rounds old new before between after other_before other_between other_after some l h k =
    fewer (refusals_owed (rounds + 1) new) (refusals_owed rounds old + length new) before after other_before other_after (owed_more rounds old new some l)
    (RoseByTogether-then (refusals_owed rounds old) (length new) before between after other_before other_between other_after h k)

-- what is not empty has a load
pub some_left : (ids : List ℕ) → (ids ≡ [] → false ≡ true) → 0 < length ids
some_left [] empty = absurd (true≢false (sym (empty refl)))
some_left (id ∷ ids) empty = omega arith

-- ---- prompt loaders

rounds_first : (component : Component) (p : Progress) → all_promptly component p ≡ rounds_promptly 1 component p
unfolding rounds_promptly
rounds_first component p = refl

pub promptly_once : (old new : StillState) (middle : Held) → IsMiddle old middle → progress_of new ≡ all_promptly old.component (progress_from old middle) → SettlesPromptly 1 old new
promptly_once old new middle is polled = record { middle = middle; is_middle = is; polled = polled ∙ rounds_first old.component (progress_from old middle) }

pub promptly_more : (rounds : ℕ) (x y z : StillState) → y.component ≡ x.component → y.stage ≡ stage.Settled → SettlesPromptly rounds x y → SettlesPromptly 1 y z → SettlesPromptly (rounds + 1) x z
promptly_more rounds x y z same settled first second =
    let start : Progress = progress_from x first.middle in
    record {
      middle = first.middle;
      is_middle = first.is_middle;
      polled =
          second.polled
          ∙ sym (rounds_first y.component (progress_from y second.middle))
          ∙ ap (λ (component : Component). all_promptly component (progress_from y second.middle)) same
          ∙ ap (λ (held : Held). all_promptly x.component (progress_from y held)) (second.is_middle.settled settled)
          ∙ ap (all_promptly x.component) first.polled
          ∙ sym (round_last rounds x.component start)
          ∙ ap (λ (n : ℕ). rounds_promptly n x.component start) (let e : suc rounds ≡ rounds + 1 = omega arith in e);
    }

-- enough rounds bring all loads
abbrev pub BringAll : Type 0
BringAll = (component : Component) (state : HeldState) (progress : Progress) (rounds : ℕ) → IsKept component → IsOf component (with_held state progress.held) → AreInStep component progress → enough_rounds component ≤ 2 ^ 32 → enough_rounds component ≤ rounds
    → pending component (rounds_promptly rounds component progress).held ≡ []

pub all_come : (rounds : ℕ) (x y : StillState) → BringAll → IsKept x.component → y.component ≡ x.component → rounds < 2 ^ 32 → SettlesPromptly rounds x y → enough_rounds x.component ≤ rounds → pending y.component y.state.held ≡ []
all_come rounds x y law kept same few prompt enough =
    ap (λ (component : Component). pending component y.state.held) same
    ∙ ap (λ (p : Progress). pending x.component p.held) prompt.polled
    ∙ law x.component x.state (progress_from x prompt.middle) rounds kept prompt.is_middle.fits prompt.is_middle.in_step (omega arith) enough
