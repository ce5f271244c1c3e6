-- A run leaves loads pending only where its loader refused.
use Rattle.std.proofs.Common.{◌≡◌, ℕ, zero, suc, ◌-◌, ◌≤◌, List, [], ◌∷◌, refl, ◌∙◌, arith}
use Rattle.component_items.specs.declared.component.Component.{Component}
use Rattle.outside.specs.Counts.{RoseByTogether}
use Rattle.plain_evaluation.specs.Held.{Held}
use Rattle.plain_evaluation.specs.Scratch.{pending}
use Rattle.run_meaning.specs.Run.{Settled, Runs, none, more, states_of, refusals_owed, refusals_of}
use Rattle.settling_rounds.proofs.Rounds.{owed_some}
use Rattle.script_run.proofs.Rounds.{alone, refused_last}

-- the last settling owes its part
last_owed : (component : Component) (rounds : ℕ) (first last : Held) (steps : List Settled) → Runs component first steps last → refusals_owed rounds (pending component last) ≤ refusals_of component rounds (states_of first steps)
last_owed component rounds first last steps none = let one = alone (refusals_owed rounds (pending component first)) in omega arith
last_owed component rounds first last steps (more {past} {held} s keys r opens is e) = let all = refused_last component rounds first past s in omega arith

-- which is a refusal at least, where a load is pending behind it
owed_one : (rounds : ℕ) (loads : List ℕ) → (loads ≡ [] → ⊥) → 1 ≤ refusals_owed rounds loads
owed_one rounds [] some = absurd (some refl)
owed_one rounds (load ∷ loads) some = let all = owed_some rounds load loads in omega (arith, all)

-- counts that rose by more rose by one
rose_once : (n before after other_before other_after : ℕ) → 1 ≤ n → RoseByTogether n before after other_before other_after → RoseByTogether 1 before after other_before other_after
rose_once n before after other_before other_after some (zero, j, sum, rose, other) = (0, 1, refl, omega arith, omega arith)
rose_once n before after other_before other_after some (suc i, j, sum, rose, other) = (1, 0, refl, omega arith, omega arith)

pub refused_once : (component : Component) (rounds : ℕ) (first last : Held) (steps : List Settled) (loads : List ℕ) (faults faults_after not_yets not_yets_after : ℕ) → Runs component first steps last
    → (loads ≡ [] → ⊥) → loads ≡ pending component last → RoseByTogether (refusals_of component rounds (states_of first steps)) faults faults_after not_yets not_yets_after → RoseByTogether 1 faults faults_after not_yets not_yets_after
refused_once component rounds first last steps loads faults faults_after not_yets not_yets_after runs some are rose =
    let one = owed_one rounds (pending component last) (λ e. some (are ∙ e)) in
    let all = last_owed component rounds first last steps runs in
    rose_once (refusals_of component rounds (states_of first steps)) faults faults_after not_yets not_yets_after (omega arith) rose
