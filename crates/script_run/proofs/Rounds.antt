-- What a settling behind others owes of the loader's counts.
use Rattle.std.proofs.Common.{◌≡◌, ℕ, ◌+◌, List, [], ◌∷◌, ◌++◌, map, ap, ◌∙◌, arith}
use Rattle.std.specs.Prelude.{sum}
use Rattle.std.proofs.lemmas.List.Sums.{sum_by-append}
use Rattle.component_items.specs.declared.component.Component.{Component}
use Rattle.plain_evaluation.specs.Held.{Held}
use Rattle.plain_evaluation.specs.Scratch.{pending}
use Rattle.run_meaning.specs.Run.{Settled, states_of, refusals_owed, refusals_of}
use Rattle.lane_run.proofs.Lists.{map_last}

pub alone : (n : ℕ) → sum (n ∷ []) ≡ n
alone n = omega arith

-- a settling behind others adds what it owes
pub refused_last : (component : Component) (rounds : ℕ) (first : Held) (steps : List Settled) (s : Settled) → refusals_of component rounds (states_of first (steps ++ s ∷ [])) ≡ refusals_of component rounds (states_of first steps) + refusals_owed rounds (pending component s.held)
refused_last component rounds first steps s =
    let owed : Held → ℕ = λ held. refusals_owed rounds (pending component held) in
    ap (λ (hs : List Held). sum (map owed (first ∷ hs))) (map_last (λ (t : Settled). t.held) steps s)
    ∙ ap sum (map_last owed (states_of first steps) s.held)
    ∙ sum_by-append (λ (n : ℕ). n) (map owed (states_of first steps)) (owed s.held ∷ [])
    ∙ ap (λ (n : ℕ). sum (map owed (states_of first steps)) + n) (alone (owed s.held))
