-- What the code keeps, after a change.
use Rattle.std.proofs.Common.{◌≡◌, ℕ, zero, suc, ◌+◌, ◌-◌, ◌<◌, ◌≤◌, Bool, List, [], ◌∷◌, map, set, length, refl, ap, arith}
use Rattle.std.specs.List.{range_with_len}
use Rattle.std.proofs.lemmas.List.{map-set}
use Rattle.held_state.specs.Built.{Built}
use Rattle.plain_evaluation.specs.Held.{Holding as Held-Holding}
use Rattle.plain_evaluation.specs.Changed.{with_holding}
use Rattle.held_state.specs.declared.holding.Holding.{Holding}
use Rattle.held_state.specs.declared.holding.Going.{Going}
use Rattle.held_state.specs.Seen.{holding_seen, going_seen, numbers_from, state_seen}
use Rattle.held_state.specs.State.{with_held}

-- a holding that was put
pub seen-set : (holdings : List Holding) (live : List Bool) (goings : List Going) (id : ℕ) (holding : Holding) → state_seen (set holdings id holding) live goings ≡ with_held (state_seen holdings live goings) (with_holding (state_seen holdings live goings).held id (holding_seen holding))
seen-set holdings live goings id holding = λ i. record { held = record { holdings = map-set holding_seen holdings id holding i; live = live }; goings = map going_seen goings }

-- the first of some numbers, and the others
pub numbers-first : (first past : ℕ) → first < past → numbers_from first past ≡ first ∷ numbers_from (first + 1) past
numbers-first first past before = at (past - first) (past - (first + 1)) (omega arith)
  where
    at : (n k : ℕ) → n ≡ suc k → range_with_len first n ≡ first ∷ range_with_len (first + 1) k
    at zero k e = absurd (omega arith)
    at (suc n) k e = let same : n ≡ k = omega arith in ap (λ (j : ℕ). first ∷ range_with_len (first + 1) j) same

-- past the end nothing is put
pub set_past : {A : Type 0} (list : List A) (place : ℕ) (new : A) → length list ≤ place → set list place new ≡ list
set_past [] place new past = refl
set_past (x ∷ list) zero new past = absurd (omega arith)
set_past (x ∷ list) (suc place) new past = ap (λ more. x ∷ more) (set_past list place new (omega arith))

-- what goes with an owner, put in its place
pub with_going : (holdings : List Held-Holding) (goings : List Going) (owner : ℕ) (going : Going) → ◌≡◌ {A = Built} (record { holdings = holdings; goings = map going_seen (set goings owner going) }) (record { holdings = holdings; goings = set (map going_seen goings) owner (going_seen going) })
with_going holdings goings owner going = λ i. record { holdings = holdings; goings = map-set going_seen goings owner going i }
