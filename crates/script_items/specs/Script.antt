-- A script: its phases in order, the lanes of each phase, and the operations of each lane.
use Rattle.std.specs.Prelude.{ℕ, zero, suc, ◌≤◌, Option, None, List, [], ◌∷◌, ◌++◌, length, slice_get, All}
use Rattle.std.specs.Option.{option_map, option_and_then}
use Rattle.values.specs.declared.limits.TheConstants.{MOST_PHASES, MOST_LANES}
use Rattle.script_items.specs.declared.operation.ScriptOp.{ScriptOp}

-- the item with this number, counted from 1: none at 0 and past the end
abbrev pub numbered : {A : Type 0} → List A → ℕ → Option A
numbered items zero = None
numbered items (suc n) = slice_get items n

-- how many lanes the phase has
abbrev pub lanes_of : List (List (List ScriptOp)) → ℕ → Option ℕ
lanes_of script phase = option_map length (numbered script phase)

-- the operation of the lane of the phase
abbrev pub op_at : List (List (List ScriptOp)) → ℕ → ℕ → ℕ → Option ScriptOp
op_at script phase lane op =
    option_and_then (λ ops. numbered ops op) (option_and_then (λ lanes. numbered lanes lane) (numbered script phase))

-- the list with f of its last item in that item's place
abbrev pub at_last : {A : Type 0} → (A → A) → List A → List A
at_last f [] = []
at_last f (x ∷ []) = f x ∷ []
at_last f (x ∷ y ∷ ys) = x ∷ at_last f (y ∷ ys)

-- with a phase at the end, which has no lane yet
abbrev pub with_phase : List (List (List ScriptOp)) → List (List (List ScriptOp))
with_phase script = script ++ [] ∷ []

-- with an empty lane at the end of the last phase; the same where there is no phase
abbrev pub with_lane : List (List (List ScriptOp)) → List (List (List ScriptOp))
with_lane script = at_last (λ lanes. lanes ++ [] ∷ []) script

-- with the operation at the end of the last lane of the last phase; the same where there is no such lane
abbrev pub with_op : ScriptOp → List (List (List ScriptOp)) → List (List (List ScriptOp))
with_op op script = at_last (λ lanes. at_last (λ ops. ops ++ op ∷ []) lanes) script

-- what holds of each script
pub record IsScript (script : List (List (List ScriptOp))) : Type 0 where
  pub phases : length script ≤ MOST_PHASES
  pub lanes : All (λ lanes. length lanes ≤ MOST_LANES) script
