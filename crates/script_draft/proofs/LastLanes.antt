-- The lanes of the last phase.
use Rattle.std.proofs.Common.{◌≡◌, ◌<◌, Some, unwrap_or, List, [], ◌∷◌, ◌++◌, length, IsSomeAnd, refl, ap, subst, sym, arith}
use Rattle.script_items.specs.declared.operation.ScriptOp.{ScriptOp}
use Rattle.script_items.specs.Script.{lanes_of, at_last, with_op}
use Rattle.script_meaning.specs.Checks.{last_lanes}

pub lanes_last : (phases : List (List (List ScriptOp))) → unwrap_or (lanes_of phases (length phases)) 0 ≡ length (last_lanes phases)
lanes_last [] = refl
lanes_last (p ∷ []) = refl
lanes_last (p ∷ q ∷ phases) = lanes_last (q ∷ phases)

pub some_lanes : (phases : List (List (List ScriptOp))) → 0 < length phases → lanes_of phases (length phases) ≡ Some (length (last_lanes phases))
some_lanes [] some = absurd (omega arith)
some_lanes (p ∷ []) some = refl
some_lanes (p ∷ q ∷ phases) some = some_lanes (q ∷ phases) (omega arith)

some_phase : (phases : List (List (List ScriptOp))) → 0 < length (last_lanes phases) → 0 < length phases
some_phase [] some = some
some_phase (p ∷ phases) some = omega arith

pub some_lane : (phases : List (List (List ScriptOp))) → 0 < length (last_lanes phases) → IsSomeAnd (lanes_of phases (length phases)) (λ lanes. 0 < lanes)
some_lane phases some = subst (λ o. IsSomeAnd o (λ lanes. 0 < lanes)) (sym (some_lanes phases (some_phase phases some))) some

in_no_lane : (op : ScriptOp) (lanes : List (List ScriptOp)) → length lanes ≡ 0 → at_last (λ ops. ops ++ op ∷ []) lanes ≡ lanes
in_no_lane op [] none = refl
in_no_lane op (l ∷ lanes) none = absurd (omega arith)

pub no_lane : (op : ScriptOp) (phases : List (List (List ScriptOp))) → length (last_lanes phases) ≡ 0 → with_op op phases ≡ phases
no_lane op [] none = refl
no_lane op (p ∷ []) none = ap (λ q. q ∷ []) (in_no_lane op p none)
no_lane op (p ∷ q ∷ phases) none = ap (λ rest. p ∷ rest) (no_lane op (q ∷ phases) none)
