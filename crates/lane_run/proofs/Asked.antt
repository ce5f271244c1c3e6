-- What is run so far, item by item.
use Rattle.std.proofs.Common.{◌≡◌, ℕ, ◌+◌, ◌<◌, List, [], ◌∷◌, length, get_or, take, slice_get, Option, Some, None, sym, ap, subst, ◌∙◌, add-one, lit≤, arith}
use Rattle.std.specs.Prelude.{unwrap_or}
use Rattle.std.specs.List.{All}
use Rattle.std.specs.Option.{option_and_then}
use Rattle.std.proofs.lemmas.List.Elements.{All-more}
use Rattle.std.proofs.lemmas.Option.{slice_get_within, get_or_from_slice_get, unwrap_or-slice_get}
use Rattle.script_items.specs.declared.operation.ScriptOp.{ScriptOp}
use Rattle.script_items.specs.Script.{numbered}
use Rattle.lane_run.specs.Lanes.{first_ops, lanes_at}
use Rattle.lane_run.specs.Today.{OpsRun, LanesRun}

pub one_more : {X : Type 0} (P : X → Type 0) (xs : List X) (k : ℕ) (x : X) → slice_get xs k ≡ Some x → All P (take k xs) → P x → All P (take (k + 1) xs)
one_more P xs k x at all h = All-more P xs k x (slice_get_within xs k x at) all (subst P (sym (get_or_from_slice_get xs k x x at)) h)

-- the lanes of the phase behind as many
pub lanes_behind : (script : List (List (List ScriptOp))) (before : ℕ) → lanes_at script (before + 1) ≡ get_or script before []
lanes_behind script before = ap (λ (n : ℕ). unwrap_or (numbered script n) []) (add-one before) ∙ unwrap_or-slice_get script before []

pub one_more_phase : (P : List (List ScriptOp) → Type 0) (script : List (List (List ScriptOp))) (before : ℕ) → before < length script → All P (take before script) → P (lanes_at script (before + 1)) → All P (take (before + 1) script)
one_more_phase P script before l all h = All-more P script before [] l all (subst P (lanes_behind script before) h)

-- the first lane of a phase is run, where all are; where there is none, it has no operations
pub first_run : (script : List (List (List ScriptOp))) (phase : ℕ) → LanesRun (lanes_at script phase) → OpsRun (first_ops script phase)
first_run script phase run = by (numbered script phase) run
  where
    of_lanes : (lanes : List (List ScriptOp)) → LanesRun lanes → OpsRun (unwrap_or (numbered lanes 1) [])
    of_lanes [] run = record { few = lit≤ tt }
    of_lanes (ops ∷ lanes) run = run.each 0 [] (let l : 0 < length (ops ∷ lanes) = omega arith in l)

    by : (r : Option (List (List ScriptOp))) → LanesRun (unwrap_or r []) → OpsRun (unwrap_or (option_and_then (λ lanes. numbered lanes 1) r) [])
    by None run = record { few = lit≤ tt }
    by (Some lanes) run = of_lanes lanes run
