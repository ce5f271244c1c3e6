-- What holds of the phase whose calls were made one after another.
use Rattle.std.proofs.Common.{◌≡◌, ◌⊎◌, ℕ, zero, suc, ◌+◌, ◌<◌, ◌≤◌, Bool, true, false, cond, List, [], ◌∷◌, ◌++◌, length, sym, refl, ap, ◌∙◌, subst, inl, inr, ⊎_elim, arith, Option, None}
use Rattle.std.specs.Prelude.{max, map, replicate, unwrap_or, slice_get, nat_le}
use Rattle.std.specs.List.{range_with_len, AllByRecursion}
use Rattle.std.proofs.lemmas.Bool.Decides.{nat_tests}
use Rattle.run_meaning.specs.Opened.{Opened}
use Rattle.run_meaning.specs.Lane.{Done}
use Rattle.run_meaning.specs.Phase.{Phase}
use Rattle.run_history.specs.Going.{start_of, Going, just_opened}
use Rattle.run_history.specs.Calls.{Call, MadeCall, CallsLead, calls_by}
use Rattle.run_history.specs.History.{Made, Follows, done_by, lanes_of, ByPasses, PastFits, VerdictsFit, OfHistories}
use Rattle.run_weave.specs.Lanes.{IsQuietly, Speaks, LaneSpeaks, ended, rests, speaks, lane_of, LanesSpeak, TargetsFit, phase_with}
use Rattle.run_history.proofs.Cut.{is_no}
use Rattle.run_meaning.specs.Run.{IsPhase}
use Rattle.run_history.proofs.Whole.{is_phase}
use Rattle.run_weave.proofs.Weave.{weaves, by_lanes}
use Rattle.run_weave.proofs.Link.{goes, stays}

-- ---- lanes by pass

past_end : {A : Type 0} (xs : List A) (n : ℕ) → length xs ≤ n → slice_get xs n ≡ None
past_end [] n l = refl
past_end (x ∷ xs) zero l = absurd (omega arith)
past_end (x ∷ xs) (suc n) l = past_end xs n (omega arith)

none_past : (lanes : List (List Done)) (p : ℕ) → length lanes < p → lane_of lanes p ≡ []
none_past lanes zero l = refl
none_past lanes (suc p) l = ap (λ (r : Option (List Done)). unwrap_or r []) (past_end lanes p (omega arith))

by_place : (f : ℕ → List Done) (xs : List (List Done)) (a : ℕ) → ((i : ℕ) → f (a + i) ≡ unwrap_or (slice_get xs i) []) → map f (range_with_len a (length xs)) ≡ xs
by_place f [] a at = refl
by_place f (x ∷ xs) a at = (λ i. head i ∷ by_place f xs (a + 1) next i)
  where
    head : f a ≡ x
    head = let e : a + 0 ≡ a = omega arith in ap f (sym e) ∙ at 0

    next : (i : ℕ) → f ((a + 1) + i) ≡ unwrap_or (slice_get xs i) []
    next i = let e : (a + 1) + i ≡ a + suc i = omega arith in ap f e ∙ at (suc i)

lanes_are : (h : List Made) (lanes : List (List Done)) → ((p : ℕ) → done_by p h ≡ lane_of lanes p) → lanes_of (length lanes) h ≡ lanes
lanes_are h lanes all = by_place (λ p. done_by p h) lanes 1 (λ i. let e : 1 + i ≡ suc i = omega arith in ap (λ (p : ℕ). done_by p h) e ∙ all (suc i))

-- ---- the history of operations

pub record Woven (past : List Phase) (o : Opened) (lanes : List (List Done)) (k : Going) : Type 0 where
  pub history : List Made
  pub follows : Follows past o just_opened history k
  pub by_passes : ByPasses (length lanes) history
  pub lanes_is : lanes_of (length lanes) history ≡ lanes
  pub by : (pass : ℕ) → done_by pass history ≡ lane_of lanes pass

pub woven : (past : List Phase) (o : Opened) (calls : List MadeCall) (k : Going) (lanes : List (List Done)) → CallsLead (start_of past o) just_opened calls k → LanesSpeak o calls lanes → TargetsFit o → Woven past o lanes k
woven past o calls k lanes lead speak fits =
    let w = weaves past o (stays past o) (goes past o fits) (length lanes) calls just_opened k (lane_of lanes) lead speak (none_past lanes) in record {
      history = w.0;
      follows = w.1;
      by_passes = by_lanes (length lanes) w.0 w.0 (λ m i. i) (λ p z. w.2 p ∙ ap (lane_of lanes) z) (λ p l. w.2 p ∙ none_past lanes p l);
      lanes_is = lanes_are w.0 lanes w.2;
      by = w.2;
    }

abbrev with_lanes : Opened → ℕ → ℕ → Going → List (List Done) → Phase
with_lanes o base count k lanes = record { opened = o; lanes = lanes; drawn = k.drawn; base = base; entries = k.entries; counts = replicate (max 1 count) (record { meets = 0; remarks = 0 }) }

-- what holds of histories holds of calls
pub of_calls : (P : List Phase → Phase → Type 0) → OfHistories P → (past : List Phase) (o : Opened) (base : ℕ) (calls : List MadeCall) (k : Going) (lanes : List (List Done)) → CallsLead (start_of past o) just_opened calls k → LanesSpeak o calls lanes → PastFits past o → TargetsFit o → P past (phase_with o base lanes k)
of_calls P law past o base calls k lanes lead speak p fits =
    let w = woven past o calls k lanes lead speak fits in
    subst (λ (ls : List (List Done)). P past (with_lanes o base (length lanes) k ls)) w.lanes_is (law past o base (length lanes) w.history k w.follows w.by_passes p)

-- ---- a lane that grows

pub rests_last : (o : Opened) {calls : List Call} (lane : List Done) (d : Done) → LaneSpeaks o calls lane → IsQuietly o d.op d.reply → LaneSpeaks o calls (lane ++ d ∷ [])
rests_last o lane d ended q = rests d q ended
rests_last o lane d (rests {lane = more} x r s) q = rests x r (rests_last o more d s q)
rests_last o lane d (speaks {lane = more} call x r s) q = speaks call x r (rests_last o more d s q)

pub speaks_last : (o : Opened) {calls : List Call} (lane : List Done) (call : Call) (d : Done) → LaneSpeaks o calls lane → Speaks o call d.op d.reply → LaneSpeaks o (calls ++ call ∷ []) (lane ++ d ∷ [])
speaks_last o lane call d ended q = speaks call d q ended
speaks_last o lane call d (rests {lane = more} x r s) q = rests x r (speaks_last o more call d s q)
speaks_last o lane call d (speaks {lane = more} made x r s) q = speaks made x r (speaks_last o more call d s q)

-- ---- lanes that speak, one by one

none_by : (count p : ℕ) (calls : List MadeCall) → AllByRecursion (λ m. (0 < m.pass) × (m.pass ≤ count)) calls → (p ≡ 0) ⊎ (count < p) → calls_by p calls ≡ []
none_by count p [] all away = refl
none_by count p (m ∷ calls) all away = ap (λ (b : Bool). cond b (m.call ∷ calls_by p calls) (calls_by p calls)) (is_no p m.pass (λ e. let low = all.0.0 in let most = all.0.1 in ⊎_elim (λ (z : p ≡ 0). absurd (omega arith)) (λ (l : count < p). absurd (omega arith)) away)) ∙ none_by count p calls all.1 away

pub lanes_speak : (o : Opened) (calls : List MadeCall) (lanes : List (List Done)) → AllByRecursion (λ m. (0 < m.pass) × (m.pass ≤ length lanes)) calls → ((i : ℕ) → i < length lanes → LaneSpeaks o (calls_by (suc i) calls) (lane_of lanes (suc i))) → LanesSpeak o calls lanes
lanes_speak o calls lanes all each zero = subst (λ (t : List Call). LaneSpeaks o t []) (sym (none_by (length lanes) 0 calls all (inl refl))) ended
lanes_speak o calls lanes all each (suc i) = elim (nat_le (suc i) (length lanes)) as (λ b. (nat_le (suc i) (length lanes) ≡ b) → LaneSpeaks o (calls_by (suc i) calls) (lane_of lanes (suc i))) [
  | true ↦ λ q. each i (let l : suc i ≤ length lanes = grind (arith, nat_tests) in omega arith)
  | false ↦ λ q. let l : length lanes < suc i = grind (arith, nat_tests) in subst (λ (p : List Call × List Done). LaneSpeaks o p.0 p.1) (λ j. (sym (none_by (length lanes) (suc i) calls all (inr l)) j, sym (none_past lanes (suc i) l) j)) ended
] refl

-- ---- a phase of which all holds

pub calls_make_phase : (past : List Phase) (o : Opened) (base : ℕ) (calls : List MadeCall) (k : Going) (lanes : List (List Done)) → CallsLead (start_of past o) just_opened calls k → LanesSpeak o calls lanes → PastFits past o → TargetsFit o → VerdictsFit (phase_with o base lanes k) → IsPhase past (phase_with o base lanes k)
calls_make_phase past o base calls k lanes lead speak p fits = of_calls (λ past p. VerdictsFit p → IsPhase past p) (λ past o base count h k f by fits v. is_phase past o base count h k f by fits v) past o base calls k lanes lead speak p fits
