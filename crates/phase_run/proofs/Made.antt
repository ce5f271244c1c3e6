-- A phase that was made is one of which all holds.
use Rattle.std.proofs.Common.{◌≡◌, ℕ, zero, suc, ◌≤◌, List, [], ◌∷◌, ◌++◌, length, map, Option, Some, refl, sym, ap, subst, ◌∙◌, arith}
use Rattle.std.specs.Prelude.{max, replicate}
use Rattle.std.proofs.lemmas.List.{length-map}
use Rattle.values.specs.declared.code.Code.{Code}
use Rattle.store_fields.specs.declared.edit.Edit.{Edit}
use Rattle.store_fields.specs.declared.edit.Verdict.{Verdict}
use Rattle.component_items.specs.declared.component.Component.{Component}
use Rattle.component_items.specs.Kept.{IsKept}
use Rattle.script_items.specs.declared.operation.ScriptOp.{ScriptOp}
use Rattle.script_items.specs.Script.{numbered}
use Rattle.run_items.specs.declared.answer.Answer.{Answer}
use Rattle.run_items.specs.Journal.{PassCounts}
use Rattle.plain_evaluation.specs.Held.{Held, first_held}
use Rattle.plain_evaluation.specs.Written.{state_of}
use Rattle.plain_evaluation.proofs.Fitting.{rows_of_held}
use Rattle.plan_meaning.proofs.Owners.{lawful}
use Rattle.run_meaning.specs.Opened.{Opened, opened_of}
use Rattle.run_meaning.specs.Lane.{Done, edits_in}
use Rattle.run_meaning.specs.Phase.{Phase}
use Rattle.run_meaning.specs.Run.{IsPhase, Runs, Settled, phases_of, held_arrived, answers_of_lanes}
use Rattle.run_meaning.proofs.Dead.{DeadFit, first_dead, run_dead}
use Rattle.run_meaning.proofs.Fits.{HeldFits, first_fits, arrived_fits, run_fits}
use Rattle.run_history.specs.Going.{just_opened}
use Rattle.run_history.specs.History.{PastFits}
use Rattle.run_weave.specs.Lanes.{lane_of, TargetsFit, OfCalls, phase_with, told_lane, verdict_of, told}
use Rattle.phase_edits.specs.Posts.{ArePosted}
use Rattle.still_graph.specs.Still.{StillState, opened_in, IsOpenAt, HasEnded}
use Rattle.lane_run.specs.Lanes.{IsThrough, HaveDone}
use Rattle.phase_run.specs.Phases.{IsMade}
use Rattle.lane_run.specs.Today.{LanesRun}
use Rattle.lane_run.proofs.Noted.{same_edits}
use Rattle.lane_run.proofs.Steps.{same_opened}

-- ---- the edits of a pass

-- what is told of them leaves the edits of a lane as they are
first_told : (v : ℕ → Verdict) (lanes : List (List Done)) → edits_in (lane_of (map (told_lane v) lanes) 1) ≡ edits_in (lane_of lanes 1)
first_told v [] = refl
first_told v (lane ∷ lanes) = same_edits v lane

posted : (v : ℕ → Verdict) (lanes : List (List Done)) → length lanes ≤ 1 → ArePosted (map (told_lane v) lanes) (edits_in (lane_of lanes 1) ∷ [])
posted v lanes few = record { passes = (let l = length-map lanes (told_lane v) in omega arith); each = by }
  where
    by : (pass : ℕ) (edits : List Edit) → numbered (edits_in (lane_of lanes 1) ∷ []) pass ≡ Some edits → edits ≡ edits_in (lane_of (map (told_lane v) lanes) pass)
    by zero edits e = absurd cc
    by (suc zero) edits e = (let f : edits ≡ edits_in (lane_of lanes 1) = cc in f) ∙ sym (first_told v lanes)
    by (suc (suc n)) edits e = absurd cc

ops_stay : (v : ℕ → Verdict) (lanes : List (List Done)) → map (map (λ (d : Done). d.op)) (map (told_lane v) lanes) ≡ map (map (λ (d : Done). d.op)) lanes
ops_stay v [] = refl
ops_stay v (lane ∷ lanes) = λ i. lane_stays lane i ∷ ops_stay v lanes i
  where
    lane_stays : (ds : List Done) → map (λ (d : Done). d.op) (told_lane v ds) ≡ map (λ (d : Done). d.op) ds
    lane_stays [] = refl
    lane_stays (d ∷ ds) = ap (λ (t : List ScriptOp). d.op ∷ t) (lane_stays ds)

pub told_ops : (p : Phase) → map (map (λ (d : Done). d.op)) (told p).lanes ≡ map (map (λ (d : Done). d.op)) p.lanes
told_ops p = ops_stay (verdict_of p) p.lanes

-- ---- what holds behind a run

pub run_held : (component : Component) → IsKept component → (keys : ℕ → Option Code) (steps : List Settled) (held : Held) → Runs component (held_arrived keys (first_held component)) steps held → HeldFits component held
run_held component kept keys steps held runs = run_fits component kept (held_arrived keys (first_held component)) held steps (arrived_fits component keys (first_held component) (first_fits component kept)) runs

pub run_owners : (component : Component) → IsKept component → (keys : ℕ → Option Code) (steps : List Settled) (held : Held) → Runs component (held_arrived keys (first_held component)) steps held → DeadFit component held (phases_of steps)
run_owners component kept keys steps held runs = run_dead component kept (held_arrived keys (first_held component)) held steps (first_dead component kept keys) runs

pub past_fits : (component : Component) → IsKept component → (keys : ℕ → Option Code) (steps : List Settled) (held : Held) → Runs component (held_arrived keys (first_held component)) steps held → PastFits (phases_of steps) (opened_of component held)
past_fits component kept keys steps held runs =
    let fits = run_held component kept keys steps held runs in
    let dead = run_owners component kept keys steps held runs in record {
      lawful = lawful component (state_of held) kept (rows_of_held component held fits.fits);
      dead_was = dead.was;
      was_dead = dead.now;
      once = dead.once;
    }

-- ---- the phase

abbrev ops_in : List Done → List ScriptOp
ops_in lane = map (λ d. d.op) lane

abbrev none_met : PassCounts
none_met = record { meets = 0; remarks = 0 }

-- what an end says of the phase
abbrev pub Ends : List Phase → StillState → StillState → Type 0
Ends past y new = (p : Phase) → p.opened ≡ opened_in y → IsOpenAt past (record { drawn = p.drawn; entries = p.entries }) y → p.base ≡ y.graph.base → p.counts ≡ replicate (length y.graph.edits) (record { meets = 0; remarks = 0 }) → ArePosted p.lanes y.graph.edits → HasEnded past p new

pub phase_made : (past : List Phase) (old x y new : StillState) (phase : ℕ) (ops : List (List ScriptOp)) (before behind : List Answer)
    → OfCalls (λ past p. IsPhase past (told p)) → TargetsFit (opened_in old) → opened_in x ≡ opened_in old → HaveDone phase ops x y before behind
    → IsOpenAt past just_opened x → PastFits past (opened_in old) → LanesRun ops → Ends past y new
    → (p : Phase) × IsMade past old ops p new × (behind ≡ before ++ answers_of_lanes phase 1 p.lanes)
phase_made past old x y new phase ops before behind law targets as_old done opens fits run ends =
    let d = done.done past opens in
    let lanes : List (List Done) = d.0 in
    let through : IsThrough past y lanes = d.1 in
    let o : Opened = opened_in y in
    let e : o ≡ opened_in old = same_opened x y done.same.rest ∙ as_old in
    let p : Phase = phase_with o y.graph.base lanes through.going in
    let few : length lanes ≤ 1 = (let a = length-map lanes ops_in in let b : length (map ops_in lanes) ≡ length ops = ap length d.2 in let c = run.one in omega arith) in
    let one : max 1 (length lanes) ≡ length y.graph.edits = (let a : length y.graph.edits ≡ 1 = ap length through.edits in omega arith) in
    let is : IsPhase past (told p) = law past o y.graph.base through.calls through.going lanes through.lead through.speak (subst (PastFits past) (sym e) fits) (subst TargetsFit (sym e) targets) in
    let posts : ArePosted (told p).lanes y.graph.edits = subst (λ (lists : List (List Edit)). ArePosted (told p).lanes lists) (sym through.edits) (posted (verdict_of p) lanes few) in
    (p, record { opened = e; is_phase = is; ops_are = d.2; one = few; numbers = through.numbers; ended = ends (told p) refl through.open_at refl (ap (λ (n : ℕ). replicate n none_met) one) posts }, d.3)
