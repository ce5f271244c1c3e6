-- A run goes on by a phase.
use Rattle.std.proofs.Common.{◌≡◌, ℕ, suc, ◌+◌, ◌<◌, Bool, true, false, cond, List, [], ◌∷◌, ◌++◌, length, map, take, drop, sym, ap, subst, ◌∙◌, arith, append_assoc, refl}
use Rattle.std.proofs.Math.Seq.{drop-append_seam}
use Rattle.std.proofs.lemmas.List.{append-nil, length-map, take_more, length-take-le}
use Rattle.component_items.specs.declared.component.Component.{Component}
use Rattle.script_items.specs.declared.operation.ScriptOp.{ScriptOp}
use Rattle.run_items.specs.declared.answer.Answer.{Answer}
use Rattle.outside.specs.Counts.{RoseByTogether}
use Rattle.outside.proofs.CountLemmas.{RoseByTogether-then}
use Rattle.held_state.specs.State.{HeldState, first_state}
use Rattle.plain_evaluation.specs.Held.{Held, first_held}
use Rattle.plain_evaluation.specs.Scratch.{pending}
use Rattle.run_meaning.specs.Ending.{report_if}
use Rattle.run_meaning.specs.Lane.{Done}
use Rattle.run_meaning.specs.Opened.{opened_of}
use Rattle.run_meaning.specs.Phase.{Phase}
use Rattle.run_meaning.specs.Report.{answer_lines, journal_lines}
use Rattle.run_meaning.specs.Run.{Settled, more, after, phases_of, script_of, answers_of_lanes, answers_from, answers_of, journal_of, none, Runs, held_arrived, states_of, refusals_owed, refusals_of}
use Rattle.report_text.proofs.LineLemmas.{report_from-push}
use Rattle.run_weave.specs.Lanes.{told}
use Rattle.script_run.specs.declared.run.Ran.{Ran}
use Rattle.lane_run.specs.Lanes.{lanes_at}
use Rattle.phase_run.specs.Phases.{IsMade}
use Rattle.script_run.specs.Ran.{IsRanTo, GoesOn, LoaderCounts}
use Rattle.settling_rounds.specs.Settlings.{Settles}
use Rattle.still_graph.specs.declared.still.Stage.TheVariants.{Made}
use Rattle.still_graph.specs.Still.{StillState, IsSettledAfter}
use Rattle.lane_run.proofs.Lists.{map_last}
use Rattle.lane_run.proofs.Asked.{lanes_behind}
use Rattle.phase_run.proofs.Made.{told_ops}
use Rattle.script_run.proofs.Rounds.{alone, refused_last}

phases_last : (steps : List Settled) (s : Settled) → phases_of (steps ++ s ∷ []) ≡ phases_of steps ++ s.phase ∷ []
phases_last steps s = map_last (λ (t : Settled). t.phase) steps s

answers_last : (n : ℕ) (ps : List Phase) (p : Phase) (k : ℕ) → k ≡ n + length ps → answers_from n (ps ++ p ∷ []) ≡ answers_from n ps ++ answers_of_lanes k 1 p.lanes
answers_last n [] p k e = let f : n ≡ k = omega arith in append-nil (answers_of_lanes n 1 p.lanes) ∙ ap (λ (m : ℕ). answers_of_lanes m 1 p.lanes) f
answers_last n (q ∷ ps) p k e =
    ap (λ (t : List Answer). answers_of_lanes n 1 q.lanes ++ t) (answers_last (suc n) ps p k (omega arith))
    ∙ sym (append_assoc (answers_of_lanes n 1 q.lanes) (answers_from (suc n) ps) (answers_of_lanes k 1 p.lanes))

-- the phases that were run are as many as those of the script
pub as_many : (ps : List Phase) (script : List (List (List ScriptOp))) (before : ℕ) → before < length script → script_of ps ≡ take before script → length ps ≡ before
as_many ps script before l e =
    let a = length-map ps (λ (p : Phase). map (map (λ (d : Done). d.op)) p.lanes) in
    let b : length (script_of ps) ≡ length (take before script) = ap length e in
    let c = length-take-le before script (omega arith) in
    omega arith

script_last : (ps : List Phase) (p : Phase) (script : List (List (List ScriptOp))) (before : ℕ) → before < length script → script_of ps ≡ take before script → map (map (λ d. d.op)) p.lanes ≡ lanes_at script (before + 1) → script_of (ps ++ p ∷ []) ≡ take (before + 1) script
script_last ps p script before l e ops =
    map_last (λ (q : Phase). map (map (λ (d : Done). d.op)) q.lanes) ps p
    ∙ (λ i. e i ++ (ops ∙ lanes_behind script before) i ∷ [])
    ∙ sym (take_more script before [] l)

-- the answers behind those that stood before are those that came
pub what_came : (old new came : List Answer) (first : ℕ) (behind : List Answer) → behind ≡ drop first new → first ≡ length old → new ≡ old ++ came → behind ≡ came
what_came old new came first behind is long grown = is ∙ ap (λ (k : ℕ). drop k new) long ∙ ap (drop (length old)) grown ∙ drop-append_seam old came

-- the lines of a phase, where they are asked for
abbrev pub lines_if : Bool → List (List ℕ) → ℕ → Phase → List ℕ
lines_if asked texts n p = cond asked (answer_lines texts n 1 p.lanes ++ journal_lines texts p.opened.plan.owners n p.entries) []

-- those of a component are those of the same one
pub same_lines : (asked : Bool) (x y : Component) (n : ℕ) (p : Phase) (old new : List ℕ) → new ≡ old ++ lines_if asked x.texts n p → x ≡ y → new ≡ old ++ lines_if asked y.texts n p
same_lines asked x y n p old new is same = is ∙ ap (λ (c : Component). old ++ lines_if asked c.texts n p) same

report_more : (asked : Bool) (component : Component) (ps : List Phase) (p : Phase) (n : ℕ) (old new : List ℕ) → n ≡ 1 + length ps → old ≡ report_if asked component ps → new ≡ old ++ lines_if asked component.texts n p → new ≡ report_if asked component (ps ++ p ∷ [])
report_more true component ps p n old new k was is =
    is ∙ ap (λ (t : List ℕ). t ++ lines_if true component.texts n p) was ∙ sym (report_from-push component.texts 1 n ps p k)
report_more false component ps p n old new k was is = is ∙ append-nil old ∙ was

-- what was counted, with one settling more
abbrev pub counted_from : ℕ → ℕ → ℕ → ℕ → LoaderCounts
counted_from faults faults_after not_yets not_yets_after = record { faults = faults; faults_after = faults_after; not_yets = not_yets; not_yets_after = not_yets_after }

pub runs_on : (component : Component) (script : List (List (List ScriptOp))) (asked : Bool) (rounds before : ℕ) (old new : Ran) (mid : StillState) (q : Phase) (faults faults_between faults_after not_yets not_yets_between not_yets_after : ℕ)
    → before < length script → (so_far : GoesOn component (take before script) asked rounds (counted_from faults faults_between not_yets not_yets_between) old) → IsMade (phases_of so_far.to.steps) old.still (lanes_at script (before + 1)) q mid
    → mid.component ≡ component → Settles mid new.still
    → new.answers ≡ old.answers ++ answers_of_lanes (before + 1) 1 (told q).lanes
    → new.report.items ≡ old.report.items ++ lines_if asked component.texts (before + 1) (told q)
    → new.pending ≡ pending new.still.component new.still.state.held
    → RoseByTogether (refusals_owed rounds new.pending) faults_between faults_after not_yets_between not_yets_after
    → GoesOn component (take (before + 1) script) asked rounds (counted_from faults faults_after not_yets not_yets_after) new
runs_on component script asked rounds before old new mid q faults faults_between faults_after not_yets not_yets_between not_yets_after l so_far made same settles answers lines waiting counted =
    let p : Phase = told q in
    let steps : List Settled = so_far.to.steps in
    let past : List Phase = phases_of steps in
    let ended = settles.ended past p made.ended in
    let s : Settled = record { phase = p; held = new.still.state.held } in
    let last : phases_of (steps ++ s ∷ []) ≡ past ++ p ∷ [] = phases_last steps s in
    let many : length past ≡ before = as_many past script before l so_far.to.script_is in
    let is_component : new.still.component ≡ component = settles.component ∙ same in
    let pending_now : new.pending ≡ pending component new.still.state.held = waiting ∙ ap (λ (c : Component). pending c new.still.state.held) is_component in
    let first : Held = held_arrived so_far.to.keys (first_held component) in
    let owed : ℕ = refusals_of component rounds (states_of first steps) in
    let all : refusals_of component rounds (states_of first (steps ++ s ∷ [])) ≡ owed + refusals_owed rounds new.pending = refused_last component rounds first steps s ∙ ap (λ (ids : List ℕ). owed + refusals_owed rounds ids) (sym pending_now) in
    let to : IsRanTo component (take (before + 1) script) asked rounds (counted_from faults faults_after not_yets not_yets_after) new = record {
      keys = so_far.to.keys;
      steps = steps ++ s ∷ [];
      runs = more s ended.0 so_far.to.runs (made.opened ∙ ap (λ (c : Component). opened_of c old.still.state.held) so_far.to.component_is) made.is_phase (ended.1 ∙ ap (λ (c : Component). after c p ended.0) same);
      script_is = ap script_of last ∙ script_last past p script before l so_far.to.script_is (told_ops q ∙ made.ops_are);
      answers_are = ap answers_of last ∙ answers_last 1 past p (before + 1) (omega arith) ∙ ap (λ (t : List Answer). t ++ answers_of_lanes (before + 1) 1 p.lanes) so_far.to.answers_are ∙ sym answers;
      journal_is = ap journal_of last ∙ sym ended.2.journal;
      report_is = report_more asked component past p (before + 1) old.report.items new.report.items (omega arith) so_far.to.report_is lines ∙ ap (report_if asked component) (sym last);
      pending_is = pending_now;
      component_is = is_component;
      refused = subst (λ (n : ℕ). RoseByTogether n faults faults_after not_yets not_yets_after) (sym all)
          (RoseByTogether-then owed (refusals_owed rounds new.pending) faults faults_between faults_after not_yets not_yets_between not_yets_after so_far.to.refused counted);
    } in
    record { to = to; settled = subst (λ (ps : List Phase). IsSettledAfter ps new.still) (sym last) ended.2 }

-- ---- before the first phase

no_lines : (asked : Bool) (component : Component) → [] ≡ report_if asked component []
no_lines true component = refl
no_lines false component = refl

pub begins : (component : Component) (asked : Bool) (rounds : ℕ) (made : StillState) (ran : Ran) (counts : LoaderCounts) → made.component ≡ component → made.state ≡ first_state component → made.stage ≡ Made → Settles made ran.still
    → ran.answers ≡ [] → ran.report.items ≡ [] → ran.pending ≡ pending ran.still.component ran.still.state.held
    → RoseByTogether (refusals_owed rounds ran.pending) counts.faults counts.faults_after counts.not_yets counts.not_yets_after → GoesOn component [] asked rounds counts ran
begins component asked rounds made ran counts same state stage settles answers lines waiting counted =
    let first = settles.made stage in
    let is_component : ran.still.component ≡ component = settles.component ∙ same in
    let held : ran.still.state.held ≡ held_arrived first.0 (first_held component) = first.1 ∙ ap (λ (s : HeldState). held_arrived first.0 s.held) state in
    let pending_now : ran.pending ≡ pending component ran.still.state.held = waiting ∙ ap (λ (c : Component). pending c ran.still.state.held) is_component in
    let owed : refusals_owed rounds ran.pending ≡ refusals_of component rounds (states_of (held_arrived first.0 (first_held component)) []) =
    ap (refusals_owed rounds) (pending_now ∙ ap (pending component) held) ∙ sym (alone (refusals_owed rounds (pending component (held_arrived first.0 (first_held component))))) in
    let to : IsRanTo component [] asked rounds counts ran = record {
      keys = first.0;
      steps = [];
      runs = subst (λ (h : Held). Runs component (held_arrived first.0 (first_held component)) [] h) (sym held) none;
      script_is = refl;
      answers_are = sym answers;
      journal_is = sym first.2.journal;
      report_is = lines ∙ no_lines asked component;
      pending_is = pending_now;
      component_is = is_component;
      refused = subst (λ (n : ℕ). RoseByTogether n counts.faults counts.faults_after counts.not_yets counts.not_yets_after) owed counted;
    } in
    record { to = to; settled = first.2 }
