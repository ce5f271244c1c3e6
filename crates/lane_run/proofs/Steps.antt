-- A lane goes on.
use Rattle.std.proofs.Common.{◌≡◌, ℕ, zero, suc, ◌+◌, ◌<◌, ◌≤◌, ◌==◌, Bool, true, false, cond, List, [], ◌∷◌, ◌++◌, length, map, Option, Some, None, refl, sym, ap, subst, ◌∙◌, arith, add-one, append_assoc}
use Rattle.std.specs.Prelude.{slice_get, take, unwrap_or}
use Rattle.std.specs.List.{AllByRecursion}
use Rattle.std.specs.Option.{option_map, option_and_then}
use Rattle.std.proofs.lemmas.List.{append-nil, length-map, take_more, take_all, length-take-le}
use Rattle.std.proofs.lemmas.Option.{slice_get_within, get_or_from_slice_get}
use Rattle.values.specs.declared.plan.Noted.{Noted}
use Rattle.component_items.specs.Kept.{IsKept}
use Rattle.store_fields.specs.declared.edit.Edit.{Edit}
use Rattle.script_items.specs.declared.operation.ScriptOp.{ScriptOp}
use Rattle.script_items.specs.Script.{numbered, lanes_of, op_at}
use Rattle.run_items.specs.declared.answer.Answer.{Answer}
use Rattle.run_items.specs.declared.answer.Reply.{Reply}
use Rattle.plain_evaluation.specs.Fits.{Fits}
use Rattle.plan_meaning.specs.Owners.{plan_owners}
use Rattle.run_meaning.specs.Opened.{Opened, opened_of}
use Rattle.run_meaning.specs.Lane.{Done}
use Rattle.run_meaning.specs.Phase.{Phase}
use Rattle.run_meaning.specs.Run.{answers_of_lane}
use Rattle.run_history.specs.Going.{Going, start_of, just_opened}
use Rattle.run_history.specs.Calls.{Call, MadeCall, Calls, Makes, CallsLead, calls_by}
use Rattle.run_weave.specs.Lanes.{IsQuietly, Speaks, LaneSpeaks, ended, lane_of, LanesSpeak}
use Rattle.phase_graph.specs.Way.{no_edits}
use Rattle.still_graph.specs.declared.still.Stage.{Stage}
use Rattle.still_graph.specs.declared.still.Stage.TheVariants.{Open, Ended}
use Rattle.still_graph.specs.Still.{StillState, opened_in, start_in, IsOpenAt}
use Rattle.lane_run.specs.Lanes.{IsOpenOver, IsSamePhase, IsAtOp, DoesNext, HasDone, HaveDone, first_ops, lanes_at}
use Rattle.lane_run.proofs.Lists.{folds_last, each_last, map_last}
use Rattle.lane_run.proofs.Noted.{edits_after, edits_rest, told_rest, edits_spoke, told_spoke}

abbrev made : Call → MadeCall
made call = record { pass = 1; call = call }

calls_by_last : (calls : List MadeCall) (call : Call) → calls_by 1 (calls ++ made call ∷ []) ≡ calls_by 1 calls ++ call ∷ []
calls_by_last [] call = refl
calls_by_last (m ∷ calls) call = at (1 == m.pass) (calls_by_last calls call)
  where
    at : (b : Bool) → calls_by 1 (calls ++ made call ∷ []) ≡ calls_by 1 calls ++ call ∷ [] → cond b (m.call ∷ calls_by 1 (calls ++ made call ∷ [])) (calls_by 1 (calls ++ made call ∷ [])) ≡ cond b (m.call ∷ calls_by 1 calls) (calls_by 1 calls) ++ call ∷ []
    at true e = ap (λ (t : List Call). m.call ∷ t) e
    at false e = e

-- what goes on in the same phase opens with the same
pub same_opened : (x y : StillState) → y ≡ record x { graph = y.graph } → opened_in y ≡ opened_in x
same_opened x y e = ap (λ (z : StillState). opened_of z.component z.state.held) e

abbrev pub Rests : Type 0
Rests = (o : Opened) (calls : List Call) (lane : List Done) (d : Done) → LaneSpeaks o calls lane → IsQuietly o d.op d.reply → LaneSpeaks o calls (lane ++ d ∷ [])

abbrev pub SpeaksOn : Type 0
SpeaksOn = (o : Opened) (calls : List Call) (lane : List Done) (call : Call) (d : Done) → LaneSpeaks o calls lane → Speaks o call d.op d.reply → LaneSpeaks o (calls ++ call ∷ []) (lane ++ d ∷ [])

-- with an operation that makes no call
pub rested : (past : List Phase) (x : StillState) (lane : List Done) (d : Done) → Rests → IsAtOp past x lane → IsQuietly (opened_in x) d.op d.reply → IsAtOp past x (lane ++ d ∷ [])
rested past x lane d rests at quiet = record {
  calls = at.calls;
  going = at.going;
  lead = at.lead;
  open_at = at.open_at;
  by_one = at.by_one;
  speaks = rests (opened_in x) (calls_by 1 at.calls) lane d at.speaks quiet;
  edits = at.edits ∙ ap (λ (t : List Edit). t ∷ []) (sym (edits_rest (opened_in x) lane d quiet));
  numbers = told_rest (opened_in x) lane d quiet ∙ at.numbers;
}

abbrev pub Goes : List Phase → StillState → StillState → Call → Type 0
Goes past x y call = (g : Going) → IsOpenAt past g x → (block : List Noted) × (h : Going) × Calls (start_in past x) g block h 1 call × IsOpenAt past h y

-- with one more call
pub spoke : (past : List Phase) (x y : StillState) (lane : List Done) (call : Call) (d : Done) → SpeaksOn → IsAtOp past x lane → y ≡ record x { graph = y.graph } → y.graph.edits ≡ edits_after call x.graph.edits → Goes past x y call → Speaks (opened_in x) call d.op d.reply → IsAtOp past y (lane ++ d ∷ [])
spoke past x y lane call d on at same edits goes speaks =
    let step = goes at.going at.open_at in
    let e : opened_in y ≡ opened_in x = same_opened x y same in record {
      calls = at.calls ++ made call ∷ [];
      going = step.1;
      lead = subst (λ (o : Opened). CallsLead (start_of past o) just_opened (at.calls ++ made call ∷ []) step.1) (sym e) (folds_last (Makes (start_in past x)) just_opened at.calls (made call) at.going step.1 at.lead (step.0, step.2));
      open_at = step.3;
      by_one = each_last (λ m. m.pass ≡ 1) at.calls (made call) at.by_one refl;
      speaks = subst (λ (o : Opened). LaneSpeaks o (calls_by 1 (at.calls ++ made call ∷ [])) (lane ++ d ∷ [])) (sym e) (subst (λ (cs : List Call). LaneSpeaks (opened_in x) cs (lane ++ d ∷ [])) (sym (calls_by_last at.calls call)) (on (opened_in x) (calls_by 1 at.calls) lane call d at.speaks speaks));
      edits = edits_spoke (opened_in x) lane call d x.graph.edits y.graph.edits speaks edits at.edits;
      numbers = told_spoke (start_in past x) (opened_in x) lane call d at.going step.1 step.0 speaks step.2 at.numbers;
    }

-- no operation was made yet
pub started : (past : List Phase) (x : StillState) → IsOpenAt past just_opened x → x.graph.edits ≡ no_edits 1 → IsAtOp past x []
started past x opens none = record { calls = []; going = just_opened; lead = refl; open_at = opens; by_one = tt; speaks = ended; edits = none; numbers = refl }

-- ---- the same phase

pub stays_open : (x y : StillState) → IsOpenOver x → IsSamePhase x y → IsOpenOver y
stays_open x y is same = record {
  stage = ap (λ (z : StillState). z.stage) same.rest ∙ is.stage;
  plan = same.plan ∙ is.plan ∙ ap (λ (o : Opened). o.plan) (sym (same_opened x y same.rest));
  kept = subst (λ (z : StillState). IsKept z.component) (sym same.rest) is.kept;
  fits = subst (λ (z : StillState). Fits z.component z.state.held) (sym same.rest) is.fits;
  owners = subst (λ (z : StillState). length z.state.held.live ≡ length (plan_owners z.component)) (sym same.rest) is.owners;
}

pub same_self : (x : StillState) → IsSamePhase x x
same_self x = record { rest = refl; plan = refl; base = refl; room = refl }

pub same_more : (x y z : StillState) → IsSamePhase x y → IsSamePhase y z → IsSamePhase x z
same_more x y z first second = record {
  rest = second.rest ∙ ap (λ (w : StillState). record w { graph = z.graph }) first.rest;
  plan = second.plan ∙ first.plan;
  base = second.base ∙ first.base;
  room = second.room ∙ first.room;
}

-- ---- answers

pub answers_last : (phase lane n : ℕ) (ds : List Done) (d : Done) (k : ℕ) → k ≡ n + length ds → answers_of_lane phase lane n (ds ++ d ∷ []) ≡ answers_of_lane phase lane n ds ++ record { phase = phase; lane = lane; op = k; reply = d.reply } ∷ []
answers_last phase lane n [] d k e = let f : n ≡ k = omega arith in ap (λ (m : ℕ). record { phase = phase; lane = lane; op = m; reply = d.reply } ∷ []) f
answers_last phase lane n (x ∷ ds) d k e = ap (λ (t : List Answer). record { phase = phase; lane = lane; op = n; reply = x.reply } ∷ t) (answers_last phase lane (suc n) ds d k (omega arith))

-- ---- a lane, operation by operation

-- an operation of the first lane, by its number
op_in : (r : Option (List ScriptOp)) (before : ℕ) → option_and_then (λ ops. numbered ops (before + 1)) r ≡ slice_get (unwrap_or r []) before
op_in None before = refl
op_in (Some ops) before = ap (numbered ops) (add-one before)

-- what is found at the number is the operation at its place
pub op_found : (script : List (List (List ScriptOp))) (phase before : ℕ) (r : Option ScriptOp) → r ≡ op_at script phase 1 (before + 1) → slice_get (first_ops script phase) before ≡ r
op_found script phase before r is = sym (op_in (option_and_then (λ lanes. numbered lanes 1) (numbered script phase)) before) ∙ sym is

pub none_done : (phase : ℕ) (x : StillState) (answers : List Answer) → HasDone phase [] x x answers answers
none_done phase x answers = record { same = same_self x; done = λ past at. ([], at, refl, sym (append-nil answers)) }

take_at : {X : Type 0} (xs : List X) (k : ℕ) (x : X) → slice_get xs k ≡ Some x → take (k + 1) xs ≡ take k xs ++ x ∷ []
take_at xs k x at = take_more xs k x (slice_get_within xs k x at) ∙ ap (λ (y : _). take k xs ++ y ∷ []) (get_or_from_slice_get xs k x x at)

pub one_more_done : (phase : ℕ) (asked : List ScriptOp) (before : ℕ) (op : ScriptOp) (r : Reply) (x y z : StillState) (first behind last : List Answer)
    → HasDone phase (take before asked) x y first behind → slice_get asked before ≡ Some op → IsSamePhase y z → DoesNext y op r z
    → last ≡ behind ++ record { phase = phase; lane = 1; op = before + 1; reply = r } ∷ []
    → HasDone phase (take (before + 1) asked) x z first last
one_more_done phase asked before op r x y z first behind last has there same does is = record {
  same = same_more x y z has.same same;
  done = λ past at.
      let d = has.done past at in
      let lane : List Done = d.0 in
      let one : Done = record { op = op; reply = r } in
      let answer : Answer = record { phase = phase; lane = 1; op = before + 1; reply = r } in
      let within = slice_get_within asked before op there in
      let long : before + 1 ≡ 1 + length lane = (let a = length-map lane (λ (e : Done). e.op) in let b : length (map (λ (e : Done). e.op) lane) ≡ length (take before asked) = ap length d.2 in let c = length-take-le before asked (omega arith) in omega arith) in (
        lane ++ one ∷ [],
        does past lane d.1,
        map_last (λ (e : Done). e.op) lane one ∙ ap (λ (t : List ScriptOp). t ++ op ∷ []) d.2 ∙ sym (take_at asked before op there),
        is ∙ ap (λ (t : List Answer). t ++ answer ∷ []) d.3 ∙ append_assoc first (answers_of_lane phase 1 1 lane) (answer ∷ []) ∙ ap (λ (t : List Answer). first ++ t) (sym (answers_last phase 1 1 lane one (before + 1) long)),
      );
}

pub all_done : (phase : ℕ) (asked : List ScriptOp) (before : ℕ) (x y : StillState) (first behind : List Answer) → HasDone phase (take before asked) x y first behind → length asked ≤ before → HasDone phase asked x y first behind
all_done phase asked before x y first behind has l = subst (λ (ops : List ScriptOp). HasDone phase ops x y first behind) (take_all before asked l) has

-- past the last operation
pub none_at : {X : Type 0} (xs : List X) (k : ℕ) → slice_get xs k ≡ None → length xs ≤ k
none_at [] k e = omega arith
none_at (x ∷ xs) zero e = absurd cc
none_at (x ∷ xs) (suc k) e = let l = none_at xs k e in omega arith

-- ---- the lanes of a phase

no_calls : (o : Opened) → LanesSpeak o [] []
no_calls o zero = ended
no_calls o (suc pass) = ended

pub no_lanes_done : (phase : ℕ) (asked : List (List ScriptOp)) (x : StillState) (answers : List Answer) → x.graph.edits ≡ no_edits 1 → asked ≡ [] → HaveDone phase asked x x answers answers
no_lanes_done phase asked x answers edits none = record {
  same = same_self x;
  done = λ past opens. ([], record { calls = []; going = just_opened; lead = refl; open_at = opens; speak = no_calls (opened_in x); edits = edits; numbers = refl }, sym none, sym (append-nil answers));
}

one_pass : (calls : List MadeCall) → AllByRecursion (λ m. m.pass ≡ 1) calls → AllByRecursion (λ m. (0 < m.pass) × (m.pass ≤ 1)) calls
one_pass [] all = tt
one_pass (m ∷ calls) all = let e = all.0 in ((omega arith, omega arith), one_pass calls all.1)

abbrev pub MakeAll : Type 0
MakeAll = (o : Opened) (calls : List MadeCall) (lanes : List (List Done)) → AllByRecursion (λ m. (0 < m.pass) × (m.pass ≤ length lanes)) calls
    → ((i : ℕ) → i < length lanes → LaneSpeaks o (calls_by (suc i) calls) (lane_of lanes (suc i))) → LanesSpeak o calls lanes

alone : (o : Opened) (calls : List MadeCall) (lane : List Done) → LaneSpeaks o (calls_by 1 calls) lane → (i : ℕ) → i < 1 → LaneSpeaks o (calls_by (suc i) calls) (lane_of (lane ∷ []) (suc i))
alone o calls lane s zero l = s
alone o calls lane s (suc i) l = absurd (omega arith)

pub one_lane_done : (phase : ℕ) (ops : List ScriptOp) (asked : List (List ScriptOp)) (x y : StillState) (first behind : List Answer) → MakeAll → x.graph.edits ≡ no_edits 1 → HasDone phase ops x y first behind → asked ≡ ops ∷ [] → HaveDone phase asked x y first behind
one_lane_done phase ops asked x y first behind make edits has is = record {
  same = has.same;
  done = λ past opens.
      let d = has.done past (started past x opens edits) in
      let at : IsAtOp past y d.0 = d.1 in (
        d.0 ∷ [],
        record { calls = at.calls; going = at.going; lead = at.lead; open_at = at.open_at; speak = make (opened_in y) at.calls (d.0 ∷ []) (one_pass at.calls at.by_one) (alone (opened_in y) at.calls d.0 at.speaks); edits = at.edits; numbers = at.numbers },
        ap (λ (t : List ScriptOp). t ∷ []) d.2 ∙ sym is,
        d.3 ∙ ap (λ (t : List Answer). first ++ t) (sym (append-nil (answers_of_lane phase 1 1 d.0))),
      );
}

-- a phase with no lane, and one with one
lane_count : (r : Option (List (List ScriptOp))) → unwrap_or (option_map length r) 0 ≡ length (unwrap_or r [])
lane_count None = refl
lane_count (Some lanes) = refl

no_lanes : (lanes : List (List ScriptOp)) → length lanes ≡ 0 → lanes ≡ []
no_lanes [] e = refl
no_lanes (ops ∷ lanes) e = absurd (omega arith)

one_lane : (r : Option (List (List ScriptOp))) → 0 < length (unwrap_or r []) → length (unwrap_or r []) ≤ 1 → unwrap_or r [] ≡ unwrap_or (option_and_then (λ lanes. numbered lanes 1) r) [] ∷ []
one_lane None more few = absurd (omega arith)
one_lane (Some []) more few = absurd (omega arith)
one_lane (Some (ops ∷ [])) more few = refl
one_lane (Some (ops ∷ others ∷ lanes)) more few = absurd (omega arith)

pub no_lanes_at : (script : List (List (List ScriptOp))) (phase n : ℕ) → n ≡ unwrap_or (lanes_of script phase) 0 → n ≡ 0 → lanes_at script phase ≡ []
no_lanes_at script phase n e none = no_lanes (lanes_at script phase) (sym (lane_count (numbered script phase)) ∙ sym e ∙ none)

pub one_lane_at : (script : List (List (List ScriptOp))) (phase n : ℕ) → n ≡ unwrap_or (lanes_of script phase) 0 → 0 < n → length (lanes_at script phase) ≤ 1 → lanes_at script phase ≡ first_ops script phase ∷ []
one_lane_at script phase n e more few = one_lane (numbered script phase) (let c : n ≡ length (lanes_at script phase) = e ∙ lane_count (numbered script phase) in omega arith) few

pub not_open : (s : Stage) → s ≡ Ended → s ≡ Open → ⊥
not_open s e f = cc
