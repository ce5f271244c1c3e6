-- Each edit is told what comes of it when the phase is settled.
use Rattle.std.proofs.Common.{◌≡◌, ℕ, zero, suc, Bool, true, false, cond, List, [], ◌∷◌, ◌++◌, length, sym, refl, ap, ◌∙◌, subst, inl, ⊎_elim, Option, Some, None, Result, Ok, Err}
use Rattle.std.specs.Prelude.{max, map, replicate, unwrap_or, slice_get, filter_map, nat_eq}
use Rattle.std.specs.List.{cons_option}
use Rattle.std.specs.Option.{option_map, option_and_then}
use Rattle.std.proofs.lemmas.Bool.{true≢false}
use Rattle.std.proofs.lemmas.List.{length-map}
use Rattle.std.proofs.lemmas.List.Elements.{filter_map-append}
use Rattle.values.specs.declared.code.Code.{Code}
use Rattle.values.specs.declared.plan.Noted.{Noted}
use Rattle.values.specs.declared.plan.Fact.{Fact}
use Rattle.values.specs.declared.plan.Fact.TheVariants as fact
use Rattle.values.specs.declared.plan.Stop.{Stop}
use Rattle.values.specs.declared.plan.Stop.TheVariants as stop
use Rattle.store_fields.specs.declared.edit.Edit.{Edit}
use Rattle.store_fields.specs.declared.edit.Verdict.{Verdict}
use Rattle.store_fields.specs.declared.edit.Verdict.TheVariants.{Absent}
use Rattle.script_items.specs.declared.operation.ScriptOp.{ScriptOp}
use Rattle.script_items.specs.declared.operation.ScriptOp.TheVariants as op
use Rattle.script_items.specs.Script.{numbered}
use Rattle.run_items.specs.declared.answer.Reply.{Reply}
use Rattle.run_items.specs.declared.answer.Reply.TheVariants as reply
use Rattle.plain_evaluation.specs.Held.{Held}
use Rattle.run_meaning.specs.Words.{In}
use Rattle.run_meaning.specs.Opened.{Opened}
use Rattle.run_meaning.specs.Lane.{Done, Everywhere, edit_number, accepted, edits_in}
use Rattle.run_meaning.specs.Edits.{Ordered, ordered, held_written, change, held_changed, verdict_in, edit_at, edit_of, edits_of}
use Rattle.run_meaning.specs.Phase.{Phase}
use Rattle.run_meaning.specs.Merge.{is_answer}
use Rattle.run_meaning.specs.Run.{IsPhase}
use Rattle.run_history.specs.Going.{start_of, Going, just_opened, note}
use Rattle.run_history.specs.Calls.{Call, set, get, pump, dispose, edit, MadeCall, CallsLead, calls_by}
use Rattle.run_history.specs.History.{done_by, PastFits, VerdictFits, VerdictsFit}
use Rattle.run_history.proofs.Lists.{in_right}
use Rattle.run_history.proofs.Cut.{is_yes, noted_in, in_option_here, in_option_there, place}
use Rattle.run_history.proofs.Totals.{everywhere}
use Rattle.run_history.proofs.Numbers.{edit_noted}
use Rattle.run_weave.specs.Lanes.{IsQuietly, stopped, set_reply, get_reply, IsEditReply, Speaks, LaneSpeaks, ended, rests, speaks, lane_of, LanesSpeak, TargetsFit, phase_with, told_reply, told_done, told_lane, verdict_of, told}
use Rattle.run_weave.proofs.Whole.{Woven, woven, calls_make_phase}

-- ---- a lane that is told speaks as before

module _ (verdicts : ℕ → Verdict) where
  quiet_told : (o : Opened) (x : ScriptOp) (r : Reply) → IsQuietly o x r → IsQuietly o x (told_reply verdicts r)
  quiet_told o x (reply.Set n) q = absurd q
  quiet_told o x (reply.Got v n) q = absurd q
  quiet_told o x (reply.Pumped y) q = absurd q
  quiet_told o x (reply.Disposal y) q = absurd q
  quiet_told o x (reply.Edited n v) q = absurd q
  quiet_told o x reply.NoRow q = q
  quiet_told o x (reply.Busy n) q = absurd q
  quiet_told o x (reply.Again n) q = absurd q
  quiet_told o x (reply.Disposed n) q = q
  quiet_told o x (reply.Full n) q = absurd q

  stopped_told : (why : Stop) → told_reply verdicts (stopped why) ≡ stopped why
  stopped_told (stop.Disposed n) = refl
  stopped_told (stop.Full n) = refl

  set_told : (answer : Result ℕ Stop) → told_reply verdicts (set_reply answer) ≡ set_reply answer
  set_told (Ok n) = refl
  set_told (Err why) = stopped_told why

  get_told : (answer : Result (Code × ℕ) Stop) → told_reply verdicts (get_reply answer) ≡ get_reply answer
  get_told (Ok a) = refl
  get_told (Err why) = stopped_told why

  edit_told : (answer : Result ℕ Stop) (r : Reply) → IsEditReply answer r → IsEditReply answer (told_reply verdicts r)
  edit_told (Ok n) r q = (verdicts n, ap (told_reply verdicts) q.1)
  edit_told (Err why) r q = ap (told_reply verdicts) q ∙ stopped_told why

  speaks_told : (o : Opened) (call : Call) (x : ScriptOp) (r : Reply) → Speaks o call x r → Speaks o call x (told_reply verdicts r)
  speaks_told o (set row code answer) x r q = (q.0, q.1, ap (told_reply verdicts) q.2 ∙ set_told answer)
  speaks_told o (get row answer) x r q = (q.0, ap (told_reply verdicts) q.1 ∙ get_told answer)
  speaks_told o (pump y) x r q = (q.0, ap (told_reply verdicts) q.1)
  speaks_told o (dispose owner y) x r q = (q.0, ap (told_reply verdicts) q.1)
  speaks_told o (edit owner asked answer) x r q = (q.0, q.1, edit_told answer r q.2)

  lane_told : (o : Opened) {calls : List Call} {lane : List Done} → LaneSpeaks o calls lane → LaneSpeaks o calls (told_lane verdicts lane)
  lane_told o ended = ended
  lane_told o (rests d q s) = rests (told_done verdicts d) (quiet_told o d.op d.reply q) (lane_told o s)
  lane_told o (speaks call d q s) = speaks call (told_done verdicts d) (speaks_told o call d.op d.reply q) (lane_told o s)

  -- ---- it has the same edits

  number_told : (r : Reply) → edit_number (told_reply verdicts r) ≡ edit_number r
  number_told (reply.Set n) = refl
  number_told (reply.Got v n) = refl
  number_told (reply.Pumped y) = refl
  number_told (reply.Disposal y) = refl
  number_told (reply.Edited n v) = refl
  number_told reply.NoRow = refl
  number_told (reply.Busy n) = refl
  number_told (reply.Again n) = refl
  number_told (reply.Disposed n) = refl
  number_told (reply.Full n) = refl

  edits_told : (lane : List Done) → edits_in (told_lane verdicts lane) ≡ edits_in lane
  edits_told [] = refl
  edits_told (d ∷ lane) = λ i. cons_option (accepted d.op (number_told d.reply i)) (edits_told lane i)

  get_mapped : (lanes : List (List Done)) (n : ℕ) → slice_get (map (told_lane verdicts) lanes) n ≡ option_map (told_lane verdicts) (slice_get lanes n)
  get_mapped [] n = refl
  get_mapped (lane ∷ lanes) zero = refl
  get_mapped (lane ∷ lanes) (suc n) = get_mapped lanes n

  numbered_told : (lanes : List (List Done)) (pass : ℕ) → numbered (map (told_lane verdicts) lanes) pass ≡ option_map (told_lane verdicts) (numbered lanes pass)
  numbered_told lanes zero = refl
  numbered_told lanes (suc n) = get_mapped lanes n

  of_lane_told : (lanes : List (List Done)) (pass : ℕ) → lane_of (map (told_lane verdicts) lanes) pass ≡ told_lane verdicts (lane_of lanes pass)
  of_lane_told lanes pass = ap (λ (r : Option (List Done)). unwrap_or r []) (numbered_told lanes pass) ∙ by (numbered lanes pass)
    where
      by : (r : Option (List Done)) → unwrap_or (option_map (told_lane verdicts) r) [] ≡ told_lane verdicts (unwrap_or r [])
      by None = refl
      by (Some lane) = refl

  edit_at_told : (lanes : List (List Done)) (pass index : ℕ) → edit_at (map (told_lane verdicts) lanes) pass index ≡ edit_at lanes pass index
  edit_at_told lanes pass index = ap (λ (r : Option (List Done)). option_and_then (λ lane. slice_get (edits_in lane) index) r) (numbered_told lanes pass) ∙ by (numbered lanes pass)
    where
      by : (r : Option (List Done)) → option_and_then (λ lane. slice_get (edits_in lane) index) (option_map (told_lane verdicts) r) ≡ option_and_then (λ lane. slice_get (edits_in lane) index) r
      by None = refl
      by (Some lane) = ap (λ (es : List Edit). slice_get es index) (edits_told lane)

  edit_of_told : (lanes : List (List Done)) (n : ℕ) (f : Fact) → edit_of (map (told_lane verdicts) lanes) (note n f) ≡ edit_of lanes (note n f)
  edit_of_told lanes n (fact.Write row c) = refl
  edit_of_told lanes n (fact.Change row c) = refl
  edit_of_told lanes n (fact.Ran row c) = refl
  edit_of_told lanes n (fact.Void row) = refl
  edit_of_told lanes n (fact.Disposed owner) = refl
  edit_of_told lanes n (fact.Edit pass index) = ap (option_map (ordered n)) (edit_at_told lanes pass index)

  edits_of_told : (lanes : List (List Done)) (es : List Noted) → edits_of (map (told_lane verdicts) lanes) es ≡ edits_of lanes es
  edits_of_told lanes [] = refl
  edits_of_told lanes (e ∷ es) = λ i. cons_option (edit_of_told lanes e.number e.fact i) (edits_of_told lanes es i)

  pub lanes_told : (o : Opened) (calls : List MadeCall) (lanes : List (List Done)) → LanesSpeak o calls lanes → LanesSpeak o calls (map (told_lane verdicts) lanes)
  lanes_told o calls lanes speak pass = subst (λ (lane : List Done). LaneSpeaks o (calls_by pass calls) lane) (sym (of_lane_told lanes pass)) (lane_told o (speak pass))

  -- ---- what an edit was told

  abbrev is_edited : Reply → Bool
  is_edited (reply.Set n) = false
  is_edited (reply.Got v n) = false
  is_edited (reply.Pumped y) = false
  is_edited (reply.Disposal y) = false
  is_edited (reply.Edited n v) = true
  is_edited reply.NoRow = false
  is_edited (reply.Busy n) = false
  is_edited (reply.Again n) = false
  is_edited (reply.Disposed n) = false
  is_edited (reply.Full n) = false

  -- the number and the verdict of an edit
  abbrev number_or : Reply → ℕ
  number_or (reply.Set n) = 0
  number_or (reply.Got v n) = 0
  number_or (reply.Pumped y) = 0
  number_or (reply.Disposal y) = 0
  number_or (reply.Edited n v) = n
  number_or reply.NoRow = 0
  number_or (reply.Busy n) = 0
  number_or (reply.Again n) = 0
  number_or (reply.Disposed n) = 0
  number_or (reply.Full n) = 0

  abbrev verdict_or : Reply → Verdict
  verdict_or (reply.Set n) = Absent
  verdict_or (reply.Got v n) = Absent
  verdict_or (reply.Pumped y) = Absent
  verdict_or (reply.Disposal y) = Absent
  verdict_or (reply.Edited n v) = v
  verdict_or reply.NoRow = Absent
  verdict_or (reply.Busy n) = Absent
  verdict_or (reply.Again n) = Absent
  verdict_or (reply.Disposed n) = Absent
  verdict_or (reply.Full n) = Absent

  reply_told : (r : Reply) (n : ℕ) (v : Verdict) → told_reply verdicts r ≡ reply.Edited n v → v ≡ verdicts n
  reply_told (reply.Edited m u) n v e = sym (ap verdict_or e) ∙ ap verdicts (ap number_or e)
  reply_told (reply.Set m) n v e = absurd (true≢false (sym (ap is_edited e)))
  reply_told (reply.Got w m) n v e = absurd (true≢false (sym (ap is_edited e)))
  reply_told (reply.Pumped y) n v e = absurd (true≢false (sym (ap is_edited e)))
  reply_told (reply.Disposal y) n v e = absurd (true≢false (sym (ap is_edited e)))
  reply_told reply.NoRow n v e = absurd (true≢false (sym (ap is_edited e)))
  reply_told (reply.Busy m) n v e = absurd (true≢false (sym (ap is_edited e)))
  reply_told (reply.Again m) n v e = absurd (true≢false (sym (ap is_edited e)))
  reply_told (reply.Disposed m) n v e = absurd (true≢false (sym (ap is_edited e)))
  reply_told (reply.Full m) n v e = absurd (true≢false (sym (ap is_edited e)))

  told_in : (lane : List Done) (d : Done) (n : ℕ) (v : Verdict) → In d (told_lane verdicts lane) → d.reply ≡ reply.Edited n v → v ≡ verdicts n
  told_in [] d n v i e = absurd i
  told_in (x ∷ lane) d n v i e = ⊎_elim (λ (q : told_done verdicts x ≡ d). reply_told x.reply n v (ap (λ (y : Done). y.reply) q ∙ e)) (λ (t : In d (told_lane verdicts lane)). told_in lane d n v t e) i

-- ---- each accepted edit is among those of the phase

in_middle : (before later : List Done) (d : Done) → In d (before ++ d ∷ later)
in_middle before later d = in_right before (d ∷ later) d (inl refl)

at_length : (xs : List Edit) (e : Edit) (ys : List Edit) → slice_get (xs ++ e ∷ ys) (length xs) ≡ Some e
at_length [] e ys = refl
at_length (x ∷ xs) e ys = at_length xs e ys

edit_here : (x : ScriptOp) (n : ℕ) (v : Verdict) → is_answer x (reply.Edited n v) ≡ true → (e : Edit) × (accepted x (Some n) ≡ Some e)
edit_here (op.Set id key code) n v a = absurd (true≢false (sym a))
edit_here (op.Get id key) n v a = absurd (true≢false (sym a))
edit_here op.Pump n v a = absurd (true≢false (sym a))
edit_here (op.Dispose owner) n v a = absurd (true≢false (sym a))
edit_here (op.Change asked) n v a = (asked, refl)

-- the edit of a lane at its place
in_place : (before later : List Done) (d : Done) (n : ℕ) (v : Verdict) → d.reply ≡ reply.Edited n v → is_answer d.op d.reply ≡ true → (e : Edit) × (slice_get (edits_in (before ++ d ∷ later)) (length (edits_in before)) ≡ Some e)
in_place before later d n v is answer =
    let found = edit_here d.op n v (subst (λ (r : Reply). is_answer d.op r ≡ true) is answer) in
    let first : edits_in (d ∷ later) ≡ found.0 ∷ edits_in later = ap (λ (r : Reply). cons_option (accepted d.op (edit_number r)) (edits_in later)) is ∙ ap (λ (r : Option Edit). cons_option r (edits_in later)) found.1 in
    let all : edits_in (before ++ d ∷ later) ≡ edits_in before ++ found.0 ∷ edits_in later = filter_map-append (λ (x : Done). accepted x.op (edit_number x.reply)) before (d ∷ later) ∙ ap (λ (t : List Edit). edits_in before ++ t) first in
    (found.0, ap (λ (t : List Edit). slice_get t (length (edits_in before))) all ∙ at_length (edits_in before) found.0 (edits_in later))

numbered_is : (lanes : List (List Done)) (pass : ℕ) (before later : List Done) (d : Done) → lane_of lanes pass ≡ before ++ d ∷ later → numbered lanes pass ≡ Some (before ++ d ∷ later)
numbered_is lanes pass before later d e = by (numbered lanes pass) e
  where
    by : (r : Option (List Done)) → unwrap_or r [] ≡ before ++ d ∷ later → r ≡ Some (before ++ d ∷ later)
    by None q = let z : ⊥ = subst (λ (t : List Done). In d t) (sym q) (in_middle before later d) in absurd z
    by (Some lane) q = ap (λ (t : List Done). Some t) q

in_filtered : {X Y : Type 0} (f : X → Option Y) (xs : List X) (x : X) (y : Y) → In x xs → f x ≡ Some y → In y (filter_map f xs)
in_filtered f [] x y i e = absurd i
in_filtered f (z ∷ xs) x y i e = ⊎_elim (λ (q : z ≡ x). in_option_here (f z) (filter_map f xs) y (ap f q ∙ e)) (λ (t : In x xs). in_option_there (f z) (filter_map f xs) y (in_filtered f xs x y t e)) i

verdict_there : (xs : List Ordered) (held : Held) (x : Ordered) → In x xs → (v : Verdict) × (verdict_in xs held x.number ≡ Some v)
verdict_there [] held x i = absurd i
verdict_there (y ∷ xs) held x i = elim (nat_eq x.number y.number) as (λ b. (nat_eq x.number y.number ≡ b) → (v : Verdict) × (cond b (Some (change y.edit held).verdict) (verdict_in xs (held_changed y.edit held) x.number) ≡ Some v)) [
  | true ↦ λ q. ((change y.edit held).verdict, refl)
  | false ↦ λ q. ⊎_elim (λ (s : y ≡ x). absurd (true≢false (sym (is_yes x.number y.number (ap (λ (z : Ordered). z.number) (sym s))) ∙ q))) (λ (t : In x xs). verdict_there xs (held_changed y.edit held) x t) i
] refl

-- ---- all of it

module _ (past : List Phase) (o : Opened) (base : ℕ) (calls : List MadeCall) (k : Going) (lanes : List (List Done)) (lead : CallsLead (start_of past o) just_opened calls k) (speak : LanesSpeak o calls lanes) (fits : TargetsFit o) where
  abbrev verdicts : ℕ → Verdict
  verdicts = verdict_of (phase_with o base lanes k)

  abbrev lanes_then : List (List Done)
  lanes_then = map (told_lane verdicts) lanes

  pub speak_then : LanesSpeak o calls lanes_then
  speak_then = lanes_told verdicts o calls lanes speak

  abbrev phase_then : Phase
  phase_then = phase_with o base lanes_then k

  -- the edit of the reply is among those of the phase
  found : (w : Woven past o lanes_then k) (pass : ℕ) (before : List Done) (d : Done) (later : List Done) (n : ℕ) (v : Verdict) → done_by pass w.history ≡ before ++ d ∷ later → d.reply ≡ reply.Edited n v → (x : Verdict) × (verdict_in (edits_of lanes_then k.entries) (held_written o k.entries) n ≡ Some x)
  found w pass before d later n v e is =
      let t = place past o pass w.history k before d later w.follows e in
      let noted = edit_noted past o base (length lanes_then) pass w.history k before d later t n v is in
      let answer : is_answer d.op d.reply ≡ true = subst (λ (x : Done). is_answer x.op x.reply ≡ true) t.there.done t.does.answers in
      let here = in_place before later d n v is answer in
      let lane = numbered_is lanes_then pass before later d (sym (w.by pass) ∙ e) in
      let at : edit_at lanes_then pass (length (edits_in before)) ≡ Some here.0 = ap (λ (r : Option (List Done)). option_and_then (λ l. slice_get (edits_in l) (length (edits_in before))) r) lane ∙ here.1 in
      let entry : Noted = note n (fact.Edit pass (length (edits_in before))) in
      let of : edit_of lanes_then entry ≡ Some (ordered n here.0) = ap (option_map (ordered n)) at in
      let among = in_filtered (edit_of lanes_then) k.entries entry (ordered n here.0) (noted_in n k.entries (fact.Edit pass (length (edits_in before))) noted) of in
      verdict_there (edits_of lanes_then k.entries) (held_written o k.entries) (ordered n here.0) among

  verdict_fits : (w : Woven past o lanes_then k) (pass : ℕ) (before : List Done) (d : Done) (later : List Done) → done_by pass w.history ≡ before ++ d ∷ later → (r : Reply) → d.reply ≡ r → VerdictFits phase_then r
  verdict_fits w pass before d later e (reply.Edited n v) is =
      let x = found w pass before d later n v e is in
      let same : edits_of lanes_then k.entries ≡ edits_of lanes k.entries = edits_of_told verdicts lanes k.entries in
      let value : verdicts n ≡ x.0 = ap (λ (xs : List Ordered). unwrap_or (verdict_in xs (held_written o k.entries) n) Absent) (sym same) ∙ ap (λ (r : Option Verdict). unwrap_or r Absent) x.1 in
      let there : In d (told_lane verdicts (lane_of lanes pass)) = subst (λ (t : List Done). In d t) (sym e ∙ (w.by pass ∙ of_lane_told verdicts lanes pass)) (in_middle before later d) in
      let told_it : v ≡ verdicts n = told_in verdicts (lane_of lanes pass) d n v there is in
      x.1 ∙ ap (λ (y : Verdict). Some y) (sym (told_it ∙ value))
  verdict_fits w pass before d later e (reply.Set n) is = tt
  verdict_fits w pass before d later e (reply.Got v n) is = tt
  verdict_fits w pass before d later e (reply.Pumped y) is = tt
  verdict_fits w pass before d later e (reply.Disposal y) is = tt
  verdict_fits w pass before d later e reply.NoRow is = tt
  verdict_fits w pass before d later e (reply.Busy n) is = tt
  verdict_fits w pass before d later e (reply.Again n) is = tt
  verdict_fits w pass before d later e (reply.Disposed n) is = tt
  verdict_fits w pass before d later e (reply.Full n) is = tt

  verdicts_fit : VerdictsFit phase_then
  verdicts_fit =
      let w = woven past o calls k lanes_then lead speak_then fits in
      subst (λ (ls : List (List Done)). Everywhere (λ pass before d later. VerdictFits phase_then d.reply) ls) w.lanes_is
      (everywhere (λ pass before d later. VerdictFits phase_then d.reply) w.history (length lanes_then) (λ pass before d later e. verdict_fits w pass before d later e d.reply refl))

  -- the phase with each edit told what comes of it
  pub told_phase : PastFits past o → IsPhase past (told (phase_with o base lanes k))
  told_phase p = subst (λ (n : ℕ). IsPhase past (record { opened = o; lanes = lanes_then; drawn = k.drawn; base = base; entries = k.entries; counts = replicate (max 1 n) (record { meets = 0; remarks = 0 }) })) (length-map lanes (told_lane verdicts))
      (calls_make_phase past o base calls k lanes_then lead speak_then p fits verdicts_fit)
