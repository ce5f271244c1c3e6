-- What calls note of edits, and what lanes are told of them.
use Rattle.std.proofs.Common.{◌≡◌, ℕ, zero, suc, ◌+◌, ◌-◌, ◌<◌, ◌≤◌, Bool, true, false, cond, List, [], ◌∷◌, ◌++◌, length, map, Option, Some, None, Result, Ok, Err, refl, sym, ap, subst, ◌∙◌, ⊎_elim, arith}
use Rattle.std.specs.Prelude.{slice_get, count_by, ◌&&◌}
use Rattle.std.specs.List.{cons_option}
use Rattle.std.specs.Option.{option_map, option_and_then}
use Rattle.std.proofs.lemmas.Bool.{true≢false, cases_lt}
use Rattle.std.proofs.lemmas.List.{append-nil}
use Rattle.std.proofs.lemmas.List.Elements.{filter_map-append}
use Rattle.values.specs.declared.code.Code.{Code}
use Rattle.values.specs.declared.plan.Noted.{Noted}
use Rattle.values.specs.declared.plan.Fact.{Fact}
use Rattle.values.specs.declared.plan.Fact.TheVariants as fact
use Rattle.values.specs.declared.plan.Stop.{Stop}
use Rattle.values.specs.declared.plan.Stop.TheVariants as stop
use Rattle.store_fields.specs.declared.edit.Edit.{Edit}
use Rattle.store_fields.specs.declared.edit.Verdict.{Verdict}
use Rattle.script_items.specs.declared.operation.ScriptOp.{ScriptOp}
use Rattle.script_items.specs.declared.operation.ScriptOp.TheVariants as op
use Rattle.run_items.specs.declared.answer.Reply.{Reply}
use Rattle.run_items.specs.declared.answer.Reply.TheVariants as reply
use Rattle.run_meaning.specs.Entries.{is_disposal}
use Rattle.run_meaning.specs.Edits.{ordered, edit_at, named_edit, edits_of}
use Rattle.run_meaning.specs.Lane.{Done, edit_number, accepted, edits_in}
use Rattle.run_meaning.specs.Merge.{is_edit}
use Rattle.run_meaning.specs.Opened.{Opened}
use Rattle.run_history.specs.Going.{Start, Going, Numbered, all_are, is_edit_by, edits_by, derived_of}
use Rattle.run_history.specs.Calls.{Call, set, get, pump, dispose, edit, Calls, Stops, is_change, is_of_pump}
use Rattle.run_weave.specs.Lanes.{IsQuietly, Speaks, stopped, set_reply, get_reply, told_reply, told_lane}
use Rattle.phase_graph.specs.Graph.{edits_with}
use Rattle.phase_edits.specs.Told.{edit_numbers}
use Rattle.lane_run.specs.Lanes.{edits_told}
use Rattle.lane_run.proofs.Lists.{count_cons}

-- ---- blocks

both_true : (a b : Bool) → (a && b) ≡ true → (a ≡ true) × (b ≡ true)
both_true true b e = (refl, e)
both_true false b e = absurd (true≢false (sym e))

-- entries of which none is of an edit
none_among : (test : Fact → Bool) → ((f : Fact) → test f ≡ true → is_edit_by 1 f ≡ false) → (es : List Noted) → all_are test es ≡ true → edit_numbers 1 es ≡ []
none_among test safe [] all = refl
none_among test safe (e ∷ es) all =
    let b = both_true (test e.fact) (all_are test es) all in
    ap (λ (b : Bool). cons_option (cond b (Some e.number) None) (edit_numbers 1 es)) (safe e.fact b.0) ∙ none_among test safe es b.1

change_safe : (f : Fact) → is_change f ≡ true → is_edit_by 1 f ≡ false
change_safe (fact.Write row code) e = refl
change_safe (fact.Change row code) e = refl
change_safe (fact.Ran row code) e = refl
change_safe (fact.Void row) e = refl
change_safe (fact.Disposed owner) e = refl
change_safe (fact.Edit pass index) e = absurd (true≢false (sym e))

pump_safe : (f : Fact) → is_of_pump f ≡ true → is_edit_by 1 f ≡ false
pump_safe (fact.Write row code) e = refl
pump_safe (fact.Change row code) e = refl
pump_safe (fact.Ran row code) e = refl
pump_safe (fact.Void row) e = refl
pump_safe (fact.Disposed owner) e = refl
pump_safe (fact.Edit pass index) e = absurd (true≢false (sym e))

disposal_safe : (f : Fact) → is_disposal f ≡ true → is_edit_by 1 f ≡ false
disposal_safe (fact.Write row code) e = refl
disposal_safe (fact.Change row code) e = refl
disposal_safe (fact.Ran row code) e = refl
disposal_safe (fact.Void row) e = refl
disposal_safe (fact.Disposed owner) e = refl
disposal_safe (fact.Edit pass index) e = absurd (true≢false (sym e))

stop_notes : (s : Start) (g h : Going) (block : List Noted) (most owner : ℕ) (why : Stop) → Stops s g block h most owner why → edit_numbers 1 block ≡ []
stop_notes s g h block most owner (stop.Disposed n) q = ap (edit_numbers 1) q.2.0
stop_notes s g h block most owner (stop.Full n) q = none_among is_change change_safe block q.1.changes

-- ---- calls

-- the number of the edit that was accepted
abbrev pub number_of : Call → Option ℕ
number_of (set row code answer) = None
number_of (get row answer) = None
number_of (pump y) = None
number_of (dispose owner y) = None
number_of (edit owner asked (Ok n)) = Some n
number_of (edit owner asked (Err why)) = None

-- the edit that was accepted
abbrev pub edit_made : Call → Option Edit
edit_made (set row code answer) = None
edit_made (get row answer) = None
edit_made (pump y) = None
edit_made (dispose owner y) = None
edit_made (edit owner asked (Ok n)) = Some asked
edit_made (edit owner asked (Err why)) = None

pub noted_of : (s : Start) (g h : Going) (block : List Noted) (call : Call) → Calls s g block h 1 call → edit_numbers 1 block ≡ cons_option (number_of call) []
noted_of s g h block (set row code (Ok n)) c = ap (edit_numbers 1) c.1.1.block_is
noted_of s g h block (set row code (Err why)) c = ap (edit_numbers 1) c.1.1
noted_of s g h block (get row (Ok a)) c = none_among is_change change_safe block c.1.changes
noted_of s g h block (get row (Err why)) c = stop_notes s g h block (derived_of s) c.1.0 why c.1.2
noted_of s g h block (pump y) c = none_among is_of_pump pump_safe block c.1.of_pump
noted_of s g h block (dispose owner y) c = none_among is_disposal disposal_safe block c.1.disposals
noted_of s g h block (edit owner asked (Ok n)) c = ap (edit_numbers 1) c.1.1.block_is
noted_of s g h block (edit owner asked (Err why)) c = ap (edit_numbers 1) c.1.1

-- the edits of the first pass behind a call
abbrev pub edits_after : Call → List (List Edit) → List (List Edit)
edits_after (set row code answer) lists = lists
edits_after (get row answer) lists = lists
edits_after (pump y) lists = lists
edits_after (dispose owner y) lists = lists
edits_after (edit owner asked answer) lists = edits_with lists 1 asked answer

the_same : (l : List Edit) → l ∷ [] ≡ (l ++ []) ∷ []
the_same l = ap (λ (t : List Edit). t ∷ []) (sym (append-nil l))

after_one : (call : Call) (l : List Edit) → edits_after call (l ∷ []) ≡ (l ++ cons_option (edit_made call) []) ∷ []
after_one (set row code answer) l = the_same l
after_one (get row answer) l = the_same l
after_one (pump y) l = the_same l
after_one (dispose owner y) l = the_same l
after_one (edit owner asked (Ok n)) l = refl
after_one (edit owner asked (Err why)) l = the_same l

-- ---- what is answered

stopped_none : (why : Stop) → edit_number (stopped why) ≡ None
stopped_none (stop.Disposed n) = refl
stopped_none (stop.Full n) = refl

set_none : (answer : Result ℕ Stop) → edit_number (set_reply answer) ≡ None
set_none (Ok n) = refl
set_none (Err why) = stopped_none why

get_none : (answer : Result (Code × ℕ) Stop) → edit_number (get_reply answer) ≡ None
get_none (Ok a) = refl
get_none (Err why) = stopped_none why

pub spoken : (o : Opened) (call : Call) (x : ScriptOp) (r : Reply) → Speaks o call x r → edit_number r ≡ number_of call
spoken o (set row code answer) x r said = ap edit_number said.2 ∙ set_none answer
spoken o (get row answer) x r said = ap edit_number said.1 ∙ get_none answer
spoken o (pump y) x r said = ap edit_number said.1
spoken o (dispose owner y) x r said = ap edit_number said.1
spoken o (edit owner asked (Ok n)) x r said = ap edit_number said.2.1
spoken o (edit owner asked (Err why)) x r said = ap edit_number said.2 ∙ stopped_none why

unasked : (o : Opened) (call : Call) (x : ScriptOp) (r : Reply) → Speaks o call x r → number_of call ≡ None → accepted x (edit_number r) ≡ None
unasked o call x r said none = ap (accepted x) (spoken o call x r said ∙ none)

pub spoken_edit : (o : Opened) (call : Call) (x : ScriptOp) (r : Reply) → Speaks o call x r → accepted x (edit_number r) ≡ edit_made call
spoken_edit o (set row code answer) x r said = unasked o (set row code answer) x r said refl
spoken_edit o (get row answer) x r said = unasked o (get row answer) x r said refl
spoken_edit o (pump y) x r said = unasked o (pump y) x r said refl
spoken_edit o (dispose owner y) x r said = unasked o (dispose owner y) x r said refl
spoken_edit o (edit owner asked (Ok n)) x r said = ap (λ (y : ScriptOp). accepted y (edit_number r)) said.0 ∙ ap (accepted (op.Change asked)) (spoken o (edit owner asked (Ok n)) x r said)
spoken_edit o (edit owner asked (Err why)) x r said = unasked o (edit owner asked (Err why)) x r said refl

pub quiet_number : (o : Opened) (x : ScriptOp) (r : Reply) → IsQuietly o x r → edit_number r ≡ None
quiet_number o x (reply.Set n) q = refl
quiet_number o x (reply.Got v n) q = refl
quiet_number o x (reply.Pumped y) q = refl
quiet_number o x (reply.Disposal y) q = refl
quiet_number o x (reply.Edited n v) q = absurd q
quiet_number o x reply.NoRow q = refl
quiet_number o x (reply.Busy n) q = refl
quiet_number o x (reply.Again n) q = refl
quiet_number o x (reply.Disposed n) q = refl
quiet_number o x (reply.Full n) q = refl

-- ---- a lane with one more

edits_last : (lane : List Done) (d : Done) → edits_in (lane ++ d ∷ []) ≡ edits_in lane ++ cons_option (accepted d.op (edit_number d.reply)) []
edits_last lane d = filter_map-append (λ (e : Done). accepted e.op (edit_number e.reply)) lane (d ∷ [])

told_last : (lane : List Done) (d : Done) → edits_told (lane ++ d ∷ []) ≡ edits_told lane ++ cons_option (edit_number d.reply) []
told_last lane d = filter_map-append (λ (e : Done). edit_number e.reply) lane (d ∷ [])

numbers_behind : (es block : List Noted) → edit_numbers 1 (es ++ block) ≡ edit_numbers 1 es ++ edit_numbers 1 block
numbers_behind es block = filter_map-append (λ (e : Noted). cond (is_edit_by 1 e.fact) (Some e.number) None) es block

pub edits_rest : (o : Opened) (lane : List Done) (d : Done) → IsQuietly o d.op d.reply → edits_in (lane ++ d ∷ []) ≡ edits_in lane
edits_rest o lane d q = edits_last lane d ∙ ap (λ (n : Option ℕ). edits_in lane ++ cons_option (accepted d.op n) []) (quiet_number o d.op d.reply q) ∙ append-nil (edits_in lane)

pub told_rest : (o : Opened) (lane : List Done) (d : Done) → IsQuietly o d.op d.reply → edits_told (lane ++ d ∷ []) ≡ edits_told lane
told_rest o lane d q = told_last lane d ∙ ap (λ (n : Option ℕ). edits_told lane ++ cons_option n []) (quiet_number o d.op d.reply q) ∙ append-nil (edits_told lane)

pub edits_spoke : (o : Opened) (lane : List Done) (call : Call) (d : Done) (old new : List (List Edit)) → Speaks o call d.op d.reply → new ≡ edits_after call old → old ≡ edits_in lane ∷ [] → new ≡ edits_in (lane ++ d ∷ []) ∷ []
edits_spoke o lane call d old new said is were =
    is ∙ ap (edits_after call) were ∙ after_one call (edits_in lane)
    ∙ ap (λ (t : List Edit). t ∷ []) (ap (λ (e : Option Edit). edits_in lane ++ cons_option e []) (sym (spoken_edit o call d.op d.reply said)) ∙ sym (edits_last lane d))

pub told_spoke : (s : Start) (o : Opened) (lane : List Done) (call : Call) (d : Done) (g h : Going) (block : List Noted) → Speaks o call d.op d.reply → Calls s g block h 1 call → edits_told lane ≡ edit_numbers 1 g.entries → edits_told (lane ++ d ∷ []) ≡ edit_numbers 1 h.entries
told_spoke s o lane call d g h block said calls were =
    told_last lane d
    ∙ (λ i. were i ++ cons_option (spoken o call d.op d.reply said i) [])
    ∙ ap (λ (t : List ℕ). edit_numbers 1 g.entries ++ t) (sym (noted_of s g h block call calls))
    ∙ sym (numbers_behind g.entries block)
    ∙ ap (edit_numbers 1) (sym calls.0.entries)

-- ---- how many there are

number_late : (f : Fact) (n : ℕ) → (65536 < n → is_disposal f ≡ true) → is_edit_by 1 f ≡ true → n ≤ 65536
number_late f n late is = ⊎_elim (λ (l : 65536 < n). absurd (true≢false (sym is ∙ disposal_safe f (late l)))) (λ (l : n ≤ 65536). l) (cases_lt 65536 n)

-- edits are noted under numbers up to the last
pub few_edits : (low : ℕ) (es : List Noted) (high : ℕ) → Numbered low es high → edits_by 1 es ≤ 65536 - low
few_edits low [] high q = omega arith
few_edits low (e ∷ es) high q = subst (λ (n : ℕ). n ≤ 65536 - low) (sym (count_cons (λ (f : Noted). is_edit_by 1 f.fact) e es)) (by (is_edit_by 1 e.fact) refl (few_edits e.number es high q.3))
  where
    by : (b : Bool) → is_edit_by 1 e.fact ≡ b → edits_by 1 es ≤ 65536 - e.number → cond b 1 0 + edits_by 1 es ≤ 65536 - low
    by true is more = let late = number_late e.fact e.number q.2 is in let above = q.0 in omega arith
    by false is more = let above = q.0 in omega arith

abbrev no_edit : List Edit
no_edit = []

one_counts : (x : ScriptOp) (n : Option ℕ) → length (cons_option (accepted x n) no_edit) ≤ cond (is_edit x) 1 0
one_counts (op.Set id key code) None = omega arith
one_counts (op.Set id key code) (Some n) = omega arith
one_counts (op.Get id key) None = omega arith
one_counts (op.Get id key) (Some n) = omega arith
one_counts op.Pump None = omega arith
one_counts op.Pump (Some n) = omega arith
one_counts (op.Dispose owner) None = omega arith
one_counts (op.Dispose owner) (Some n) = omega arith
one_counts (op.Change asked) None = omega arith
one_counts (op.Change asked) (Some n) = omega arith

longer : (e : Option Edit) (es : List Edit) → length (cons_option e es) ≡ length (cons_option e no_edit) + length es
longer None es = omega arith
longer (Some e) es = omega arith

-- a lane has accepted no more edits than it was asked for
pub accepted_few : (lane : List Done) → length (edits_in lane) ≤ count_by is_edit (map (λ d. d.op) lane)
accepted_few [] = omega arith
accepted_few (d ∷ lane) =
    let rest = accepted_few lane in
    let one = one_counts d.op (edit_number d.reply) in
    let long = longer (accepted d.op (edit_number d.reply)) (edits_in lane) in
    let count = count_cons is_edit d.op (map (λ (e : Done). e.op) lane) in
    omega arith

-- ---- a lane that is told what came of its edits has the same edits

number_told : (v : ℕ → Verdict) (r : Reply) → edit_number (told_reply v r) ≡ edit_number r
number_told v (reply.Set n) = refl
number_told v (reply.Got c n) = refl
number_told v (reply.Pumped y) = refl
number_told v (reply.Disposal y) = refl
number_told v (reply.Edited n w) = refl
number_told v reply.NoRow = refl
number_told v (reply.Busy n) = refl
number_told v (reply.Again n) = refl
number_told v (reply.Disposed n) = refl
number_told v (reply.Full n) = refl

pub same_edits : (v : ℕ → Verdict) (lane : List Done) → edits_in (told_lane v lane) ≡ edits_in lane
same_edits v [] = refl
same_edits v (d ∷ lane) = λ i. cons_option (accepted d.op (number_told v d.reply i)) (same_edits v lane i)

get_told : (v : ℕ → Verdict) (lanes : List (List Done)) (n index : ℕ) → option_and_then (λ lane. slice_get (edits_in lane) index) (slice_get (map (told_lane v) lanes) n) ≡ option_and_then (λ lane. slice_get (edits_in lane) index) (slice_get lanes n)
get_told v [] n index = refl
get_told v (lane ∷ lanes) zero index = ap (λ (es : List Edit). slice_get es index) (same_edits v lane)
get_told v (lane ∷ lanes) (suc n) index = get_told v lanes n index

edit_at_told : (v : ℕ → Verdict) (lanes : List (List Done)) (pass index : ℕ) → edit_at (map (told_lane v) lanes) pass index ≡ edit_at lanes pass index
edit_at_told v lanes zero index = refl
edit_at_told v lanes (suc n) index = get_told v lanes n index

named_told : (v : ℕ → Verdict) (lanes : List (List Done)) (f : Fact) (n : ℕ) → named_edit (map (told_lane v) lanes) f n ≡ named_edit lanes f n
named_told v lanes (fact.Write row c) n = refl
named_told v lanes (fact.Change row c) n = refl
named_told v lanes (fact.Ran row c) n = refl
named_told v lanes (fact.Void row) n = refl
named_told v lanes (fact.Disposed owner) n = refl
named_told v lanes (fact.Edit pass index) n = ap (option_map (ordered n)) (edit_at_told v lanes pass index)

-- those of a phase are the same
pub same_edits_of : (v : ℕ → Verdict) (lanes : List (List Done)) (es : List Noted) → edits_of (map (told_lane v) lanes) es ≡ edits_of lanes es
same_edits_of v lanes [] = refl
same_edits_of v lanes (e ∷ es) = λ i. cons_option (named_told v lanes e.fact e.number i) (same_edits_of v lanes es i)
