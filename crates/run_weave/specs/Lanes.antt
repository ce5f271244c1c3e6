-- Operations of lanes, of which some make a call of the graph and some none.
use Rattle.std.specs.Prelude.{◌≡◌, ℕ, max, Result, Ok, Err, Option, Some, unwrap_or, List, [], ◌∷◌, length, map, replicate}
use Rattle.values.specs.declared.code.Code.{Code}
use Rattle.values.specs.declared.plan.Stop.{Stop}
use Rattle.values.specs.declared.plan.Stop.TheVariants as stop
use Rattle.store_fields.specs.declared.edit.Verdict.{Verdict}
use Rattle.store_fields.specs.declared.edit.Verdict.TheVariants.{Absent}
use Rattle.script_items.specs.declared.operation.ScriptOp.{ScriptOp}
use Rattle.script_items.specs.declared.operation.ScriptOp.TheVariants as op
use Rattle.script_items.specs.Script.{numbered}
use Rattle.run_items.specs.declared.answer.Reply.{Reply}
use Rattle.run_items.specs.declared.answer.Reply.TheVariants as reply
use Rattle.run_meaning.specs.Words.{In}
use Rattle.run_meaning.specs.Opened.{Opened, at_row, at_none, dead_of}
use Rattle.run_meaning.specs.Lane.{Done, set_row, code_in, get_row, target_of}
use Rattle.run_meaning.specs.Edits.{held_written, verdict_in, edits_of}
use Rattle.run_meaning.specs.Phase.{Phase}
use Rattle.run_meaning.specs.Causes.{IsOwned}
use Rattle.run_history.specs.Going.{start_of, Going, just_opened, IsOwnedBy}
use Rattle.run_history.specs.Calls.{Call, set, get, pump, dispose, edit, MadeCall, CallsLead, calls_by}
use Rattle.run_history.specs.History.{PastFits}

-- ---- operations that make no call

-- What it names is not there, or was dead when the phase opened; so it is answered at once.
abbrev pub IsQuietly : Opened → ScriptOp → Reply → Type 0
IsQuietly o x (reply.Set n) = ⊥
IsQuietly o x (reply.Got v n) = ⊥
IsQuietly o x (reply.Pumped y) = ⊥
IsQuietly o x (reply.Disposal y) = ⊥
IsQuietly o x (reply.Edited n v) = ⊥
IsQuietly o x reply.NoRow = target_of o x ≡ Some at_none
IsQuietly o x (reply.Busy n) = ⊥
IsQuietly o x (reply.Again n) = ⊥
IsQuietly o x (reply.Disposed n) = IsOwned o x n × In n (dead_of o) × (target_of o x ≡ Some at_none → ⊥)
IsQuietly o x (reply.Full n) = ⊥

-- ---- operations that make one

abbrev pub stopped : Stop → Reply
stopped (stop.Disposed n) = reply.Disposed n
stopped (stop.Full n) = reply.Full n

abbrev pub set_reply : Result ℕ Stop → Reply
set_reply (Ok n) = reply.Set n
set_reply (Err why) = stopped why

abbrev pub get_reply : Result (Code × ℕ) Stop → Reply
get_reply (Ok a) = reply.Got a.0 a.1
get_reply (Err why) = stopped why

-- what comes of an accepted edit is not known yet
abbrev pub IsEditReply : Result ℕ Stop → Reply → Type 0
IsEditReply (Ok n) r = (v : Verdict) × (r ≡ reply.Edited n v)
IsEditReply (Err why) r = r ≡ stopped why

-- the operation makes this call, and is answered as the call is
abbrev pub Speaks : Opened → Call → ScriptOp → Reply → Type 0
Speaks o (set row code answer) x r = (set_row o x ≡ Some row) × (code_in x ≡ Some code) × (r ≡ set_reply answer)
Speaks o (get row answer) x r = (get_row o x ≡ Some row) × (r ≡ get_reply answer)
Speaks o (pump y) x r = (x ≡ op.Pump) × (r ≡ reply.Pumped y)
Speaks o (dispose owner y) x r = (x ≡ op.Dispose owner) × (r ≡ reply.Disposal y)
Speaks o (edit owner asked answer) x r = (x ≡ op.Change asked) × (owner ≡ o.owner_of asked.store) × IsEditReply answer r

-- ---- lanes

-- the operations of a lane make these calls, in their order, and no others
pub data LaneSpeaks (o : Opened) : List Call → List Done → Type 0 where
  ended : LaneSpeaks o [] []
  rests : {calls : List Call} {lane : List Done} (d : Done) → IsQuietly o d.op d.reply → LaneSpeaks o calls lane → LaneSpeaks o calls (d ∷ lane)
  speaks : {calls : List Call} {lane : List Done} (call : Call) (d : Done) → Speaks o call d.op d.reply → LaneSpeaks o calls lane → LaneSpeaks o (call ∷ calls) (d ∷ lane)

-- the lane of a pass; passes count from 1, and others have none
abbrev pub lane_of : List (List Done) → ℕ → List Done
lane_of lanes pass = unwrap_or (numbered lanes pass) []

abbrev pub LanesSpeak : Opened → List MadeCall → List (List Done) → Type 0
LanesSpeak o calls lanes = (pass : ℕ) → LaneSpeaks o (calls_by pass calls) (lane_of lanes pass)

-- a row that an id stands for is of the owner of the id
pub record TargetsFit (o : Opened) : Type 0 where
  pub owned : (past : List Phase) (id : ℕ) (key : Option Code) (row : ℕ) → o.target id key ≡ at_row row → IsOwnedBy (start_of past o) row (o.owner_of id)

-- the phase that these lanes made, where it opened at this count of ticks
abbrev pub phase_with : Opened → ℕ → List (List Done) → Going → Phase
phase_with o base lanes k = record { opened = o; lanes = lanes; drawn = k.drawn; base = base; entries = k.entries; counts = replicate (max 1 (length lanes)) (record { meets = 0; remarks = 0 }) }

-- what holds of each phase whose calls were made one after another
abbrev pub OfCalls : (List Phase → Phase → Type 0) → Type 0
OfCalls P = (past : List Phase) (o : Opened) (base : ℕ) (calls : List MadeCall) (k : Going) (lanes : List (List Done))
    → CallsLead (start_of past o) just_opened calls k → LanesSpeak o calls lanes → PastFits past o → TargetsFit o → P past (phase_with o base lanes k)

-- ---- what comes of edits, which is known when the phase is settled

abbrev pub told_reply : (ℕ → Verdict) → Reply → Reply
told_reply verdicts (reply.Set n) = reply.Set n
told_reply verdicts (reply.Got v n) = reply.Got v n
told_reply verdicts (reply.Pumped y) = reply.Pumped y
told_reply verdicts (reply.Disposal y) = reply.Disposal y
told_reply verdicts (reply.Edited n v) = reply.Edited n (verdicts n)
told_reply verdicts reply.NoRow = reply.NoRow
told_reply verdicts (reply.Busy n) = reply.Busy n
told_reply verdicts (reply.Again n) = reply.Again n
told_reply verdicts (reply.Disposed n) = reply.Disposed n
told_reply verdicts (reply.Full n) = reply.Full n

abbrev pub told_done : (ℕ → Verdict) → Done → Done
told_done verdicts d = record { op = d.op; reply = told_reply verdicts d.reply }

abbrev pub told_lane : (ℕ → Verdict) → List Done → List Done
told_lane verdicts lane = map (told_done verdicts) lane

-- what comes of the edit with this number
abbrev pub verdict_of : Phase → ℕ → Verdict
verdict_of p n = unwrap_or (verdict_in (edits_of p.lanes p.entries) (held_written p.opened p.entries) n) Absent

-- the phase with each edit told what comes of it
abbrev pub told : Phase → Phase
told p = record p { lanes = map (told_lane (verdict_of p)) p.lanes }
