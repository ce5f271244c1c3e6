-- What a lane did: its operations, each with its reply.
use Rattle.std.specs.Prelude.{ℕ, suc, ◌==◌, if◌then◌else◌, Option, Some, None, List, [], ◌∷◌, ◌++◌, filter_map}
use Rattle.std.specs.Option.{option_and_then}
use Rattle.values.specs.declared.code.Code.{Code}
use Rattle.values.specs.declared.plan.Disposal.{Disposal}
use Rattle.values.specs.declared.plan.Pumped.{Pumped}
use Rattle.store_fields.specs.declared.edit.Edit.{Edit}
use Rattle.script_items.specs.declared.operation.ScriptOp.{ScriptOp}
use Rattle.script_items.specs.declared.operation.ScriptOp.TheVariants as op
use Rattle.run_items.specs.declared.answer.Reply.{Reply}
use Rattle.run_items.specs.declared.answer.Reply.TheVariants as reply
use Rattle.run_meaning.specs.Words.{greatest, least}
use Rattle.run_meaning.specs.Opened.{Opened, Target, row_in}

pub record Done : Type 0 where
  pub op : ScriptOp
  pub reply : Reply

-- K holds of each of these operations: of what stands before it in the lane, itself, and what stands behind it
abbrev pub EachFrom : (List Done → Done → List Done → Type 0) → List Done → List Done → Type 0
EachFrom K before [] = Unit {0}
EachFrom K before (d ∷ later) = K before d later × EachFrom K (before ++ d ∷ []) later

-- the same of each lane, with its pass
abbrev pub EachLane : (ℕ → List Done → Done → List Done → Type 0) → ℕ → List (List Done) → Type 0
EachLane K pass [] = Unit {0}
EachLane K pass (lane ∷ lanes) = EachFrom (K pass) [] lane × EachLane K (suc pass) lanes

-- the same of all lanes; passes count from 1
abbrev pub Everywhere : (ℕ → List Done → Done → List Done → Type 0) → List (List Done) → Type 0
Everywhere K lanes = EachLane K 1 lanes

-- ---- what an operation asks

-- the row that a set names
abbrev pub set_row : Opened → ScriptOp → Option ℕ
set_row o (op.Set id key code) = row_in (o.target id key)
set_row o (op.Get id key) = None
set_row o op.Pump = None
set_row o (op.Dispose owner) = None
set_row o (op.Change edit) = None

-- the value that it writes
abbrev pub code_in : ScriptOp → Option Code
code_in (op.Set id key code) = Some code
code_in (op.Get id key) = None
code_in op.Pump = None
code_in (op.Dispose owner) = None
code_in (op.Change edit) = None

-- the row that a get names
abbrev pub get_row : Opened → ScriptOp → Option ℕ
get_row o (op.Set id key code) = None
get_row o (op.Get id key) = row_in (o.target id key)
get_row o op.Pump = None
get_row o (op.Dispose owner) = None
get_row o (op.Change edit) = None

-- what a set or a get names
abbrev pub target_of : Opened → ScriptOp → Option Target
target_of o (op.Set id key code) = Some (o.target id key)
target_of o (op.Get id key) = Some (o.target id key)
target_of o op.Pump = None
target_of o (op.Dispose owner) = None
target_of o (op.Change edit) = None

-- the owner of what a set, a get or an edit names
abbrev pub named_owner : Opened → ScriptOp → Option ℕ
named_owner o (op.Set id key code) = Some (o.owner_of id)
named_owner o (op.Get id key) = Some (o.owner_of id)
named_owner o op.Pump = None
named_owner o (op.Dispose owner) = None
named_owner o (op.Change edit) = Some (o.owner_of edit.store)

-- the area that it disposes, by its owner
abbrev pub area_in : ScriptOp → Option ℕ
area_in (op.Set id key code) = None
area_in (op.Get id key) = None
area_in op.Pump = None
area_in (op.Dispose owner) = Some owner
area_in (op.Change edit) = None

abbrev pub edit_in : ScriptOp → Option Edit
edit_in (op.Set id key code) = None
edit_in (op.Get id key) = None
edit_in op.Pump = None
edit_in (op.Dispose owner) = None
edit_in (op.Change edit) = Some edit

-- ---- what a reply says

abbrev pub set_number : Reply → Option ℕ
set_number (reply.Set n) = Some n
set_number (reply.Got v n) = None
set_number (reply.Pumped x) = None
set_number (reply.Disposal x) = None
set_number (reply.Edited n v) = None
set_number reply.NoRow = None
set_number (reply.Busy n) = None
set_number (reply.Again n) = None
set_number (reply.Disposed n) = None
set_number (reply.Full n) = None

abbrev pub edit_number : Reply → Option ℕ
edit_number (reply.Set n) = None
edit_number (reply.Got v n) = None
edit_number (reply.Pumped x) = None
edit_number (reply.Disposal x) = None
edit_number (reply.Edited n v) = Some n
edit_number reply.NoRow = None
edit_number (reply.Busy n) = None
edit_number (reply.Again n) = None
edit_number (reply.Disposed n) = None
edit_number (reply.Full n) = None

-- the number of an accepted set or edit
abbrev pub number_in : Reply → Option ℕ
number_in (reply.Set n) = Some n
number_in (reply.Got v n) = None
number_in (reply.Pumped x) = None
number_in (reply.Disposal x) = None
number_in (reply.Edited n v) = Some n
number_in reply.NoRow = None
number_in (reply.Busy n) = None
number_in (reply.Again n) = None
number_in (reply.Disposed n) = None
number_in (reply.Full n) = None

abbrev pub disposal_in : Reply → Option Disposal
disposal_in (reply.Set n) = None
disposal_in (reply.Got v n) = None
disposal_in (reply.Pumped x) = None
disposal_in (reply.Disposal x) = Some x
disposal_in (reply.Edited n v) = None
disposal_in reply.NoRow = None
disposal_in (reply.Busy n) = None
disposal_in (reply.Again n) = None
disposal_in (reply.Disposed n) = None
disposal_in (reply.Full n) = None

abbrev pub pumped_in : Reply → Option Pumped
pumped_in (reply.Set n) = None
pumped_in (reply.Got v n) = None
pumped_in (reply.Pumped x) = Some x
pumped_in (reply.Disposal x) = None
pumped_in (reply.Edited n v) = None
pumped_in reply.NoRow = None
pumped_in (reply.Busy n) = None
pumped_in (reply.Again n) = None
pumped_in (reply.Disposed n) = None
pumped_in (reply.Full n) = None

-- ---- the numbers of a lane

-- of its accepted sets and edits, in order
abbrev pub numbers : List Done → List ℕ
numbers lane = filter_map (λ d. number_in d.reply) lane

-- its accepted edits, in order: the pass's list of edits
abbrev pub accepted : ScriptOp → Option ℕ → Option Edit
accepted x number = option_and_then (λ n. edit_in x) number

abbrev pub edits_in : List Done → List Edit
edits_in lane = filter_map (λ d. accepted d.op (edit_number d.reply)) lane

-- the number, if it is that of a set of this row
abbrev pub if_of : ℕ → Option ℕ → Option ℕ → Option ℕ
if_of n None number = None
if_of n (Some m) number = if n == m then number else None

-- of its accepted sets of a row
abbrev pub sets_of : Opened → ℕ → List Done → List ℕ
sets_of o n lane = filter_map (λ d. if_of n (set_row o d.op) (set_number d.reply)) lane

-- ---- the bounds between which a lane is told values

-- the own bound: the greatest number of an accepted set of each row among what the lane did before, 0 if there is none
abbrev pub own : Opened → List Done → ℕ → ℕ
own o before n = greatest (sets_of o n before)

-- the next bound: the least number of an accepted set or edit among what the lane does later; None is no bound
abbrev pub next : List Done → Option ℕ
next later = least (numbers later)
