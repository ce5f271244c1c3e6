-- The order of work on one node.
use Rattle.std.specs.Prelude.{ℕ, ◌+◌, ◌==◌, Bool, true, false, if◌then◌else◌, nat_lt, Option, Some, None, List, length, slice_get}
use Rattle.values.specs.declared.tried.Tried.{Tried}
use Rattle.values.specs.declared.tried.Tried.TheVariants.{Done, Needs}
use Rattle.sources.specs.declared.colour.Colour.{Colour}
use Rattle.sources.specs.declared.colour.Colour.TheVariants.{Clean, Check, Dirty}
use Rattle.sources.specs.declared.body.Cause.{Cause}
use Rattle.sources.specs.declared.body.Read.{Read}
use Rattle.work_order.specs.declared.frame.Due.{Due}
use Rattle.work_order.specs.declared.frame.Due.TheVariants.{Not, First, Differs}
use Rattle.work_order.specs.declared.frame.Frame.{Frame}
use Rattle.work_order.specs.declared.order.Next.{Next}
use Rattle.work_order.specs.declared.order.Next.TheVariants as next

-- a run is due from the first where the node never ran
abbrev pub first_due : Option Cause → Due
first_due None = First
first_due (Some cause) = Not

-- the frame of a node that is taken up
abbrev pub first_frame : ℕ → Option Cause → Frame
first_frame node cause = record { node = node; at = 0; due = first_due cause; cleared = false }

-- a check begins with the first recorded source; a run keeps the place of the source that differs
abbrev pub cleared_at : Due → ℕ → ℕ
cleared_at Not at = 0
cleared_at First at = at
cleared_at Differs at = at

abbrev pub cleared_frame : Frame → Frame
cleared_frame f = record f { at = cleared_at f.due f.at; cleared = true }

-- the recorded source at the frame's place was seen to have a version
abbrev pub compared_frame : Frame → ℕ → ℕ → Frame
compared_frame f recorded now = if recorded == now then record f { at = f.at + 1 } else record f { due = Differs }

-- a run is due
abbrev pub is_due : Due → Bool
is_due Not = false
is_due First = true
is_due Differs = true

-- the frame is of a run
abbrev pub is_run : Frame → Bool
is_run f = if f.cleared then is_due f.due else false

-- a dirty node's recorded sources are compared first, in order
abbrev pub dirty_of : Due → List Read → ℕ → Next
dirty_of Not recorded at = if nat_lt at (length recorded) then next.Compare at else next.Clear
dirty_of First recorded at = next.Clear
dirty_of Differs recorded at = next.Clear

-- before it is cleared
abbrev pub begun_of : Colour → Due → List Read → ℕ → Next
begun_of Clean due recorded at = next.Answer
begun_of Check due recorded at = next.Clear
begun_of Dirty due recorded at = dirty_of due recorded at

-- a check goes on with the first recorded source that is not yet brought up to date
abbrev pub check_or_keep : Option Read → Next
check_or_keep (Some x) = next.Check x.row
check_or_keep None = next.Keep

abbrev pub checked_of : List Read → ℕ → Next
checked_of recorded at = check_or_keep (slice_get recorded at)

-- a run goes on with the first row that it has not read
abbrev pub run_of : Tried → Next
run_of (Needs row) = next.Read row
run_of (Done code) = next.Finish code

-- once it is cleared
abbrev pub going_of : Due → Tried → List Read → ℕ → Next
going_of Not tried recorded at = checked_of recorded at
going_of First tried recorded at = run_of tried
going_of Differs tried recorded at = run_of tried

-- What is done next: `tried` is what evaluation over what was read comes to, `recorded` the reads of the run before.
abbrev pub next_of : Tried → Colour → List Read → Frame → Next
next_of tried colour recorded f = if f.cleared
    then going_of f.due tried recorded f.at
    else begun_of colour f.due recorded f.at
