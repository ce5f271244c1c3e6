-- The stack of frames, what is left to do on it, and what a call on the rows keeps.
use Rattle.std.specs.Prelude.{◌≡◌, ℕ, ◌+◌, ◌*◌, ◌<◌, ◌≤◌, true, false, if◌then◌else◌, List, [], ◌∷◌, slice_get, length, Option, Some, None}
use Rattle.values.specs.declared.plan.Kind.TheVariants.{Effect}
use Rattle.values.specs.declared.plan.PlanNode.{PlanNode}
use Rattle.values.specs.PlanValues.{plan_value}
use Rattle.sources.specs.declared.body.Read.{Read}
use Rattle.sources.specs.declared.opening.Opened.{Opened}
use Rattle.sources.specs.Colours.{is_clean}
use Rattle.sources.specs.Rows.{IsGood, IsDated, IsRoomy, value_in}
use Rattle.work_order.specs.declared.frame.Frame.{Frame}
use Rattle.still_readers.specs.declared.readers.Readers.{Readers}
use Rattle.still_readers.specs.Readers.{IsReadersOf, IsEnrolled, HasRead}
use Rattle.still_rows.specs.declared.bring.Ended.{Ended}
use Rattle.still_rows.specs.declared.bring.Ended.TheVariants as ends
use Rattle.still_rows.specs.declared.calls.Work.{Work}
use Rattle.still_rows.specs.declared.clock.Clock.{Clock}
use Rattle.still_readers.specs.Marking.{IsMarkingOf}
use Rattle.still_rows.specs.Clock.{IsClock, now_of}
use Rattle.still_rows.specs.Shown.{HasRoom}
use Rattle.still_rows.specs.Frames.{AreLawful, IsFrame, IsMemo}
use Rattle.still_rows.specs.Moves.{room, work_left, IsBelow, IsKept, IsRun}
use Rattle.still_rows.specs.Since.{IsSince}

-- frames of rising memos under one of this node, up to that of the root
abbrev pub IsUnder : List PlanNode → List Opened → ℕ → ℕ → List Frame → Type 0
IsUnder nodes rows root bound [] = bound ≡ root
IsUnder nodes rows root bound (g ∷ gs) = (bound < g.node) × IsFrame nodes rows g × IsMemo nodes g.node × IsUnder nodes rows root g.node gs

abbrev pub IsStack : List PlanNode → List Opened → ℕ → List Frame → Type 0
IsStack nodes rows root [] = (y : Opened) → slice_get rows root ≡ Some y → is_clean y.colour ≡ true
IsStack nodes rows root (f ∷ fs) = IsFrame nodes rows f × IsMemo nodes f.node × IsUnder nodes rows root f.node fs

-- the frames of the stack, and the top where it is kept beside them
abbrev pub with_top : Option Frame → List Frame → List Frame
with_top None fs = fs
with_top (Some f) fs = f ∷ fs

-- as many rows are not clean
unfoldable pub unclean_count : List Opened → ℕ
unclean_count [] = 0
unclean_count (r ∷ rs) = (if is_clean r.colour then 0 else 1) + unclean_count rs

-- a memo is not clean
pub record HasUncleanMemo (nodes : List PlanNode) (rows : List Opened) : Type 0 where
  pub row : ℕ
  pub memo : IsMemo nodes row
  pub opened : Opened
  pub at : slice_get rows row ≡ Some opened
  pub unclean : is_clean opened.colour ≡ false

-- more than the work of one frame
abbrev pub width : List PlanNode → ℕ
width nodes = 3 * room nodes + 5

abbrev pub work_of : Option Opened → Frame → ℕ
work_of None f = 0
work_of (Some row) f = work_left row f

abbrev pub top_work : List PlanNode → List Opened → List Frame → ℕ
top_work nodes rows [] = 0
top_work nodes rows (f ∷ fs) = 1 + f.node * width nodes + work_of (slice_get rows f.node) f

-- what is left to do: rows to bring up to date, and what is left on the top
unfoldable pub total : List PlanNode → List Opened → List Frame → ℕ
total nodes rows frames = unclean_count rows * (1 + length nodes * width nodes) + top_work nodes rows frames

-- what holds of the rows of a plan, with their readers and the clock, before and after each call
pub record IsStill (nodes : List PlanNode) (rows : List Opened) (readers : Readers) (clock : Clock) : Type 0 where
  pub lawful : AreLawful nodes
  pub good : IsGood nodes rows
  pub dated : IsDated rows (now_of clock)
  pub roomy : IsRoomy nodes rows
  pub of_plan : IsReadersOf nodes readers
  pub enrolled : IsEnrolled nodes rows readers
  pub ticks : IsClock clock

-- what a call leaves: the rows hold as before, with the values of plan evaluation; effects are as they were, who had read a row has read it, and each number was drawn for a row that is clean now
pub record IsStepped (nodes : List PlanNode) (rows rows' : List Opened) (readers readers' : Readers) (before after : Clock) : Type 0 where
  pub still : IsStill nodes rows' readers' after
  pub since : IsSince rows rows' before after
  pub values : plan_value nodes (value_in rows') ≡ plan_value nodes (value_in rows)
  pub effects : (i : ℕ) (node : PlanNode) → slice_get nodes i ≡ Some node → node.kind ≡ Effect → slice_get rows' i ≡ slice_get rows i
  pub have_read : (m row : ℕ) → HasRead readers m row → HasRead readers' m row
  pub spent : after.drawn + unclean_count rows' ≤ before.drawn + unclean_count rows

-- rows past this one are as they were
abbrev pub StayPast : ℕ → List Opened → List Opened → Type 0
StayPast node rows rows' = (i : ℕ) → node < i → slice_get rows' i ≡ slice_get rows i

pub record IsOnward (nodes : List PlanNode) (rows rows' : List Opened) (root : ℕ) (frames frames' : List Frame) : Type 0 where
  pub stack : IsStack nodes rows' root frames'
  pub less : total nodes rows' frames' < total nodes rows frames

-- how the work on one frame ends for now
abbrev pub EndsAs : List PlanNode → List Opened → PlanNode → Opened → Frame → List Read → Ended → Type 0
EndsAs nodes rows node row f reads (ends.Below r) = IsBelow rows node f r
EndsAs nodes rows node row f reads ends.Keep = IsKept rows row
EndsAs nodes rows node row f reads (ends.Finish code) = IsRun nodes rows node f code reads

-- what the calls work with has room for the plan
pub record IsWorkOf (nodes : List PlanNode) (work : Work) : Type 0 where
  pub reads : HasRoom nodes work.reads
  pub marking : IsMarkingOf (length nodes) work.marking
