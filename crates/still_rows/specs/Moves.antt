-- What the order of work comes to on one frame.
use Rattle.std.specs.Prelude.{◌≡◌, ◌≢◌, ℕ, ◌+◌, ◌-◌, ◌<◌, ◌≤◌, true, false, if◌then◌else◌, List, [], ◌∷◌, slice_get, length, Some, None, Contains}
use Rattle.values.specs.declared.code.Code.{Code}
use Rattle.values.specs.declared.plan.PlanNode.{PlanNode}
use Rattle.values.specs.declared.tried.Tried.{Tried}
use Rattle.values.specs.Plan.{names_of, rows_in}
use Rattle.values.specs.PlanValues.{plan_value}
use Rattle.values.specs.Evaluation.{value_of, reads_of}
use Rattle.sources.specs.declared.body.Read.{Read}
use Rattle.sources.specs.declared.opening.Opened.{Opened}
use Rattle.sources.specs.Bodies.{rows_read}
use Rattle.sources.specs.Colours.{is_clean}
use Rattle.sources.specs.Rows.{value_in, IsPresent}
use Rattle.work_order.specs.declared.frame.Due.{Due}
use Rattle.work_order.specs.declared.frame.Due.TheVariants.{Not, First, Differs}
use Rattle.work_order.specs.declared.frame.Frame.{Frame}
use Rattle.work_order.specs.declared.order.Next.{Next}
use Rattle.work_order.specs.declared.order.Next.TheVariants as next
use Rattle.work_order.specs.Order.{is_due, next_of, cleared_frame, compared_frame}
use Rattle.still_rows.specs.declared.moves.Moved.{Moved}
use Rattle.still_rows.specs.declared.moves.Moved.TheVariants as to
use Rattle.still_rows.specs.Frames.{IsConfirmed, IsFrame}

-- the run is whole, with these reads
pub record IsRun (nodes : List PlanNode) (rows : List Opened) (node : PlanNode) (f : Frame) (code : Code) (reads : List Read) : Type 0 where
  pub due : is_due f.due ≡ true
  pub read : rows_read reads ≡ reads_of node.expr (plan_value nodes (value_in rows))
  pub value : value_of node.expr (plan_value nodes (value_in rows)) ≡ code
  pub each : (k : ℕ) (x : Read) → slice_get reads k ≡ Some x → IsConfirmed rows f.node x

abbrev pub Says : List PlanNode → List Opened → PlanNode → Opened → Frame → List Read → Next → Type 0
Says nodes rows node row f reads next.Answer = ⊥
Says nodes rows node row f reads (next.Compare n) = (f.cleared ≡ false) × (f.due ≡ Not) × (n ≡ f.at) × (n < length row.body.reads.list)
Says nodes rows node row f reads next.Clear = f.cleared ≡ false
Says nodes rows node row f reads (next.Check r) = (f.cleared ≡ true) × (f.due ≡ Not) × ((x : Read) × (slice_get row.body.reads.list f.at ≡ Some x) × (x.row ≡ r))
Says nodes rows node row f reads (next.Read r) = (f.cleared ≡ true) × Contains (rows_in node.expr) r × ((y : Opened) → slice_get rows r ≡ Some y → is_clean y.colour ≡ false)
Says nodes rows node row f reads next.Keep = (f.cleared ≡ true) × (f.due ≡ Not) × (length row.body.reads.list ≤ f.at)
Says nodes rows node row f reads (next.Finish code) = (f.cleared ≡ true) × IsRun nodes rows node f code reads

-- as many rows as all expressions name
unfoldable pub room : List PlanNode → ℕ
room [] = 0
room (n ∷ ns) = length (names_of n.expr) + room ns

abbrev pub begun_left : Due → ℕ → ℕ → ℕ
begun_left Not recorded at = recorded - at
begun_left First recorded at = 0
begun_left Differs recorded at = 0

abbrev pub going_left : Due → ℕ → ℕ → ℕ
going_left Not recorded at = 1 + (recorded - at)
going_left First recorded at = 0
going_left Differs recorded at = 0

-- what is left to do on a frame
abbrev pub work_left : Opened → Frame → ℕ
work_left row f = if f.cleared then going_left f.due (length row.body.reads.list) f.at else 2 + begun_left f.due (length row.body.reads.list) f.at + going_left f.due (length row.body.reads.list) 0

-- every recorded source is as it was
abbrev pub IsKept : List Opened → Opened → Type 0
IsKept rows row = (row.body.cause ≢ None) × ((k : ℕ) (x : Read) → slice_get row.body.reads.list k ≡ Some x → IsPresent rows x)

-- a source that comes first: it is named, and not clean
abbrev pub IsBelow : List Opened → PlanNode → Frame → ℕ → Type 0
IsBelow rows node f r = (r < f.node) × Contains (rows_in node.expr) r × ((y : Opened) → slice_get rows r ≡ Some y → is_clean y.colour ≡ false)

abbrev pub MovesTo : List PlanNode → List Opened → PlanNode → Opened → Frame → List Read → Moved → Type 0
MovesTo nodes rows node row f reads (to.On g) = IsFrame nodes rows g × (g.node ≡ f.node) × (work_left row g < work_left row f)
MovesTo nodes rows node row f reads (to.Below r) = IsBelow rows node f r
MovesTo nodes rows node row f reads to.Keep = IsKept rows row
MovesTo nodes rows node row f reads (to.Finish code) = IsRun nodes rows node f code reads

-- a recorded source is compared: as it is before the node is cleared, once it is clean after
abbrev pub IsLook : List Opened → Opened → Frame → Opened → Type 0
IsLook rows row f source = (f.due ≡ Not) × (f.at < length row.body.reads.list) × (f.cleared ≡ true → is_clean source.colour ≡ true)
    × ((x : Read) → slice_get row.body.reads.list f.at ≡ Some x → slice_get rows x.row ≡ Some source)

-- what is next on a frame of which no run is due, whatever was read
abbrev pub IsNext : Opened → Frame → Next → Type 0
IsNext row f step = (tried : Tried) → next_of tried row.colour row.body.reads.list f ≡ step

-- The frames to which the order of work leads from this one, by steps that write no row: a source is compared as it is before the node is cleared, and once it is clean after.
pub data LeadsTo (rows : List Opened) (row : Opened) (f : Frame) : Frame → Type 0 where
  start : LeadsTo rows row f f
  clears : (g : Frame) → LeadsTo rows row f g → IsNext row g next.Clear → LeadsTo rows row f (cleared_frame g)
  compares : (g : Frame) (x : Read) (y : Opened) → LeadsTo rows row f g → IsNext row g (next.Compare g.at) → slice_get row.body.reads.list g.at ≡ Some x → slice_get rows x.row ≡ Some y → LeadsTo rows row f (compared_frame g x.version y.version)
  checks : (g : Frame) (x : Read) (y : Opened) → LeadsTo rows row f g → IsNext row g (next.Check x.row) → slice_get row.body.reads.list g.at ≡ Some x → slice_get rows x.row ≡ Some y → is_clean y.colour ≡ true → LeadsTo rows row f (compared_frame g x.version y.version)

-- a frame that the order of work led to: it holds, and no more is left to do
pub record IsLed (nodes : List PlanNode) (rows : List Opened) (row : Opened) (f g : Frame) : Type 0 where
  pub steps : LeadsTo rows row f g
  pub node : g.node ≡ f.node
  pub frame : IsFrame nodes rows g
  pub less : work_left row g ≤ work_left row f

-- where no run is due the next recorded source, if there is one, is not clean
abbrev pub IsStopped : List Opened → Opened → Frame → Type 0
IsStopped rows row f = f.due ≡ Not → (x : Read) → slice_get row.body.reads.list f.at ≡ Some x → (y : Opened) → slice_get rows x.row ≡ Some y → is_clean y.colour ≡ false
