-- How the work on a node ends.
use Rattle.std.specs.Prelude.{◌≡◌, ℕ, ◌<◌, ◌≤◌, true, List, slice_get, slice_set, length, Some, None, Contains}
use Rattle.values.specs.declared.code.Code.{Code}
use Rattle.values.specs.declared.plan.PlanNode.{PlanNode}
use Rattle.values.specs.Packing.{packed, unpacked, IsPacked}
use Rattle.values.specs.Plan.{rows_in}
use Rattle.values.specs.PlanValues.{is_derived}
use Rattle.values.specs.Reserved.{room_of}
use Rattle.sources.specs.declared.body.Body.{Body}
use Rattle.sources.specs.declared.body.Read.{Read}
use Rattle.sources.specs.declared.body.Cause.{Cause}
use Rattle.sources.specs.declared.body.Cause.TheVariants.{First, Changed}
use Rattle.sources.specs.declared.opening.Opened.{Opened}
use Rattle.work_order.specs.declared.frame.Frame.{Frame}
use Rattle.still_readers.specs.declared.readers.Readers.{Readers}
use Rattle.still_readers.specs.Readers.{IsReadersOf, HasRead}
use Rattle.still_rows.specs.declared.clock.Clock.{Clock}
use Rattle.still_rows.specs.Clock.{IsVersioned}
use Rattle.still_rows.specs.Frames.{IsGoing}
use Rattle.still_rows.specs.Since.{IsBodyAfter, finished_row}

-- why the node of the frame runs
abbrev pub IsCauseOf : List Opened → Opened → ℕ → Cause → Type 0
IsCauseOf rows row at First = row.body.cause ≡ None
IsCauseOf rows row at (Changed source old new) = (x : Read) × (slice_get row.body.reads.list at ≡ Some x) × (x.row ≡ source) × (x.version ≡ old)
    × ((y : Opened) × (slice_get rows source ≡ Some y) × (new ≡ y.version) × (old < new))

-- a row whose run may be recorded
pub record IsRunnable (rows : List Opened) (row : Opened) (f : Frame) (reads : List Read) : Type 0 where
  pub is_packed : IsPacked row.code
  pub going : IsGoing rows row f.cleared f.at f.due
  pub within : (x : Read) → slice_get row.body.reads.list f.at ≡ Some x → x.row < length rows
  pub room : length reads ≤ room_of row.body.reads

-- the row was put with this run
pub record IsPut (rows rows' : List Opened) (node : ℕ) (row : Opened) (cause : Cause) (code version : ℕ) (reads : List Read) : Type 0 where
  pub body : Body
  pub after : IsBodyAfter row.body body cause reads
  pub is : rows' ≡ slice_set rows node (finished_row code version body)

-- the node was enrolled at the rows of the first `count` reads
pub record IsEnrolledFor (node : ℕ) (reads : List Read) (count : ℕ) (old new : Readers) : Type 0 where
  pub of_plan : (nodes : List PlanNode) → IsReadersOf nodes old → IsReadersOf nodes new
  pub stays : (m row : ℕ) → HasRead old m row → HasRead new m row
  pub enrolled : (nodes : List PlanNode) → IsReadersOf nodes old → (n : PlanNode) → slice_get nodes node ≡ Some n → is_derived n.kind ≡ true → (k : ℕ) (x : Read) → k < count → slice_get reads k ≡ Some x → Contains (rows_in n.expr) x.row → x.row < length nodes → HasRead new node x.row

-- a run was recorded under this version, with its cause, and its node was enrolled at what it read
pub record IsRunRecorded (rows rows' : List Opened) (readers readers' : Readers) (f : Frame) (code : Code) (version : ℕ) (reads : List Read) (row : Opened) : Type 0 where
  pub cause : Cause
  pub caused : IsCauseOf rows row f.at cause
  pub packs : IsPacked (packed code)
  pub undone : unpacked (packed code) ≡ code
  pub put : IsPut rows rows' f.node row cause (packed code) version reads
  pub enrolled : IsEnrolledFor f.node reads (length reads) readers readers'

-- the run of a memo ended
pub record IsFinished (rows rows' : List Opened) (readers readers' : Readers) (clock clock' : Clock) (f : Frame) (code : Code) (reads : List Read) (row : Opened) : Type 0 where
  pub version : ℕ
  pub versioned : IsVersioned clock clock' f.node row code version
  pub run : IsRunRecorded rows rows' readers readers' f code version reads row
