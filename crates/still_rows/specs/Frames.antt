-- What holds of the frame of a node that is brought up to date.
use Rattle.std.specs.Prelude.{◌≡◌, ◌≢◌, ℕ, ◌<◌, ◌≤◌, Bool, true, false, List, slice_get, length, Some, None, Contains}
use Rattle.values.specs.declared.expr.Expr.{Expr}
use Rattle.values.specs.declared.plan.Kind.TheVariants.{Memo}
use Rattle.values.specs.declared.plan.PlanNode.{PlanNode}
use Rattle.values.specs.Packing.{IsPacked}
use Rattle.values.specs.Plan.{rows_in, MayRead}
use Rattle.values.specs.PlanValues.{is_derived}
use Rattle.sources.specs.declared.body.Read.{Read}
use Rattle.sources.specs.declared.opening.Opened.{Opened}
use Rattle.sources.specs.Colours.{is_clean}
use Rattle.sources.specs.Rows.{IsPresent}
use Rattle.work_order.specs.declared.frame.Due.{Due}
use Rattle.work_order.specs.declared.frame.Due.TheVariants.{Not, First, Differs}
use Rattle.work_order.specs.declared.frame.Frame.{Frame}

-- the nodes of a lawful plan
pub record AreLawful (nodes : List PlanNode) : Type 0 where
  pub few : length nodes ≤ 4096
  pub reads : (row : ℕ) (node : PlanNode) → slice_get nodes row ≡ Some node → (source : ℕ) → Contains (rows_in node.expr) source → MayRead nodes row source

-- the expression names rows before this one alone, and no effect
pub record NamesLawfully (nodes : List PlanNode) (row : ℕ) (e : Expr) : Type 0 where
  pub each : (source : ℕ) → Contains (rows_in e) source → MayRead nodes row source

-- the read shows the row as it is, with its value, and the row is clean
pub record IsConfirmed (rows : List Opened) (node : ℕ) (x : Read) : Type 0 where
  pub below : x.row < node
  pub is_packed : IsPacked x.code
  pub present : IsPresent rows x
  pub code : (y : Opened) → slice_get rows x.row ≡ Some y → x.code ≡ y.code

-- what holds by why a run is due
abbrev pub IsGoing : List Opened → Opened → Bool → ℕ → Due → Type 0
IsGoing rows row cleared at Not = (row.body.cause ≢ None) × (cleared ≡ true → (k : ℕ) (x : Read) → k < at → slice_get row.body.reads.list k ≡ Some x → IsPresent rows x)
IsGoing rows row cleared at First = row.body.cause ≡ None
IsGoing rows row cleared at Differs = (x : Read) × (slice_get row.body.reads.list at ≡ Some x) × ((y : Opened) → slice_get rows x.row ≡ Some y → x.version < y.version)

pub record IsFrameOf (rows : List Opened) (node : PlanNode) (row : Opened) (f : Frame) : Type 0 where
  pub derived : is_derived node.kind ≡ true
  pub unclean : is_clean row.colour ≡ false
  pub going : IsGoing rows row f.cleared f.at f.due

pub record IsFrame (nodes : List PlanNode) (rows : List Opened) (f : Frame) : Type 0 where
  pub below : f.node < length nodes
  pub each : (node : PlanNode) (row : Opened) → slice_get nodes f.node ≡ Some node → slice_get rows f.node ≡ Some row → IsFrameOf rows node row f

-- the node is a memo
pub record IsMemo (nodes : List PlanNode) (i : ℕ) : Type 0 where
  pub each : (node : PlanNode) → slice_get nodes i ≡ Some node → node.kind ≡ Memo
