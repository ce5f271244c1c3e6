-- What the bodies of rows name, and rows that are fresh.
use Rattle.std.specs.Prelude.{◌≡◌, ℕ, true, false, List, [], slice_get, Some, None, Contains}
use Rattle.values.specs.declared.plan.PlanNode.{PlanNode}
use Rattle.values.specs.Packing.{IsPacked}
use Rattle.values.specs.Plan.{rows_in}
use Rattle.values.specs.PlanValues.{is_derived}
use Rattle.sources.specs.declared.body.Cause.TheVariants.{Changed}
use Rattle.sources.specs.declared.colour.Colour.TheVariants.{Dirty}
use Rattle.sources.specs.declared.opening.Opened.{Opened}
use Rattle.sources.specs.Colours.{is_clean}

-- a row that never ran has read nothing, and the source of its cause is one that its node's expression names
pub record IsNamed (node : PlanNode) (row : Opened) : Type 0 where
  pub unread : row.body.cause ≡ None → row.body.reads.list ≡ []
  pub caused : (source old new : ℕ) → row.body.cause ≡ Some (Changed source old new) → Contains (rows_in node.expr) source

-- so of each derived row
abbrev pub AreNamed : List PlanNode → List Opened → Type 0
AreNamed nodes rows = (i : ℕ) (node : PlanNode) (row : Opened) → slice_get nodes i ≡ Some node → slice_get rows i ≡ Some row → is_derived node.kind ≡ true → IsNamed node row

-- a fresh row is a source's, which is clean, or has never run
pub record IsFresh (node : PlanNode) (row : Opened) : Type 0 where
  pub is_packed : IsPacked row.code
  pub source : is_derived node.kind ≡ false → is_clean row.colour ≡ true
  pub dirty : is_derived node.kind ≡ true → row.colour ≡ Dirty
  pub unrun : is_derived node.kind ≡ true → row.body.cause ≡ None
  pub unread : is_derived node.kind ≡ true → row.body.reads.list ≡ []

abbrev pub AreFresh : List PlanNode → List Opened → Type 0
AreFresh nodes rows = (i : ℕ) (node : PlanNode) (row : Opened) → slice_get nodes i ≡ Some node → slice_get rows i ≡ Some row → IsFresh node row
