-- Rows before anything is written.
use Rattle.std.specs.Prelude.{◌≡◌, ℕ, ◌≤◌, Bool, true, false, List, [], length, slice_get, Some, None}
use Rattle.values.specs.declared.code.Code.TheVariants.{Empty}
use Rattle.values.specs.declared.plan.PlanNode.{PlanNode}
use Rattle.values.specs.Packing.{packed, IsPacked}
use Rattle.values.specs.Plan.{rows_in}
use Rattle.values.specs.PlanValues.{is_derived}
use Rattle.values.specs.Reserved.{room_of}
use Rattle.sources.specs.declared.colour.Colour.{Colour}
use Rattle.sources.specs.declared.colour.Colour.TheVariants.{Clean, Dirty}
use Rattle.sources.specs.declared.opening.Opened.{Opened}

-- a derived row is dirty
abbrev pub fresh_colour : Bool → Colour
fresh_colour true = Dirty
fresh_colour false = Clean

-- a row that is empty, and never ran, with room for all that its expression names
pub record IsFreshRow (node : PlanNode) (row : Opened) : Type 0 where
  pub empty : row.code ≡ packed Empty
  pub is_packed : IsPacked row.code
  pub version : row.version ≡ 0
  pub colour : row.colour ≡ fresh_colour (is_derived node.kind)
  pub reads : row.body.reads.list ≡ []
  pub cause : row.body.cause ≡ None
  pub room : length (rows_in node.expr) ≤ room_of row.body.reads

pub record AreFreshRows (nodes : List PlanNode) (count : ℕ) (rows : List Opened) : Type 0 where
  pub counted : length rows ≡ count
  pub each : (i : ℕ) (node : PlanNode) (row : Opened) → slice_get nodes i ≡ Some node → slice_get rows i ≡ Some row → IsFreshRow node row
