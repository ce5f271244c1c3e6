-- The rows of a new layout: each place that was there before has its old row, whose body names the rows by their new numbers.
use Rattle.std.specs.Prelude.{◌≡◌, ℕ, List, map, length, slice_get, Option, Some, None}
use Rattle.values.specs.declared.plan.PlanNode.{PlanNode}
use Rattle.values.specs.Reserved.{room_of}
use Rattle.sources.specs.declared.body.Read.{Read}
use Rattle.sources.specs.declared.body.Cause.{Cause}
use Rattle.sources.specs.declared.body.Cause.TheVariants.{First, Changed}
use Rattle.sources.specs.declared.opening.Opened.{Opened}
use Rattle.plain_evaluation.specs.Place.{Place}
use Rattle.plan_meaning.specs.Carried.{moved_row}
use Rattle.plan_meaning.specs.Layout.{row_of}

abbrev pub read_moved : (ℕ → ℕ) → Read → Read
read_moved number x = record x { row = number x.row }

abbrev pub cause_moved : (ℕ → ℕ) → Option Cause → Option Cause
cause_moved number None = None
cause_moved number (Some First) = Some First
cause_moved number (Some (Changed source old new)) = Some (Changed (number source) old new)

-- the row after is the one before, but for the numbers of the rows that its body names
pub record HasMoved (number : ℕ → ℕ) (before after : Opened) : Type 0 where
  pub code : after.code ≡ before.code
  pub version : after.version ≡ before.version
  pub colour : after.colour ≡ before.colour
  pub reads : after.body.reads.list ≡ map (read_moved number) before.body.reads.list
  pub cause : after.body.cause ≡ cause_moved number before.body.cause
  pub room : after.body.room ≡ before.body.room
  pub in_all : room_of after.body.reads ≡ room_of before.body.reads

-- `rows` of the layout with the places `old` go over to `after` of the one with the places `new`; all others of those are of `first`
pub record GoOver (old new : List Place) (rows first after : List Opened) : Type 0 where
  pub filled : length after ≡ length new
  -- a place in both has its old row
  pub kept : (row later : ℕ) (p : Place) (one two : Opened) → slice_get old row ≡ Some p → slice_get new later ≡ Some p → slice_get rows row ≡ Some one → slice_get after later ≡ Some two → HasMoved (moved_row old new) one two
  -- any other has its fresh one
  pub fresh : (later : ℕ) (p : Place) → slice_get new later ≡ Some p → row_of old p ≡ None → slice_get after later ≡ slice_get first later

-- one row and one place for each node
pub record ArePaired (places : List Place) (nodes : List PlanNode) (rows : List Opened) : Type 0 where
  pub planned : length nodes ≡ length places
  pub filled : length rows ≡ length places
