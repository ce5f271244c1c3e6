-- Two layouts of one component: what is in both goes over by its place.
use Rattle.std.specs.Prelude.{◌≡◌, ℕ, List, map, slice_get, slice_index_or, Option, Some, None, unwrap_or, Contains}
use Rattle.values.specs.declared.plan.PlanNode.{PlanNode}
use Rattle.values.specs.Plan.{rows_in}
use Rattle.plain_evaluation.specs.Place.{Place}
use Rattle.plan_meaning.specs.Layout.{row_of}
use Rattle.plan_meaning.specs.Renamed.{renumbered}

-- for each old row the new one of its place, where there is one
abbrev pub rows_to : List Place → List Place → List (Option ℕ)
rows_to old new = map (row_of new) old

-- the new row of an old one; one that has none is not asked for
abbrev pub moved_row : List Place → List Place → ℕ → ℕ
moved_row old new row = unwrap_or (slice_index_or (rows_to old new) row None) 0

abbrev pub node_renumbered : (ℕ → ℕ) → PlanNode → PlanNode
node_renumbered number node = record node { expr = renumbered number node.expr }

-- no place has two rows
abbrev pub AreApart : List Place → Type 0
AreApart places = (row : ℕ) (p : Place) → slice_get places row ≡ Some p → row_of places p ≡ Some row

-- Of a place in both layouts the node is the same but for the numbers of rows, and what it names is in both.
pub record IsCarried (old new : List Place) (nodes later : List PlanNode) : Type 0 where
  pub apart : AreApart old
  pub apart_later : AreApart new
  pub node : (r s : ℕ) (p : Place) (n m : PlanNode) → slice_get old r ≡ Some p → slice_get new s ≡ Some p → slice_get nodes r ≡ Some n → slice_get later s ≡ Some m → m ≡ node_renumbered (moved_row old new) n
  pub named : (r s : ℕ) (p : Place) (n : PlanNode) → slice_get old r ≡ Some p → slice_get new s ≡ Some p → slice_get nodes r ≡ Some n → (source : ℕ) → Contains (rows_in n.expr) source → (q : Place) × (slice_get old source ≡ Some q) × (slice_get new (moved_row old new source) ≡ Some q)
