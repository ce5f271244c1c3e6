-- Where each row goes.
use Rattle.std.specs.Prelude.{◌≡◌, ◌<◌, ℕ, List, slice_get, slice_index_or, unwrap_or, Option, Some, None}

-- the row that this one goes to; one that goes nowhere is not asked for
abbrev pub number_by : List (Option ℕ) → ℕ → ℕ
number_by to row = unwrap_or (slice_index_or to row None) 0

-- each goes to one of so many rows, and no two to one
pub record AreTargets (to : List (Option ℕ)) (count : ℕ) : Type 0 where
  pub within : (row later : ℕ) → slice_get to row ≡ Some (Some later) → later < count
  pub apart : (row other later : ℕ) → slice_get to row ≡ Some (Some later) → slice_get to other ≡ Some (Some later) → row ≡ other

-- no row goes there
abbrev pub IsNoTarget : List (Option ℕ) → ℕ → Type 0
IsNoTarget to later = (row : ℕ) → slice_get to row ≡ Some (Some later) → ⊥
