-- What the rows themselves tell of values: those of the rows that are clean.
use Rattle.std.specs.Prelude.{◌≡◌, ℕ, suc, ◌≤◌, if◌then◌else◌, List, [], ◌∷◌, ◌++◌, slice_get, length, Option, Some, None}
use Rattle.values.specs.declared.code.Code.{Code}
use Rattle.values.specs.declared.plan.PlanNode.{PlanNode}
use Rattle.values.specs.Packing.{unpacked, IsPacked}
use Rattle.values.specs.Plan.{rows_in}
use Rattle.values.specs.Reserved.{Reserve, room_of}
use Rattle.sources.specs.declared.body.Read.{Read}
use Rattle.sources.specs.declared.opening.Opened.{Opened}
use Rattle.sources.specs.Colours.{is_clean}
use Rattle.sources.specs.Rows.{IsPresent}
use Rattle.still_readers.specs.Readers.{stands_in}

-- the clean rows from a number on, each with its value
unfoldable pub shown_from : ℕ → List Opened → List (ℕ × Code)
shown_from i [] = []
shown_from i (row ∷ rows) = if is_clean row.colour then (i, unpacked row.code) ∷ shown_from (suc i) rows else shown_from (suc i) rows

-- the clean rows, each with its value
abbrev pub shown : List Opened → List (ℕ × Code)
shown rows = shown_from 0 rows

-- what one row tells
abbrev pub told : Option Opened → Option Code
told None = None
told (Some row) = if is_clean row.colour then Some (unpacked row.code) else None

-- each value is the packing of one
pub record ArePacked (rows : List Opened) : Type 0 where
  pub each : (i : ℕ) (row : Opened) → slice_get rows i ≡ Some row → IsPacked row.code

-- each read shows a clean row as it is
pub record IsFresh (rows : List Opened) (reads : List Read) : Type 0 where
  pub each : (k : ℕ) (x : Read) → slice_get reads k ≡ Some x → IsPresent rows x × IsPacked x.code × ((y : Opened) → slice_get rows x.row ≡ Some y → x.code ≡ y.code)

-- one more row, where it does not stand there
abbrev pub added : List ℕ → ℕ → List ℕ
added done r = if stands_in r done then done else done ++ r ∷ []

unfoldable pub noted : List ℕ → List ℕ → List ℕ
noted done [] = done
noted done (r ∷ rs) = noted (added done r) rs

-- there is room for all that one expression reads
pub record HasRoom (nodes : List PlanNode) (reads : Reserve Read) : Type 0 where
  pub each : (i : ℕ) (node : PlanNode) → slice_get nodes i ≡ Some node → length (rows_in node.expr) ≤ room_of reads
