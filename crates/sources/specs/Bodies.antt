-- Bodies: what a node read when it last ran, and why it ran.
use Rattle.std.specs.Prelude.{◌≡◌, ◌≢◌, ℕ, ◌==◌, if◌then◌else◌, List, [], ◌∷◌, map, slice_get, Option, Some, None}
use Rattle.values.specs.declared.code.Code.{Code}
use Rattle.values.specs.declared.expr.Expr.{Expr}
use Rattle.values.specs.Evaluation.{value_of, reads_of}
use Rattle.values.specs.Packing.{unpacked}
use Rattle.sources.specs.declared.body.Read.{Read}
use Rattle.sources.specs.declared.body.Cause.{Cause}
use Rattle.sources.specs.declared.body.Cause.TheVariants.{First, Changed}

-- the rows that were read, in order
abbrev pub rows_read : List Read → List ℕ
rows_read reads = map (λ x. x.row) reads

-- the packed value that is recorded of a row, by the first place that it has: that of nothing where it has none
unfoldable pub recorded_code : List Read → ℕ → ℕ
recorded_code [] row = 0
recorded_code (x ∷ xs) row = if x.row == row then x.code else recorded_code xs row

-- the value that is recorded of a row
abbrev pub recorded_value : List Read → ℕ → Code
recorded_value reads row = unpacked (recorded_code reads row)

-- right: evaluation over exactly the recorded reads, in their order, gives the value
pub record IsRight (e : Expr) (reads : List Read) (code : ℕ) : Type 0 where
  pub read : rows_read reads ≡ reads_of e (recorded_value reads)
  pub gives : value_of e (recorded_value reads) ≡ unpacked code

-- the source was recorded at one version, and was then shown to have another
pub record IsChange (reads : List Read) (Shown : ℕ → ℕ → Type 0) (source old new : ℕ) : Type 0 where
  pub place : ℕ
  pub read : Read
  pub recorded : slice_get reads place ≡ Some read
  pub of_source : read.row ≡ source
  pub at_old : read.version ≡ old
  pub shown : Shown source new
  pub other : old ≢ new

-- Caused: a first run is of a body that never ran. Any other is of one in which a recorded source was then shown to have another version.
-- `Shown row version` says that the row was seen to have this version since the node was taken up.
abbrev pub IsCaused : List Read → Option Cause → (ℕ → ℕ → Type 0) → Cause → Type 0
IsCaused reads cause Shown First = cause ≡ None
IsCaused reads cause Shown (Changed source old new) = IsChange reads Shown source old new
