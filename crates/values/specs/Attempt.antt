-- Evaluation with some rows known.
use Rattle.std.specs.Prelude.{◌≡◌, ℕ, Option, Some, None, IfSome, is_some, if◌then◌else◌, List, [], ◌∷◌, map, ◌==◌}
use Rattle.values.specs.declared.code.Code.{Code}
use Rattle.values.specs.declared.expr.Expr.{Expr}
use Rattle.values.specs.declared.tried.Tried.{Tried}
use Rattle.values.specs.declared.tried.Tried.TheVariants.{Done, Needs}
use Rattle.values.specs.Evaluation.{value_of, reads_of}

-- the value of a row, where it is known. Of a row that stands twice the first place counts.
abbrev pub known_value : List (ℕ × Code) → ℕ → Option Code
known_value [] row = None
known_value (entry ∷ entries) row = if entry.0 == row then Some entry.1 else known_value entries row

-- the rows, each with its value
abbrev pub known_by : (ℕ → Code) → List ℕ → List (ℕ × Code)
known_by values rows = map (λ row. (row, values row)) rows

-- the values are those that are known, wherever one is
abbrev pub Agrees : (ℕ → Code) → List (ℕ × Code) → Type 0
Agrees values known = (row : ℕ) → IfSome (known_value known row) (λ code. values row ≡ code)

-- the first of the rows that is not known
abbrev pub first_unknown : List (ℕ × Code) → List ℕ → Option ℕ
first_unknown known [] = None
first_unknown known (row ∷ rows) = if is_some (known_value known row) then first_unknown known rows else Some row

-- the row that is missing, else the value
abbrev pub answer : Option ℕ → Code → Tried
answer None code = Done code
answer (Some row) code = Needs row

-- What is known of an evaluation: its value where all rows that it reads are known, else the first that is not.
abbrev pub tried_of : Expr → List (ℕ × Code) → (ℕ → Code) → Tried
tried_of e known values = answer (first_unknown known (reads_of e values)) (value_of e values)
