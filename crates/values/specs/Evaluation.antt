-- The value of an expression, and the rows that it reads.
use Rattle.std.specs.Prelude.{ℕ, Bool, true, false, not, if◌then◌else◌, List, [], ◌∷◌, ◌++◌, ℤ, pos, ◌+ℤ◌, ◌-ℤ◌, ◌*ℤ◌, int_div, int_rem, int_lt, ◌==◌}
use Rattle.std.specs.Int.{saturate_signed, w32}
use Rattle.std.specs.Ordering.{int_eq}
use Rattle.std.specs.List.{filter}
use Rattle.values.specs.declared.code.Code.{Code}
use Rattle.values.specs.declared.code.Code.TheVariants.{Empty, Number, Word}
use Rattle.values.specs.declared.code.Op.{Op}
use Rattle.values.specs.declared.code.Op.TheVariants.{Add, Sub, Mul, Div, Rem, Equal, Less}
use Rattle.values.specs.declared.expr.Expr.{Expr}
use Rattle.values.specs.declared.expr.Expr.TheOpen as level
use Rattle.values.specs.declared.expr.Expr.TheOpen.{Expr-F}
use Rattle.values.specs.declared.expr.Expr.TheFolds.{fold-Expr}

-- nothing, 0 and the empty text are false
abbrev pub truth : Code → Bool
truth Empty = false
truth (Number n) = not (int_eq n (pos 0))
truth (Word n) = not (n == 0)

-- a test as a value
abbrev pub number_of : Bool → Code
number_of true = Number (pos 1)
number_of false = Number (pos 0)

-- the number nearest to z from -2 ^ 31 to 2 ^ 31 - 1
abbrev pub number_near : ℤ → Code
number_near z = Number (saturate_signed w32 z)

-- both are the same value
abbrev pub is_same : Code → Code → Bool
is_same Empty Empty = true
is_same (Number a) (Number b) = int_eq a b
is_same (Word a) (Word b) = a == b
is_same _ _ = false

-- The value of an operator on two values. A quotient is rounded towards 0, and a remainder has the sign of a.
abbrev pub combined : Op → Code → Code → Code
combined Add (Number a) (Number b) = number_near (a +ℤ b)
combined Sub (Number a) (Number b) = number_near (a -ℤ b)
combined Mul (Number a) (Number b) = number_near (a *ℤ b)
combined Div (Number a) (Number b) = if int_eq b (pos 0) then Empty else number_near (int_div a b)
combined Rem (Number a) (Number b) = if int_eq b (pos 0) then Empty else Number (int_rem a b)
combined Less (Number a) (Number b) = number_of (int_lt a b)
combined Equal a b = number_of (is_same a b)
combined op a b = Empty

-- The value of an expression, and each row that was read for it, in order, as often as it was read.
pub record Evaluated : Type 0 where
  pub value : Code
  pub reads : List ℕ

-- one form of expression, with what its parts evaluate to in their places
abbrev pub evaluation_step : (ℕ → Code) → Expr-F Evaluated → Evaluated
evaluation_step values (level.Lit code) = record { value = code; reads = [] }
evaluation_step values (level.Read row) = record { value = values row; reads = row ∷ [] }
evaluation_step values (level.Binary op a b) = record { value = combined op a.value b.value; reads = a.reads ++ b.reads }
evaluation_step values (level.If c a b) =
    let taken = if truth c.value then a else b in
    record { value = taken.value; reads = c.reads ++ taken.reads }

unfoldable pub evaluation : Expr → (ℕ → Code) → Evaluated
evaluation e values = fold-Expr Evaluated (evaluation_step values) e

-- the value, where `values` gives that of each row
abbrev pub value_of : Expr → (ℕ → Code) → Code
value_of e values = (evaluation e values).value

-- the rows that are read, in order, each as often as it is read
abbrev pub readings_of : Expr → (ℕ → Code) → List ℕ
readings_of e values = (evaluation e values).reads

-- the list without the later places of each row
abbrev pub distinct : List ℕ → List ℕ
distinct [] = []
distinct (row ∷ rows) = row ∷ filter (λ r. not (r == row)) (distinct rows)

-- the distinct rows that are read, in order of first reading
abbrev pub reads_of : Expr → (ℕ → Code) → List ℕ
reads_of e values = distinct (readings_of e values)
