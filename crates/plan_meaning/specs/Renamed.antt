-- Expressions whose reads are named anew.
use Rattle.std.specs.Prelude.{ℕ}
use Rattle.values.specs.declared.expr.Expr.{Expr}
use Rattle.values.specs.declared.expr.Expr.TheOpen as form
use Rattle.values.specs.declared.expr.Expr.TheOpen.{Expr-F}
use Rattle.values.specs.declared.expr.Expr.TheVariants.{Lit, Read, Binary, If}
use Rattle.values.specs.declared.expr.Expr.TheFolds.{fold-Expr}

abbrev pub renamed_step : (ℕ → Expr) → Expr-F Expr → Expr
renamed_step stand (form.Lit code) = Lit code
renamed_step stand (form.Read name) = stand name
renamed_step stand (form.Binary op a b) = Binary op a b
renamed_step stand (form.If c a b) = If c a b

-- the expression, where `stand` gives what stands in the place of each read
unfoldable pub renamed : (ℕ → Expr) → Expr → Expr
renamed stand = fold-Expr Expr (renamed_step stand)

-- the expression with a new number for each row that it reads
abbrev pub renumbered : (ℕ → ℕ) → Expr → Expr
renumbered number = renamed (λ row. Read (number row))
