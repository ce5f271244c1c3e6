-- Small expressions and reads, for the worked rows.
use Rattle.std.specs.Prelude.{◌≡◌, ℕ}
use Rattle.values.specs.declared.code.Code.TheVariants.{Empty}
use Rattle.values.specs.declared.expr.Expr.{Expr}
use Rattle.values.specs.declared.expr.Expr.TheVariants.{Lit, Read as of_row}
use Rattle.sources.specs.declared.body.Read.{Read}

-- a read of this row at version 4, where it has the number 5
abbrev pub five_at : ℕ → Read
five_at row = record { row = row; version = 4; code = 21 }

-- the expression that is a row alone
abbrev pub row_alone : ℕ → Expr
row_alone row = of_row row

-- the expression that reads no row
abbrev pub no_row : Expr
no_row = Lit Empty

-- each row was shown to have version 9
abbrev pub IsAtNine : ℕ → ℕ → Type 0
IsAtNine row version = version ≡ 9
