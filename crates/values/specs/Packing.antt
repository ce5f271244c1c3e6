-- A value in one word.
use Rattle.std.specs.Prelude.{◌≡◌, ℕ, ◌+◌, ◌*◌, ◌/◌, ◌%◌, ◌<◌, ◌^◌, FitsSigned, if◌then◌else◌, ◌==◌}
use Rattle.std.specs.Int.{cast_signed, cast_unsigned, w32}
use Rattle.values.specs.declared.code.Code.{Code}
use Rattle.values.specs.declared.code.Code.TheVariants.{Empty, Number, Word}

-- the 32 bits of the value times 4, and its tag: 0 for Empty, 1 for a Number, 2 for a Word
abbrev pub packed : Code → ℕ
packed Empty = 0
packed (Number n) = cast_unsigned w32 n * 4 + 1
packed (Word n) = n * 4 + 2

-- a value of the program: its number or index fits 32 bits
abbrev pub IsValue : Code → Type 0
IsValue Empty = Unit {0}
IsValue (Number n) = FitsSigned w32 n
IsValue (Word n) = n < 2 ^ 32

-- the value that the word is the packing of, and nothing where it is none's
unfoldable pub unpacked : ℕ → Code
unpacked word = if word % 4 == 1 then Number (cast_signed w32 (word / 4)) else (if word % 4 == 2 then Word (word / 4) else Empty)

-- the word is the packing of a value
pub record IsPacked (word : ℕ) : Type 0 where
  pub code : Code
  pub value : IsValue code
  pub packs : packed code ≡ word
