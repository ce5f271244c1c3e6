-- How far a text has been read.
use Rattle.std.specs.Prelude.{ℕ, List}

-- the bytes of the whole text, the number of its first line, and the offset just past the last token
-- that was given, which is 0 before the first
pub record Cursor : Type 0 where
  pub text : List ℕ
  pub first_line : ℕ
  pub at : ℕ

-- before the first token
abbrev pub start_of : List ℕ → ℕ → Cursor
start_of text first_line = record { text = text; first_line = first_line; at = 0 }
