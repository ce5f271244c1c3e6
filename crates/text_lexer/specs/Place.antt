-- Lines and columns.
use Rattle.std.specs.Prelude.{ℕ, ◌≡◌, ◌+◌, ◌≤◌, List, length, take, count_by}
use Rattle.std.specs.List.{after_last}
use Rattle.text_lexer.specs.Bytes.{is_line_feed}

-- the line of the byte at offset n, where the text begins in line `first_line`
abbrev pub line_at : ℕ → List ℕ → ℕ → ℕ
line_at first_line text n = first_line + count_by is_line_feed (take n text)

-- its column: how many bytes stand before it in its line, and one more
abbrev pub column_at : List ℕ → ℕ → ℕ
column_at text n = length (after_last is_line_feed (take n text)) + 1

-- at this offset of the text, and so at this line and column
pub record IsPlace (first_line : ℕ) (text : List ℕ) (offset at_line at_column : ℕ) : Type 0 where
  pub within : offset ≤ length text
  pub line : at_line ≡ line_at first_line text offset
  pub column : at_column ≡ column_at text offset
