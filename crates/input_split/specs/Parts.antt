-- The parts of an input.
use Rattle.std.specs.Prelude.{◌≡◌, ◌⊎◌, ℕ, ◌+◌, ◌<◌, List, length, min, count_by}
use Rattle.text_lexer.specs.Bytes.{is_line_feed}
use Rattle.text_lexer.specs.Place.{line_at}
use Rattle.input_split.specs.declared.Split.{Split}
use Rattle.input_split.specs.Separator.{IsSeparator}

-- The input has a separator, and the parts are what stands before the first one and behind it.
pub record SplitsAt (bytes : List ℕ) (split : Split) : Type 0 where
  pub stop : ℕ
  pub separator : IsSeparator bytes split.component_end stop
  pub first : (start end : ℕ) → start < split.component_end → IsSeparator bytes start end → ⊥
  pub script : split.script_start ≡ min (stop + 1) (length bytes)
  pub line : split.script_line ≡ line_at 1 bytes split.component_end + 1

-- The input has no separator, and all of it is the component text.
pub record IsUndivided (bytes : List ℕ) (split : Split) : Type 0 where
  pub none : (start end : ℕ) → IsSeparator bytes start end → ⊥
  pub component : split.component_end ≡ length bytes
  pub script : split.script_start ≡ length bytes
  pub line : split.script_line ≡ count_by is_line_feed bytes + 1

-- where the parts of the input are
abbrev pub IsSplit : List ℕ → Split → Type 0
IsSplit bytes split = SplitsAt bytes split ⊎ IsUndivided bytes split
