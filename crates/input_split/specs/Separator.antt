-- The line that parts a component text from a script text.
use Rattle.std.specs.Prelude.{◌≡◌, ◌≢◌, ℕ, ◌-◌, ◌<◌, ◌≤◌, ◌||◌, Bool, true, codes, List, length, slice_index, slice_range}
use Rattle.std.specs.Str.{bytes_eq}

-- exactly `---`, with or without a carriage return
abbrev pub is_separator : List ℕ → Bool
is_separator line = bytes_eq line (codes "---") || bytes_eq line (codes "---\r")

-- A line stands from `start` to `stop`: it begins at the first byte or behind a line feed, has no line feed
-- inside, and ends at one or at the end of the bytes.
pub record IsLine (bytes : List ℕ) (start stop : ℕ) : Type 0 where
  pub ordered : start ≤ stop
  pub within : stop ≤ length bytes
  pub begins : 0 < start → slice_index bytes (start - 1) ≡ 10
  pub inside : (k : ℕ) → start ≤ k → k < stop → slice_index bytes k ≢ 10
  pub ends : stop < length bytes → slice_index bytes stop ≡ 10

pub record IsSeparator (bytes : List ℕ) (start stop : ℕ) : Type 0 where
  pub line : IsLine bytes start stop
  pub holds : is_separator (slice_range bytes start stop) ≡ true
