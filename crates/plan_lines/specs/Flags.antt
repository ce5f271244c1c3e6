-- Flags by id, as a list and as a function.
use Rattle.std.specs.Prelude.{ℕ, Bool, false, List, map, slice_index_or}

-- the flag of an id, where a flag stands at its place for each id
abbrev pub flag_at : List Bool → ℕ → Bool
flag_at flags = λ id. slice_index_or flags id false

-- the flags of a table by id
abbrev pub flags_of : List (ℕ × Bool) → List Bool
flags_of table = map (λ entry. entry.1) table
