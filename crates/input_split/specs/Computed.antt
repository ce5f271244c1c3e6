-- The parts of an input, in a form that computes. A branch that goes on reading is named by a `let`, so that it is
-- computed only where it is taken.
use Rattle.std.specs.Prelude.{ℕ, ◌+◌, min, Bool, true, false, not, List, [], ◌∷◌, length, take, count_by, Option, Some, None, if◌then◌else◌}
use Rattle.text_lexer.specs.Bytes.{is_line_feed}
use Rattle.text_lexer.specs.Computed.{run_length}
use Rattle.text_lexer.specs.Place.{line_at}
use Rattle.input_split.specs.declared.Split.{Split}
use Rattle.input_split.specs.Separator.{is_separator}

abbrev pub is_inside : ℕ → Bool
is_inside b = not (is_line_feed b)

-- The start and the stop of the first separator among the bytes that are left from the offset `at` on. The first
-- argument tells whether a line begins there.
abbrev pub separator_from : Bool → ℕ → List ℕ → Option (ℕ × ℕ)
separator_from begins at [] = None
separator_from false at (b ∷ bs) = separator_from (is_line_feed b) (at + 1) bs
separator_from true at (b ∷ bs) =
    let behind = separator_from (is_line_feed b) (at + 1) bs in
    let size = run_length is_inside (b ∷ bs) in
    if is_separator (take size (b ∷ bs)) then Some (at, at + size) else behind

abbrev pub split_at : List ℕ → Option (ℕ × ℕ) → Split
split_at bytes None = record { component_end = length bytes; script_start = length bytes; script_line = count_by is_line_feed bytes + 1 }
split_at bytes (Some separator) = record { component_end = separator.0; script_start = min (separator.1 + 1) (length bytes); script_line = line_at 1 bytes separator.0 + 1 }

abbrev pub split_of : List ℕ → Split
split_of bytes = split_at bytes (separator_from true 0 bytes)
