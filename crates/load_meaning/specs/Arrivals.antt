-- A text that is written out, with other keys arrived.
use Rattle.std.specs.Prelude.{ℕ, List, map, Option}
use Rattle.values.specs.declared.code.Code.{Code}
use Rattle.plain_evaluation.specs.Written.{Says, given, loaded, derived, Written}

-- the line of a load has the key that has arrived for its id now, if one has; all else stays
abbrev pub says_arrived : (ℕ → Option Code) → ℕ → Says → Says
says_arrived keys id (given kind code) = given kind code
says_arrived keys id (loaded pairs arrived) = loaded pairs (keys id)
says_arrived keys id (derived kind expr) = derived kind expr

abbrev pub line_arrived : (ℕ → Option Code) → Written → Written
line_arrived keys w = record { id = w.id; scene = w.scene; says = says_arrived keys w.id w.says }

abbrev pub text_arrived : (ℕ → Option Code) → List Written → List Written
text_arrived keys ws = map (line_arrived keys) ws
