-- A table by id.
use Rattle.std.specs.Prelude.{ℕ, ◌==◌, if◌then◌else◌, List, [], ◌∷◌}

-- what the table has for the id, at its first place; else `none`
abbrev pub found_in : {A : Type 0} → A → List (ℕ × A) → ℕ → A
found_in none [] id = none
found_in none (pair ∷ pairs) id = if pair.0 == id then pair.1 else found_in none pairs id
