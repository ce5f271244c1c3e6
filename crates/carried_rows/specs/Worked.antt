-- Two layouts for worked rows: of a store with one field, shown in an `each`, with two rows and then with the second alone.
use Rattle.std.specs.Prelude.{ℕ, List, [], ◌∷◌}
use Rattle.plain_evaluation.specs.Place.{Place, of_row}
use Rattle.plain_evaluation.specs.Rows.{number}
use Rattle.plan_meaning.specs.Carried.{moved_row}

abbrev pub of_both : List Place
of_both = of_row 2 (number 3) ∷ of_row 2 (number 2) ∷ of_row 4 (number 3) ∷ of_row 4 (number 2) ∷ []

abbrev pub of_second : List Place
of_second = of_row 2 (number 2) ∷ of_row 4 (number 2) ∷ []

abbrev pub to_second : ℕ → ℕ
to_second = moved_row of_both of_second
