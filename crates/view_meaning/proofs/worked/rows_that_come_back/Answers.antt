use Rattle.std.proofs.Common.{[], ◌∷◌, refl}
use Rattle.view_meaning.specs.Mounted.{no_rows}
use Rattle.view_meaning.specs.Serials.{rows_again}
use Rattle.view_meaning.specs.Worked.{titles_with}
use Rattle.view_meaning.proofs.Computed.{titles_keys}
use Rattle.view_meaning.proofs.worked.rows_that_come_back.Goals as goal

pub returns-clause-two_updates : goal.returns-clause-two_updates
returns-clause-two_updates c = λ i. rows_again (rows_again (rows_again no_rows (titles_keys (titles_with (1 ∷ 2 ∷ [])) refl i)) (titles_keys (titles_with (2 ∷ [])) refl i)) (titles_keys (titles_with (2 ∷ 1 ∷ [])) refl i)

pub returns-clause-one_update : goal.returns-clause-one_update
returns-clause-one_update c = λ i. rows_again (rows_again no_rows (titles_keys (titles_with (1 ∷ 2 ∷ [])) refl i)) (titles_keys (titles_with (2 ∷ 1 ∷ [])) refl i)
