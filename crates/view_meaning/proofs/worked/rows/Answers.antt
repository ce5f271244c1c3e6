use Rattle.std.proofs.Common.{◌≡◌, [], ◌∷◌, codes, refl, ◌∙◌}
use Rattle.plain_evaluation.specs.Keyed.{item_keyed}
use Rattle.plain_evaluation.specs.Page.{item_bytes, page_of}
use Rattle.plain_evaluation.specs.Rows.{number, titles, titles_held}
use Rattle.plain_evaluation.specs.Written.{write_item}
use Rattle.plain_evaluation.proofs.Computes.{computes}
use Rattle.view_meaning.specs.Mounted.{no_rows}
use Rattle.view_meaning.specs.Serials.{rows_again, serial_among}
use Rattle.view_meaning.specs.Worked.{seen_of, unmoved, mounted_by, titles_with}
use Rattle.view_meaning.proofs.Cells.{held_written}
use Rattle.view_meaning.proofs.Computed.{titles_keys}
use Rattle.view_meaning.proofs.worked.rows.Goals as goal

pub returns-clause-first : goal.returns-clause-first
returns-clause-first c = λ i. rows_again (rows_again no_rows (titles_keys (titles_with []) refl i)) (titles_keys (titles_with (1 ∷ 2 ∷ 3 ∷ [])) refl i)

pub returns-clause-second : goal.returns-clause-second
returns-clause-second c = λ i. rows_again (rows_again (rows_again no_rows (titles_keys (titles_with []) refl i)) (titles_keys (titles_with (1 ∷ 2 ∷ 3 ∷ [])) refl i)) (titles_keys titles_held refl i)

pub returns-clause-serial : goal.returns-clause-serial
returns-clause-serial c = λ i. serial_among (rows_again (rows_again (rows_again no_rows (titles_keys (titles_with []) refl i)) (titles_keys (titles_with (1 ∷ 2 ∷ 3 ∷ [])) refl i)) (titles_keys titles_held refl i)).rows (number 1)

plain_page : page_of titles titles_held ≡ codes "<ul><li>c</li><li>b</li></ul>"
unfolding write_item item_bytes item_keyed
plain_page = simp computes

pub returns-clause-page : goal.returns-clause-page
returns-clause-page c = held_written titles titles_held (seen_of titles titles_held unmoved) (mounted_by titles (seen_of titles (titles_with []) unmoved ∷ seen_of titles (titles_with (1 ∷ 2 ∷ 3 ∷ [])) unmoved ∷ [])) (record { texts = refl; value = λ p. refl; keys = λ id store. refl; live = λ owner. refl }) ∙ plain_page

pub returns-clause-reversed : goal.returns-clause-reversed
returns-clause-reversed c = λ i. rows_again (rows_again no_rows (titles_keys (titles_with (1 ∷ 2 ∷ 3 ∷ [])) refl i)) (titles_keys (titles_with (3 ∷ 2 ∷ 1 ∷ [])) refl i)
