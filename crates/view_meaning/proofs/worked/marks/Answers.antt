use Rattle.std.proofs.Common.{◌≡◌, codes, refl, ◌∙◌}
use Rattle.component_items.specs.Ids.{item_owners}
use Rattle.plain_evaluation.specs.Held.{first_held, item_first}
use Rattle.plain_evaluation.specs.Keyed.{item_keyed}
use Rattle.plain_evaluation.specs.Page.{item_bytes, page_of}
use Rattle.plain_evaluation.specs.Rows.{escapes}
use Rattle.plain_evaluation.specs.Written.{write_item}
use Rattle.plain_evaluation.proofs.Computes.{folds, computes}
use Rattle.view_meaning.specs.Mounted.{nothing_mounted}
use Rattle.view_meaning.specs.Parts.{item_parts}
use Rattle.view_meaning.specs.Worked.{seen_of, unmoved}
use Rattle.view_meaning.proofs.Cells.{held_written}
use Rattle.view_meaning.proofs.worked.marks.Goals as goal

pub returns-clause-escapes : goal.returns-clause-escapes
unfolding item_parts item_owners item_first
returns-clause-escapes c = simp folds

pub returns-clause-marks : goal.returns-clause-marks
unfolding item_parts item_owners item_first
returns-clause-marks c = simp folds

plain_page : page_of escapes (first_held escapes) ≡ codes "<p title=\"&lt;&amp;&quot;\">&lt;&amp;\"&lt;&amp;\"</p>"
unfolding item_first write_item item_bytes item_owners item_keyed
plain_page = simp computes

pub returns-clause-page : goal.returns-clause-page
returns-clause-page c = held_written escapes (first_held escapes) (seen_of escapes (first_held escapes) unmoved) nothing_mounted (record { texts = refl; value = λ p. refl; keys = λ id store. refl; live = λ owner. refl }) ∙ plain_page
