use Rattle.std.proofs.Common.{◌≡◌, [], ◌∷◌, codes, refl, ◌∙◌}
use Rattle.plain_evaluation.specs.Held.{first_held}
use Rattle.plain_evaluation.specs.Keyed.{item_keyed}
use Rattle.plain_evaluation.specs.Page.{item_bytes, page_of}
use Rattle.plain_evaluation.specs.Place.{outside}
use Rattle.plain_evaluation.specs.Rows.{side, side_dead}
use Rattle.plain_evaluation.specs.Written.{write_item}
use Rattle.plain_evaluation.proofs.Computes.{computes}
use Rattle.view_meaning.specs.Mounted.{with_parts, nothing_mounted, written_of}
use Rattle.view_meaning.specs.Worked.{seen_of, unmoved, mounted_by}
use Rattle.view_meaning.proofs.Cells.{held_written}
use Rattle.view_meaning.proofs.Computed.{side_live_parts, side_dead_parts}
use Rattle.view_meaning.proofs.worked.areas.Goals as goal

pub returns-clause-live : goal.returns-clause-live
returns-clause-live c = side_live_parts

pub returns-clause-dead : goal.returns-clause-dead
returns-clause-dead c = side_dead_parts

pub returns-clause-mounted : goal.returns-clause-mounted
returns-clause-mounted c = λ i. written_of (with_parts (side_live_parts i) (seen_of side (first_held side) unmoved) nothing_mounted) (outside 2)

pub returns-clause-gone : goal.returns-clause-gone
returns-clause-gone c = λ i. written_of (with_parts (side_dead_parts i) (seen_of side side_dead unmoved) (with_parts (side_live_parts i) (seen_of side (first_held side) unmoved) nothing_mounted)) (outside 2)

plain_page : page_of side side_dead ≡ codes "<b>end</b>"
unfolding write_item item_bytes item_keyed
plain_page = simp computes

pub returns-clause-page : goal.returns-clause-page
returns-clause-page c = held_written side side_dead (seen_of side side_dead unmoved) (mounted_by side (seen_of side (first_held side) unmoved ∷ [])) (record { texts = refl; value = λ p. refl; keys = λ id store. refl; live = λ owner. refl }) ∙ plain_page
