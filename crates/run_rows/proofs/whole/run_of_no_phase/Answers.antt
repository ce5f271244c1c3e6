use Rattle.std.proofs.Common.{◌≡◌, None, [], codes, refl, sym}
use Rattle.component_items.specs.Ids.{item_owners}
use Rattle.plain_evaluation.specs.Held.{Held, item_first, first_held}
use Rattle.plain_evaluation.specs.Keyed.{item_keyed}
use Rattle.plain_evaluation.specs.Page.{item_bytes, page_of}
use Rattle.plain_evaluation.specs.Rows.{side}
use Rattle.plain_evaluation.specs.Scratch.{pending}
use Rattle.plain_evaluation.specs.Written.{write_item}
use Rattle.plain_evaluation.proofs.Computes.{computes}
use Rattle.run_meaning.specs.Run.{none, held_arrived}
use Rattle.run_rows.proofs.whole.run_of_no_phase.Goals as goal

abbrev first : Held
first = held_arrived (λ load. None) (first_held side)

first_page : page_of side first ≡ codes "<i>1</i><b>end</b>"
unfolding item_first write_item item_bytes item_owners item_keyed
first_page = simp computes

none_pending : pending side first ≡ []
unfolding item_first write_item item_owners item_keyed
none_pending = simp computes

pub returns : goal.returns
returns c = (
  record { keys = λ load. None; steps = []; last = first; runs = none; script_is = refl; answers_are = refl; journal_is = refl },
  record { none_pending = none_pending; text_is = sym first_page },
)
