use Rattle.std.proofs.Common.{◌≡◌, List, ℕ, [], ◌∷◌, ◌++◌, codes, ap, sym}
use Rattle.std.specs.Fmt.{digits}
use Rattle.component_items.specs.Around.{item_listed}
use Rattle.component_items.specs.Ids.{item_owners}
use Rattle.plain_evaluation.specs.Held.{item_first}
use Rattle.plain_evaluation.specs.Keyed.{item_keyed}
use Rattle.plain_evaluation.specs.Page.{item_bytes, page_of}
use Rattle.plain_evaluation.specs.Rows.{side, side_dead}
use Rattle.plain_evaluation.specs.Scratch.{pending}
use Rattle.plain_evaluation.specs.Written.{write_item}
use Rattle.plain_evaluation.proofs.Computes.{computes}
use Rattle.run_meaning.specs.Report.{report}
use Rattle.run_rows.specs.Rows.{area}
use Rattle.run_rows.proofs.states.endings.Goals as goal

pub returns-clause-path : goal.returns-clause-path
unfolding item_listed
returns-clause-path c = simp computes

pub returns-clause-line : goal.returns-clause-line
unfolding item_listed
returns-clause-line c = simp computes

pub returns-clause-waits : goal.returns-clause-waits
unfolding item_listed item_first item_owners write_item item_keyed
returns-clause-waits c = record { some_pending = λ e. cc; loads_are = simp computes; text_is = simp computes }

page_dead : page_of side side_dead ≡ codes "<b>end</b>"
unfolding write_item item_bytes item_owners item_keyed
page_dead = simp computes

none_pending : pending side side_dead ≡ []
unfolding write_item item_owners item_keyed
none_pending = simp computes

pub returns-clause-asked : goal.returns-clause-asked
unfolding digits
returns-clause-asked c = record { none_pending = none_pending; text_is = ap (λ (bytes : List ℕ). report side.texts (area ∷ []) ++ bytes) (sym page_dead) }

pub returns-clause-not_asked : goal.returns-clause-not_asked
returns-clause-not_asked c = record { none_pending = none_pending; text_is = sym page_dead }

pub returns-clause-refusals : goal.returns-clause-refusals
unfolding item_first item_owners write_item item_keyed
returns-clause-refusals c = simp computes
