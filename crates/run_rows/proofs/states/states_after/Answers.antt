use Rattle.component_items.specs.Ids.{item_owners}
use Rattle.plain_evaluation.specs.Held.{item_first}
use Rattle.plain_evaluation.specs.Killed.{item_ids_going, item_owners_going}
use Rattle.plain_evaluation.proofs.Computes.{computes}
use Rattle.run_rows.proofs.states.states_after.Goals as goal

pub returns-clause-disposed : goal.returns-clause-disposed
unfolding item_first item_owners item_ids_going item_owners_going
returns-clause-disposed c = simp computes

pub returns-clause-arrived : goal.returns-clause-arrived
unfolding item_first item_owners
returns-clause-arrived c = simp computes
