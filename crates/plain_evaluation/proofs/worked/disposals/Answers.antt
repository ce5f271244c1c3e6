use Rattle.component_items.specs.Ids.{item_owners}
use Rattle.plain_evaluation.specs.Held.{item_first}
use Rattle.plain_evaluation.specs.Killed.{item_ids_going, item_owners_going}
use Rattle.plain_evaluation.proofs.Computes.{computes}
use Rattle.plain_evaluation.proofs.worked.disposals.Goals as goal

pub returns-clause-inner : goal.returns-clause-inner
unfolding item_first item_owners item_ids_going item_owners_going
returns-clause-inner c = simp computes

pub returns-clause-again : goal.returns-clause-again
unfolding item_first item_owners item_ids_going item_owners_going
returns-clause-again c = simp computes

pub returns-clause-outer : goal.returns-clause-outer
unfolding item_first item_owners item_ids_going item_owners_going
returns-clause-outer c = simp computes

pub returns-clause-outer_later : goal.returns-clause-outer_later
unfolding item_first item_owners item_ids_going item_owners_going
returns-clause-outer_later c = simp computes

pub returns-clause-top : goal.returns-clause-top
unfolding item_first item_owners item_ids_going item_owners_going
returns-clause-top c = simp computes

pub returns-clause-store : goal.returns-clause-store
unfolding item_first item_owners item_ids_going item_owners_going
returns-clause-store c = simp computes
