use Rattle.component_items.specs.Ids.{item_owners}
use Rattle.plain_evaluation.specs.Held.{item_first}
use Rattle.plain_evaluation.specs.Keyed.{item_keyed}
use Rattle.plain_evaluation.specs.Page.{item_bytes}
use Rattle.plain_evaluation.specs.Written.{write_item}
use Rattle.plain_evaluation.proofs.Computes.{computes}
use Rattle.plain_evaluation.proofs.worked.conditions.Goals as goal

pub returns-clause-hidden : goal.returns-clause-hidden
unfolding item_first write_item item_bytes item_owners item_keyed
returns-clause-hidden c = simp computes

pub returns-clause-shown : goal.returns-clause-shown
unfolding item_first write_item item_bytes item_owners item_keyed
returns-clause-shown c = simp computes

pub returns-clause-first_row : goal.returns-clause-first_row
unfolding item_first write_item item_bytes item_owners item_keyed
returns-clause-first_row c = simp computes

pub returns-clause-second_row : goal.returns-clause-second_row
unfolding item_first write_item item_bytes item_owners item_keyed
returns-clause-second_row c = simp computes
