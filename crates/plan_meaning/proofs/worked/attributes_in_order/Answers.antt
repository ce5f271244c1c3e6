use Rattle.component_items.specs.Ids.{item_owners}
use Rattle.plain_evaluation.specs.Held.{item_first}
use Rattle.plain_evaluation.specs.Keyed.{item_keyed}
use Rattle.plain_evaluation.specs.Written.{write_item}
use Rattle.plan_meaning.specs.Owners.{item_owning}
use Rattle.plan_meaning.proofs.Computes.{lays_out}
use Rattle.plan_meaning.proofs.worked.attributes_in_order.Goals as goal

pub returns-clause-places : goal.returns-clause-places
unfolding item_first write_item item_owners item_keyed item_owning
returns-clause-places c = simp lays_out

pub returns-clause-nodes : goal.returns-clause-nodes
unfolding item_first write_item item_owners item_keyed item_owning
returns-clause-nodes c = simp lays_out
