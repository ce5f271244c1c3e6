use Rattle.component_items.specs.Ids.{item_owners}
use Rattle.plain_evaluation.specs.Held.{item_first}
use Rattle.plain_evaluation.specs.Keyed.{item_keyed}
use Rattle.plain_evaluation.specs.Written.{write_item}
use Rattle.plan_meaning.specs.Owners.{item_owning}
use Rattle.plan_meaning.proofs.Computes.{lays_out}
use Rattle.plan_meaning.proofs.worked.rows_that_go_over.Goals as goal

pub returns-clause-fewer : goal.returns-clause-fewer
unfolding item_first write_item item_owners item_keyed item_owning
returns-clause-fewer c = simp lays_out

pub returns-clause-more : goal.returns-clause-more
unfolding item_first write_item item_owners item_keyed item_owning
returns-clause-more c = simp lays_out

pub returns-clause-nowhere : goal.returns-clause-nowhere
unfolding item_first write_item item_owners item_keyed item_owning
returns-clause-nowhere c = simp lays_out
