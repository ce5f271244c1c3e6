use Rattle.component_items.specs.Ids.{item_owners}
use Rattle.plain_evaluation.specs.Held.{item_first}
use Rattle.plain_evaluation.specs.Keyed.{item_keyed}
use Rattle.plain_evaluation.specs.Page.{item_bytes}
use Rattle.plain_evaluation.specs.Written.{write_item}
use Rattle.plain_evaluation.proofs.Computes.{computes}
use Rattle.plain_evaluation.proofs.worked.stores.Goals as goal

pub returns-clause-empty : goal.returns-clause-empty
unfolding item_first write_item item_bytes item_owners item_keyed
returns-clause-empty c = simp computes

pub returns-clause-page : goal.returns-clause-page
unfolding item_first write_item item_bytes item_owners item_keyed
returns-clause-page c = simp computes

pub returns-clause-value : goal.returns-clause-value
unfolding item_first write_item item_bytes item_owners item_keyed
returns-clause-value c = simp computes

pub returns-clause-places : goal.returns-clause-places
unfolding item_first write_item item_bytes item_owners item_keyed
returns-clause-places c = simp computes
