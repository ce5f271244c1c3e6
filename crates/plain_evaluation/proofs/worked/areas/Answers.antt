use Rattle.component_items.specs.Ids.{item_owners}
use Rattle.plain_evaluation.specs.Held.{item_first}
use Rattle.plain_evaluation.specs.Keyed.{item_keyed}
use Rattle.plain_evaluation.specs.Page.{item_bytes}
use Rattle.plain_evaluation.specs.Written.{write_item}
use Rattle.plain_evaluation.proofs.Computes.{computes}
use Rattle.plain_evaluation.proofs.worked.areas.Goals as goal

pub returns-clause-live : goal.returns-clause-live
unfolding item_first write_item item_bytes item_owners item_keyed
returns-clause-live c = simp computes

pub returns-clause-dead : goal.returns-clause-dead
unfolding item_first write_item item_bytes item_owners item_keyed
returns-clause-dead c = simp computes

pub returns-clause-no_places : goal.returns-clause-no_places
unfolding item_first write_item item_bytes item_owners item_keyed
returns-clause-no_places c = simp computes

pub returns-clause-both_live : goal.returns-clause-both_live
unfolding item_first write_item item_bytes item_owners item_keyed
returns-clause-both_live c = simp computes

pub returns-clause-inner_dead : goal.returns-clause-inner_dead
unfolding item_first write_item item_bytes item_owners item_keyed
returns-clause-inner_dead c = simp computes

pub returns-clause-inner_has_no_places : goal.returns-clause-inner_has_no_places
unfolding item_first write_item item_bytes item_owners item_keyed
returns-clause-inner_has_no_places c = simp computes
