use Rattle.component_items.specs.Ids.{item_owners}
use Rattle.plain_evaluation.specs.Held.{item_first}
use Rattle.plain_evaluation.specs.Keyed.{item_keyed}
use Rattle.plain_evaluation.specs.Page.{item_bytes}
use Rattle.plain_evaluation.specs.Written.{write_item}
use Rattle.plain_evaluation.proofs.Computes.{computes}
use Rattle.plain_evaluation.proofs.worked.loads.Goals as goal

pub returns-clause-first : goal.returns-clause-first
unfolding item_first write_item item_bytes item_owners item_keyed
returns-clause-first c = simp computes

pub returns-clause-first_page : goal.returns-clause-first_page
unfolding item_first write_item item_bytes item_owners item_keyed
returns-clause-first_page c = simp computes

pub returns-clause-arrived : goal.returns-clause-arrived
unfolding item_first write_item item_bytes item_owners item_keyed
returns-clause-arrived c = simp computes

pub returns-clause-arrived_page : goal.returns-clause-arrived_page
unfolding item_first write_item item_bytes item_owners item_keyed
returns-clause-arrived_page c = simp computes

pub returns-clause-another : goal.returns-clause-another
unfolding item_first write_item item_bytes item_owners item_keyed
returns-clause-another c = simp computes

pub returns-clause-another_page : goal.returns-clause-another_page
unfolding item_first write_item item_bytes item_owners item_keyed
returns-clause-another_page c = simp computes

pub returns-clause-unknown : goal.returns-clause-unknown
unfolding item_first write_item item_bytes item_owners item_keyed
returns-clause-unknown c = simp computes

pub returns-clause-unknown_page : goal.returns-clause-unknown_page
unfolding item_first write_item item_bytes item_owners item_keyed
returns-clause-unknown_page c = simp computes

pub returns-clause-chain : goal.returns-clause-chain
unfolding item_first write_item item_bytes item_owners item_keyed
returns-clause-chain c = simp computes

pub returns-clause-second : goal.returns-clause-second
unfolding item_first write_item item_bytes item_owners item_keyed
returns-clause-second c = simp computes
