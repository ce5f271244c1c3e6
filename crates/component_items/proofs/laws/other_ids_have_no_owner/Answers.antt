use Rattle.component_items.specs.Around.{top}
use Rattle.component_items.proofs.IdsLemmas.{listed_exactly}
use Rattle.component_items.proofs.laws.other_ids_have_no_owner.Goals as goal

pub returns-clause-owner : goal.returns-clause-owner
returns-clause-owner c = λ component id. listed_exactly (λ l. l.owner) component.items top id

pub returns-clause-path : goal.returns-clause-path
returns-clause-path c = λ component id. listed_exactly (λ l. l.path) component.items top id
