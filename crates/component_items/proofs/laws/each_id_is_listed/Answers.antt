use Rattle.component_items.proofs.IdsLemmas.{items_are_listed}
use Rattle.component_items.proofs.laws.each_id_is_listed.Goals as goal

pub returns : goal.returns
returns c = items_are_listed
