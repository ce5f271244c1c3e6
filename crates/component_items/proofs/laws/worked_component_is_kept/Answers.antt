use Rattle.component_items.proofs.WorkedKept.{worked}
use Rattle.component_items.proofs.laws.worked_component_is_kept.Goals as goal

pub returns : goal.returns
returns c = worked
