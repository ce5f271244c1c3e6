use Rattle.component_meaning.proofs.KeptIds as kept
use Rattle.component_meaning.proofs.kept.ids_are_numbered.Goals as goal

pub returns : goal.returns
returns c = kept.ids_are_numbered
