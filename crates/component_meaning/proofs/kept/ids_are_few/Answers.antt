use Rattle.component_meaning.proofs.KeptFew as kept
use Rattle.component_meaning.proofs.kept.ids_are_few.Goals as goal

pub returns : goal.returns
returns c = kept.ids_are_few
