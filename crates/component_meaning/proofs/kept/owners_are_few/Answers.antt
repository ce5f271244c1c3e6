use Rattle.component_meaning.proofs.KeptOwners as kept
use Rattle.component_meaning.proofs.kept.owners_are_few.Goals as goal

pub returns : goal.returns
returns c = kept.owners_are_few
