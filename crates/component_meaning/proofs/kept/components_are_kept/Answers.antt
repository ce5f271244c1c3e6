use Rattle.component_meaning.proofs.KeptAll as kept
use Rattle.component_meaning.proofs.kept.components_are_kept.Goals as goal

pub returns : goal.returns
returns c = kept.components_are_kept
