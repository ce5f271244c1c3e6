use Rattle.component_meaning.proofs.KeptUses as kept
use Rattle.component_meaning.proofs.kept.names_are_of_what_is_seen.Goals as goal

pub returns : goal.returns
returns c = kept.names_are_of_what_is_seen
