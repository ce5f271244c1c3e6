use Rattle.component_meaning.proofs.KeptPlaces as kept
use Rattle.component_meaning.proofs.kept.items_stand_where_they_may.Goals as goal

pub returns : goal.returns
returns c = kept.items_stand_where_they_may
