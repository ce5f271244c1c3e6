use Rattle.component_meaning.proofs.KeptShapes as kept
use Rattle.component_meaning.proofs.kept.stores_and_resources_have_their_shape.Goals as goal

pub returns : goal.returns
returns c = kept.stores_and_resources_have_their_shape
