use Rattle.plain_evaluation.proofs.Origins.{have_origins}
use Rattle.plain_evaluation.proofs.laws.places_have_origins.Goals as goal

pub returns : goal.returns
returns c = have_origins
