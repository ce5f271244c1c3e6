use Rattle.plain_evaluation.proofs.Most.{first_stores_fit}
use Rattle.plain_evaluation.proofs.laws.first_stores_fit.Goals as goal

pub returns : goal.returns
returns c = first_stores_fit
