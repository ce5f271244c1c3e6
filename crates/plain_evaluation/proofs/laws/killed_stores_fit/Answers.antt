use Rattle.plain_evaluation.specs.Killed.{going_with}
use Rattle.plain_evaluation.proofs.Most.{without_stores_fit}
use Rattle.plain_evaluation.proofs.laws.killed_stores_fit.Goals as goal

pub returns : goal.returns
returns c = λ component held owner. without_stores_fit component held (going_with component owner)
