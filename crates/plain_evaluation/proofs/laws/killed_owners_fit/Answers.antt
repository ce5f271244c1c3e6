use Rattle.plain_evaluation.proofs.Nesting.{killed_owners_fit}
use Rattle.plain_evaluation.proofs.laws.killed_owners_fit.Goals as goal

pub returns : goal.returns
returns c = killed_owners_fit
