use Rattle.plain_evaluation.proofs.Begins.{first_begins}
use Rattle.plain_evaluation.proofs.laws.first_state_begins.Goals as goal

pub returns : goal.returns
returns c = first_begins
