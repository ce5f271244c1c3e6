use Rattle.plain_evaluation.proofs.Order.{stand_before}
use Rattle.plain_evaluation.proofs.laws.reads_stand_before.Goals as goal

pub returns : goal.returns
returns c = stand_before
