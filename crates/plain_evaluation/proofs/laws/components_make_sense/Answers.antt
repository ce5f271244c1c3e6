use Rattle.plain_evaluation.proofs.Makes.{makes_sense}
use Rattle.plain_evaluation.proofs.laws.components_make_sense.Goals as goal

pub returns : goal.returns
returns c = makes_sense
