use Rattle.plain_evaluation.proofs.Counts.{few_written}
use Rattle.plain_evaluation.proofs.laws.places_are_few.Goals as goal

pub returns : goal.returns
returns c = few_written
