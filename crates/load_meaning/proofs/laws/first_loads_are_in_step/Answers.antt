use Rattle.load_meaning.proofs.First.{first_in_step}
use Rattle.load_meaning.proofs.laws.first_loads_are_in_step.Goals as goal

pub returns : goal.returns
returns c = first_in_step
