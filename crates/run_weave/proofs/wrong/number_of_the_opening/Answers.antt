use Rattle.run_weave.proofs.Refused.{misnumbered}
use Rattle.run_weave.proofs.wrong.number_of_the_opening.Goals as goal

pub returns : goal.returns
returns c = misnumbered
