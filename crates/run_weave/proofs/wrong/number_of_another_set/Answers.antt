use Rattle.run_weave.proofs.Refused.{renumbered}
use Rattle.run_weave.proofs.wrong.number_of_another_set.Goals as goal

pub returns : goal.returns
returns c = renumbered
