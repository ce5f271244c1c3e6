use Rattle.run_weave.proofs.Refused.{forgotten}
use Rattle.run_weave.proofs.wrong.effect_that_never_ran.Goals as goal

pub returns : goal.returns
returns c = forgotten
