use Rattle.run_weave.proofs.Verdicts.{lanes_told}
use Rattle.run_weave.proofs.laws.told_lanes_make_the_same_calls.Goals as goal

pub returns : goal.returns
returns c verdicts o calls lanes speak = lanes_told verdicts o calls lanes speak
