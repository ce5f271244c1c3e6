use Rattle.run_history.proofs.Steps.{goes_on}
use Rattle.run_history.proofs.laws.steps_go_on.Goals as goal

pub returns : goal.returns
returns c s g first h second k a b none = goes_on s g first h second k a b none
