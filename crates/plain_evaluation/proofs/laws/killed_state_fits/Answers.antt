use Rattle.plain_evaluation.specs.Killed.{going_with}
use Rattle.plain_evaluation.proofs.KilledLemmas.{without_fits}
use Rattle.plain_evaluation.proofs.laws.killed_state_fits.Goals as goal

pub returns : goal.returns
returns c = λ component held owner. without_fits component held (going_with component owner)
