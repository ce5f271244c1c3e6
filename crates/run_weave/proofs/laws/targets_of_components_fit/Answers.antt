use Rattle.run_weave.proofs.Opens.{targets_fit}
use Rattle.run_weave.proofs.laws.targets_of_components_fit.Goals as goal

pub returns : goal.returns
returns c component held kept fits = targets_fit component held kept fits
