use Rattle.plain_evaluation.specs.Held.{first_held}
use Rattle.plain_evaluation.proofs.Begins.{first_begins}
use Rattle.plain_evaluation.proofs.Fitting.{begun_state_fits}
use Rattle.plain_evaluation.proofs.laws.first_state_fits.Goals as goal

pub returns : goal.returns
returns c = λ component kept. begun_state_fits component (first_held component) (first_begins component kept)
