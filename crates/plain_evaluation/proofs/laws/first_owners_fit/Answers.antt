use Rattle.plain_evaluation.specs.Held.{first_held}
use Rattle.plain_evaluation.proofs.Begins.{first_begins}
use Rattle.plain_evaluation.proofs.Nesting.{begun_owners_fit}
use Rattle.plain_evaluation.proofs.laws.first_owners_fit.Goals as goal

pub returns : goal.returns
returns c = λ component kept. begun_owners_fit component (first_held component) (first_begins component kept)
