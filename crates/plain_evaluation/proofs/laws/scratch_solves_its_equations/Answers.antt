use Rattle.plain_evaluation.specs.Written.{written_in}
use Rattle.plain_evaluation.specs.Keyed.{is_keyed}
use Rattle.plain_evaluation.proofs.Makes.{makes_sense}
use Rattle.plain_evaluation.proofs.Solves.{solves}
use Rattle.plain_evaluation.proofs.laws.scratch_solves_its_equations.Goals as goal

pub returns : goal.returns
returns c = λ component state kept fits. solves (is_keyed component) (written_in component state) (makes_sense component state kept fits)
