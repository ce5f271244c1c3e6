use Rattle.plain_evaluation.proofs.Fitting.{rows_of_held}
use Rattle.plain_evaluation.proofs.laws.fitting_state_has_fitting_rows.Goals as goal

pub returns : goal.returns
returns c = rows_of_held
