use Rattle.run_history.proofs.Steps.{nothing_goes, one_goes, draws_more}
use Rattle.run_history.proofs.laws.single_steps_go.Goals as goal

pub returns-clause-nothing : goal.returns-clause-nothing
returns-clause-nothing c s g = nothing_goes s g

pub returns-clause-one : goal.returns-clause-one
returns-clause-one c s g f room plan differs fits = one_goes s g f room plan differs fits

pub returns-clause-none : goal.returns-clause-none
returns-clause-none c s g full = draws_more s g full
