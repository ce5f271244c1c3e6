use Rattle.values.specs.PlanValues.{values_from}
use Rattle.values.proofs.Evaluation.{value_of-Read, value_of-Binary}
use Rattle.values.proofs.laws.a_small_plan_is_evaluated.Goals as goal

pub returns : goal.returns
unfolding values_from
returns c = λ given. simp (value_of-Binary, value_of-Read)
