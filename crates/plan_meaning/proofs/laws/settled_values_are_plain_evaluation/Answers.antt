use Rattle.plan_meaning.proofs.Settled.{settled_row, settled_expr, evaluation_settles}
use Rattle.plan_meaning.proofs.laws.settled_values_are_plain_evaluation.Goals as goal

pub returns-clause-rows : goal.returns-clause-rows
returns-clause-rows c = settled_row

pub returns-clause-expressions : goal.returns-clause-expressions
returns-clause-expressions c = settled_expr

pub returns-clause-settled : goal.returns-clause-settled
returns-clause-settled c = evaluation_settles
