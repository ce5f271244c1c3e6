use Rattle.plan_meaning.proofs.Evaluates.{row_evaluates, rows_evaluate}
use Rattle.plan_meaning.proofs.laws.rows_evaluate_as_their_places.Goals as goal

pub returns-clause-each : goal.returns-clause-each
returns-clause-each c = row_evaluates

pub returns-clause-all : goal.returns-clause-all
returns-clause-all c = rows_evaluate
