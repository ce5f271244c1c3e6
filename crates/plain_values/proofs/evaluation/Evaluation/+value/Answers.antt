use Rattle.std.proofs.Common.{arith}
use Rattle.values.proofs.Evaluation.{value_of-Lit, value_of-Read, value_of-Binary, value_of-If}
use Rattle.plain_values.proofs.evaluation.Evaluation.+value.Goals as goal

pub returns-in-Lit : goal.returns-in-Lit
returns-in-Lit t c = grind (arith, value_of-Lit)

pub returns-in-Read : goal.returns-in-Read
returns-in-Read t c = grind (arith, value_of-Read)

pub returns-in-Binary : goal.returns-in-Binary
returns-in-Binary t c = grind (arith, value_of-Binary)

pub returns-then-truth : goal.returns-then-truth
returns-then-truth t c = grind (arith, value_of-If)

pub returns-else-truth : goal.returns-else-truth
returns-else-truth t c = grind (arith, value_of-If)
