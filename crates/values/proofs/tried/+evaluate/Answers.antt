use Rattle.std.proofs.Common.{arith}
use Rattle.values.proofs.AttemptLemmas.{tried_of-Lit, tried_of-Read, tried_of-Binary, tried_of-If}
use Rattle.values.proofs.tried.+evaluate.Goals as goal

pub returns-in_err-left-in-Binary : goal.returns-in_err-left-in-Binary
returns-in_err-left-in-Binary t c = λ values agrees. let e = c.evaluate.ensures values agrees in grind (arith, tried_of-Binary, e)

pub returns-in_err-right-in-Binary : goal.returns-in_err-right-in-Binary
returns-in_err-right-in-Binary t c = λ values agrees. let e = c.evaluate.ensures values agrees in let f = c.evaluate-in-Binary.ensures values agrees in grind (arith, tried_of-Binary, e, f)

pub returns-in_err-test-in-If : goal.returns-in_err-test-in-If
returns-in_err-test-in-If t c = λ values agrees. let e = c.evaluate-in-If.ensures values agrees in grind (arith, tried_of-If, e)

pub returns-in-Lit : goal.returns-in-Lit
returns-in-Lit t c = λ values agrees. grind (arith, tried_of-Lit)

pub returns-in-Read : goal.returns-in-Read
returns-in-Read t c = λ values agrees. let e = tried_of-Read c.in-Read.row c.args.known.now values agrees in grind (arith, e)

pub returns-in_ok-right-in-Binary : goal.returns-in_ok-right-in-Binary
returns-in_ok-right-in-Binary t c = λ values agrees. let e = c.evaluate.ensures values agrees in let f = c.evaluate-in-Binary.ensures values agrees in grind (arith, tried_of-Binary, e, f)

pub returns-then-truth : goal.returns-then-truth
returns-then-truth t c = λ values agrees. let e = c.evaluate-in-If.ensures values agrees in let f = c.evaluate-then-truth.ensures values agrees in grind (arith, tried_of-If, e, f)

pub returns-else-truth : goal.returns-else-truth
returns-else-truth t c = λ values agrees. let e = c.evaluate-in-If.ensures values agrees in let f = c.evaluate-else-truth.ensures values agrees in grind (arith, tried_of-If, e, f)
