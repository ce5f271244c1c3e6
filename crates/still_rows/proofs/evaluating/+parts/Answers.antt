use Rattle.std.proofs.Common.{rules, arith, length, ap}
use Rattle.values.specs.declared.expr.Expr.{Expr}
use Rattle.values.specs.Plan.{rows_in}
use Rattle.still_readers.proofs.BuildingLemmas.{weight_left, weight_right, weight_test, weight_first, weight_second}
use Rattle.still_rows.proofs.EvaluatingLemmas.{room_left, room_right, room_test, room_first, room_second}
use Rattle.values.proofs.AttemptLemmas.{tried_of-Lit, tried_of-Read, tried_of-Binary, tried_of-If}
use Rattle.still_rows.proofs.EvaluatingLemmas.{known_shown, noted-Lit, noted-Read, noted-Binary, noted-If}
use Rattle.still_rows.proofs.evaluating.+parts.Goals as goal

pub evaluate-operand-requires : goal.evaluate-operand-requires
evaluate-operand-requires t c = let w = weight_left _ _ _ _ _ c.in-Binary.is c.get.ensures in (search (w, rules), (room_left _ _ _ _ _ _ c.in-Binary.is c.get.ensures c.requires.room, (c.requires.are_packed, c.requires.fresh)))

pub evaluate-operand-requires-in-Binary : goal.evaluate-operand-requires-in-Binary
evaluate-operand-requires-in-Binary t c = let w = weight_right _ _ _ _ _ c.in-Binary.is c.get-in-Binary.ensures in (search (w, rules), (room_right _ _ _ _ _ _ _ c.in-Binary.is c.get-in-Binary.ensures c.requires.room (let s = c.operand.ensures.spare in let g = ap (λ (q : Expr). length (rows_in q)) c.get.ensures in omega arith), (c.requires.are_packed, c.operand.ensures.fresh)))

pub evaluate-operand-requires-in-If : goal.evaluate-operand-requires-in-If
evaluate-operand-requires-in-If t c = let w = weight_test _ _ _ _ _ c.in-If.is c.get-in-If.ensures in (search (w, rules), (room_test _ _ _ _ _ _ c.in-If.is c.get-in-If.ensures c.requires.room, (c.requires.are_packed, c.requires.fresh)))

pub evaluate-operand-requires-then-truth : goal.evaluate-operand-requires-then-truth
evaluate-operand-requires-then-truth t c = let w = weight_first _ _ _ _ _ c.in-If.is c.get-then-truth.ensures in (search (w, rules), (room_first _ _ _ _ _ _ _ c.in-If.is c.get-then-truth.ensures c.requires.room (let s = c.operand-in-If.ensures.spare in let g = ap (λ (q : Expr). length (rows_in q)) c.get-in-If.ensures in omega arith), (c.requires.are_packed, c.operand-in-If.ensures.fresh)))

pub evaluate-operand-requires-else-truth : goal.evaluate-operand-requires-else-truth
evaluate-operand-requires-else-truth t c = let w = weight_second _ _ _ _ _ c.in-If.is c.get-else-truth.ensures in (search (w, rules), (room_second _ _ _ _ _ _ _ c.in-If.is c.get-else-truth.ensures c.requires.room (let s = c.operand-in-If.ensures.spare in let g = ap (λ (q : Expr). length (rows_in q)) c.get-in-If.ensures in omega arith), (c.requires.are_packed, c.operand-in-If.ensures.fresh)))

pub evaluate-returns-in_err-left-in-Binary-clause-value : goal.evaluate-returns-in_err-left-in-Binary-clause-value
evaluate-returns-in_err-left-in-Binary-clause-value t c = λ values agrees. let e = c.operand.ensures.value values agrees in grind (arith, tried_of-Binary, e)

pub evaluate-returns-in_err-right-in-Binary-clause-value : goal.evaluate-returns-in_err-right-in-Binary-clause-value
evaluate-returns-in_err-right-in-Binary-clause-value t c = λ values agrees. let e = (c.in_ok-left-in-Binary.ensures.value values agrees).0 in let f = c.operand-in-Binary.ensures.value values agrees in grind (arith, tried_of-Binary, e, f)

pub evaluate-returns-in_err-test-in-If-clause-value : goal.evaluate-returns-in_err-test-in-If-clause-value
evaluate-returns-in_err-test-in-If-clause-value t c = λ values agrees. let e = c.operand-in-If.ensures.value values agrees in grind (arith, tried_of-If, e)

pub evaluate-returns-in-Lit-clause-value : goal.evaluate-returns-in-Lit-clause-value
evaluate-returns-in-Lit-clause-value t c = λ values agrees. grind (arith, tried_of-Lit, noted-Lit)

pub evaluate-returns-in-Read-clause-value : goal.evaluate-returns-in-Read-clause-value
evaluate-returns-in-Read-clause-value t c = λ values agrees. let e = tried_of-Read c.in-Read.row _ values agrees in let k = known_shown c.args.rows.now c.in-Read.row in let v = c.read_row.ensures.value in let n = noted-Read c.in-Read.row values in grind (arith, e, k, v, n)

pub evaluate-returns-in_ok-right-in-Binary-clause-value : goal.evaluate-returns-in_ok-right-in-Binary-clause-value
evaluate-returns-in_ok-right-in-Binary-clause-value t c = λ values agrees. let e = c.in_ok-left-in-Binary.ensures.value values agrees in let f = c.in_ok-right-in-Binary.ensures.value values agrees in let e0 = e.0 in let e1 = e.1 in let f0 = f.0 in let f1 = f.1 in
    (grind (arith, tried_of-Binary, e0, f0), grind (arith, noted-Binary, e1, f1))

pub evaluate-returns-then-truth-clause-value : goal.evaluate-returns-then-truth-clause-value
evaluate-returns-then-truth-clause-value t c = λ values agrees. let e = c.in_ok-test-in-If.ensures.value values agrees in let f = c.operand-then-truth.ensures.value values agrees in let e0 = e.0 in let e1 = e.1 in grind (arith, tried_of-If, noted-If, e0, e1, f)

pub evaluate-returns-else-truth-clause-value : goal.evaluate-returns-else-truth-clause-value
evaluate-returns-else-truth-clause-value t c = λ values agrees. let e = c.in_ok-test-in-If.ensures.value values agrees in let f = c.operand-else-truth.ensures.value values agrees in let e0 = e.0 in let e1 = e.1 in grind (arith, tried_of-If, noted-If, e0, e1, f)

pub operand-returns-in-Lit-clause-value : goal.operand-returns-in-Lit-clause-value
operand-returns-in-Lit-clause-value t c = λ values agrees. grind (arith, tried_of-Lit, noted-Lit)

pub operand-returns-in-Read-clause-value : goal.operand-returns-in-Read-clause-value
operand-returns-in-Read-clause-value t c = λ values agrees. let e = tried_of-Read c.in-Read.row _ values agrees in let k = known_shown c.args.rows.now c.in-Read.row in let v = c.read_row.ensures.value in let n = noted-Read c.in-Read.row values in grind (arith, e, k, v, n)
