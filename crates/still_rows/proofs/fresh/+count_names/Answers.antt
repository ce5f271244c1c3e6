use Rattle.std.proofs.Common.{◌≡◌, ◌+◌, ◌∙◌, ℕ, rules, arith, ap, sym, length}
use Rattle.values.specs.declared.expr.Expr.{Expr}
use Rattle.values.specs.Plan.{rows_in}
use Rattle.values.proofs.PlanLemmas.{rows_in-Lit}
use Rattle.still_readers.proofs.BuildingLemmas.{weight_left, weight_right, weight_test, weight_first, weight_second}
use Rattle.still_rows.proofs.EvaluatingLemmas.{fits_read, fits_binary, fits_if}
use Rattle.still_rows.proofs.FreshLemmas.{some_as}
use Rattle.still_rows.proofs.fresh.+count_names.Goals as goal

abbrev size : Expr → ℕ
size e = length (rows_in e)

pub count_names-requires : goal.count_names-requires
count_names-requires t c = let w = weight_left _ _ _ _ _ c.in-Binary.is c.get.ensures in (search (w, rules), tt)

pub count_names-requires-in-Binary : goal.count_names-requires-in-Binary
count_names-requires-in-Binary t c = let w = weight_right _ _ _ _ _ c.in-Binary.is c.get-in-Binary.ensures in (search (w, rules), tt)

pub count_names-requires-in-If : goal.count_names-requires-in-If
count_names-requires-in-If t c = let w = weight_test _ _ _ _ _ c.in-If.is c.get-in-If.ensures in (search (w, rules), tt)

pub count_names-requires-in-If-2 : goal.count_names-requires-in-If-2
count_names-requires-in-If-2 t c = let w = weight_first _ _ _ _ _ c.in-If.is c.get-in-If-2.ensures in (search (w, rules), tt)

pub count_names-requires-in-If-3 : goal.count_names-requires-in-If-3
count_names-requires-in-If-3 t c = let w = weight_second _ _ _ _ _ c.in-If.is c.get-in-If-3.ensures in (search (w, rules), tt)

pub returns-in-Lit : goal.returns-in-Lit
returns-in-Lit t c = sym (ap size c.in-Lit.is ∙ ap length (rows_in-Lit _))

pub returns-in-Read : goal.returns-in-Read
returns-in-Read t c = sym (ap size c.in-Read.is ∙ fits_read _)

pub returns-in_ok-right-in-Binary : goal.returns-in_ok-right-in-Binary
returns-in_ok-right-in-Binary t c =
    let f = ap size c.in-Binary.is ∙ fits_binary _ _ _ in
    let g = ap size c.get.ensures in let h = ap size c.get-in-Binary.ensures in
    let a = c.in_ok-left-in-Binary.ensures in let b = c.in_ok-right-in-Binary.ensures in
    some_as c.sum.result (λ n. n ≡ c.in_ok-left-in-Binary.left + c.in_ok-right-in-Binary.right) (λ n. n ≡ length (rows_in c.args.expr.now)) (λ n e. omega arith) c.sum.ensures

pub returns-in_ok-both-in-If : goal.returns-in_ok-both-in-If
returns-in_ok-both-in-If t c =
    let f = ap size c.in-If.is ∙ fits_if _ _ _ in
    let g = ap size c.get-in-If.ensures in let h = ap size c.get-in-If-2.ensures in let k = ap size c.get-in-If-3.ensures in
    let a = c.in_ok-test-in-If.ensures in let b = c.in_ok-first-in-If.ensures in let d = c.in_ok-second-in-If.ensures in let s = c.in_ok-both-in-If.ensures in
    some_as c.sum-in-If-2.result (λ n. n ≡ c.in_ok-both-in-If.both + c.in_ok-second-in-If.second) (λ n. n ≡ length (rows_in c.args.expr.now)) (λ n e. omega arith) c.sum-in-If-2.ensures
