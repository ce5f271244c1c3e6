use Rattle.std.proofs.Common.{ℕ, suc, ◌+◌, List, [], ◌∷◌, ◌++◌, take, Option, ap, ◌∙◌, arith}
use Rattle.plan_meaning.specs.Carried as spec
use Rattle.row_carrying.proofs.Over.{take_more}
use Rattle.row_carrying.proofs.targets.rows_to.Goals as goal

pub loop-row-preserved : goal.loop-row-preserved
loop-row-preserved c =
    let all = spec.rows_to c.args.old.now c.args.new.now in
    c.in_ok-push.ensures.items ∙ ap (λ (xs : List (Option ℕ)). xs ++ c.target-later.result ∷ []) c.loop-row.invariant
    ∙ take_more all c.loop-row.row c.target-later.result c.target-later.ensures
    ∙ ap (λ k. take k all) {x = suc c.loop-row.row} {y = c.loop-row.row + 1} (omega arith)
