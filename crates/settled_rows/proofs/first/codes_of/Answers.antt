use Rattle.std.proofs.Common.{◌++◌, ◌∷◌, [], ap, ◌∙◌, arith}
use Rattle.plain_evaluation.specs.Held.{value_held}
use Rattle.plain_evaluation.specs.Place.{Place}
use Rattle.settled_rows.proofs.Begins.{codes_more}
use Rattle.settled_rows.proofs.first.codes_of.Goals as goal

pub loop-row-preserved : goal.loop-row-preserved
loop-row-preserved c =
    c.in_ok-push.ensures.items
    ∙ ap (λ codes. codes ++ c.code_at.result ∷ []) c.loop-row.invariant
    ∙ codes_more (λ (p : Place). value_held c.args.held.now.held p.id) c.args.names.now c.loop-row.row c.code_at.result (omega arith) c.code_at.ensures
