use Rattle.std.proofs.Common.{sym, ap, ◌∙◌}
use Rattle.component_meaning.specs.State.{State}
use Rattle.component_tags.specs.Spelled.{settled}
use Rattle.component_tags.proofs.Whole.{outcome, accepts_outcome, begun}
use Rattle.component_tags.proofs.tags.accept_name.Goals as goal

pub returns : goal.returns
returns c =
    let whole = begun c.args.lexer.now.text c.args.draft.now c.args.token c.args.next c.args.terminal c.requires.begins in
    accepts_outcome _ _ _ _
    (whole ∙ ap (λ (a : State). outcome (settled c.args.lexer.now.text c.args.terminal c.args.next a) a) (sym c.in_ok-begin_name.ensures))
    c.settle_name.ensures.ok
    c.settle_name.ensures.refused
