use Rattle.std.proofs.Common.{sym, ap, ◌∙◌}
use Rattle.component_meaning.specs.State.{State}
use Rattle.component_tags.specs.Spelled.{settled}
use Rattle.component_tags.proofs.Whole.{outcome, accepts_outcome, continued}
use Rattle.component_tags.proofs.tags.accept_part.Goals as goal

pub returns : goal.returns
returns c =
    let whole = continued c.args.lexer.now.text c.args.draft.now c.args.token c.args.next c.args.terminal c.requires.continues in
    accepts_outcome _ _ _ _
    (whole ∙ ap (λ (a : State). outcome (settled c.args.lexer.now.text c.args.terminal c.args.next a) a) (sym c.in_ok-extend_name.ensures))
    c.settle_name.ensures.ok
    c.settle_name.ensures.refused
