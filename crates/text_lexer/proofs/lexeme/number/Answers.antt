use Rattle.std.proofs.Common.{arith}
use Rattle.text_lexer.proofs.Lexemes.{number_token, no_leading_zero}
use Rattle.text_lexer.proofs.lexeme.number.Goals as goal
use Rattle.text_lexer.proofs.lexeme.number.Goals.{else-n-gt1-via-then-n-gt1+else-starts_with_zero, else-n-gt1-via-else-n-gt1}

pub returns-then-starts_with_zero-clause-none : goal.returns-then-starts_with_zero-clause-none
returns-then-starts_with_zero-clause-none c =
    no_leading_zero c.args.rest.now c.digits-n.result c.requires.some c.requires.digit c.digits-n.ensures c.if-n-gt1.true c.if-starts_with_zero.true

pub returns-clause-found : goal.returns-clause-found
returns-clause-found c =
    number_token c.args.rest.now c.digits-n.result c.requires.some c.requires.digit c.digits-n.ensures
    (elim c.else-n-gt1.branch [
      | else-n-gt1-via-then-n-gt1+else-starts_with_zero w ↦ λ _ zero. w.if-starts_with_zero.false zero
      | else-n-gt1-via-else-n-gt1 w ↦ λ two _. absurd (omega (arith, w.if-n-gt1.false, two))
    ])
