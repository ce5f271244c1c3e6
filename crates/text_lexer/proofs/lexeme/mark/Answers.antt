use Rattle.std.proofs.Common.{arith}
use Rattle.text_lexer.proofs.Lexemes.{single_token, no_mark}
use Rattle.text_lexer.proofs.lexeme.mark.Goals as goal
use Rattle.text_lexer.proofs.lexeme.mark.Goals.{in_default, in-len2-up+in_default-pair}

pub returns-in_default-single-clause-none : goal.returns-in_default-single-clause-none
returns-in_default-single-clause-none c =
    no_mark c.args.rest.now (record { no_letter = c.requires.no_letter; no_digit = c.requires.no_digit; no_quote = c.requires.not_quoted }) c.requires.some
    (elim c.if-rest-lt2.branch [
      | in_default w ↦ λ two m e. absurd (omega (arith, w.in_default, two))
      | in-len2-up+in_default-pair w ↦ λ two m e. w.in_default-pair.ensures.none m e
    ])
    c.in_default-single.ensures.none

pub returns-clause-found : goal.returns-clause-found
returns-clause-found c =
    single_token c.args.rest.now c.in-Some-single.mark (record { no_letter = c.requires.no_letter; no_digit = c.requires.no_digit; no_quote = c.requires.not_quoted }) c.requires.some
    (elim c.if-rest-lt2.branch [
      | in_default w ↦ λ two m e. absurd (omega (arith, w.in_default, two))
      | in-len2-up+in_default-pair w ↦ λ two m e. w.in_default-pair.ensures.none m e
    ])
    c.in-Some-single.ensures.found
