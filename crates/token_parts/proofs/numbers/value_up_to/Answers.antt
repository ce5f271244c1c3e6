use Rattle.token_parts.proofs.TokenKinds.{is_number-kind}
use Rattle.token_parts.proofs.numbers.value_up_to.Goals as goal

pub number-requires-clause-number : goal.number-requires-clause-number
number-requires-clause-number c = is_number-kind _ _ c.requires.number
