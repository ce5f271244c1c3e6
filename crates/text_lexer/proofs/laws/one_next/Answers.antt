use Rattle.text_lexer.proofs.Unique.{one_next_token, never_both}
use Rattle.text_lexer.proofs.Total.{some_next}
use Rattle.text_lexer.proofs.laws.one_next.Goals as goal

pub returns-clause-one_token : goal.returns-clause-one_token
returns-clause-one_token c = one_next_token

pub returns-clause-never_both : goal.returns-clause-never_both
returns-clause-never_both c = never_both

pub returns-clause-never_neither : goal.returns-clause-never_neither
returns-clause-never_neither c = some_next
