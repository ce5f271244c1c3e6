use Rattle.text_lexer.proofs.AllTokens.{all_computed, one_token_list}
use Rattle.text_lexer.proofs.Total.{next_given}
use Rattle.text_lexer.proofs.laws.tokens_compute.Goals as goal

pub returns-clause-next : goal.returns-clause-next
returns-clause-next c = next_given

pub returns-clause-all : goal.returns-clause-all
returns-clause-all c = all_computed

pub returns-clause-one : goal.returns-clause-one
returns-clause-one c = one_token_list
