use Rattle.text_grammar.proofs.ComponentRight.{is_right, closed_is_right}
use Rattle.text_grammar.proofs.laws.component_reads_by_one_token.Goals as goal

pub returns-clause-right : goal.returns-clause-right
returns-clause-right c = is_right

pub returns-clause-closed_right : goal.returns-clause-closed_right
returns-clause-closed_right c = closed_is_right
