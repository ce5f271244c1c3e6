use Rattle.text_grammar.proofs.ScriptRight.{is_right}
use Rattle.text_grammar.proofs.laws.script_reads_by_one_token.Goals as goal

pub returns-clause-right : goal.returns-clause-right
returns-clause-right c = is_right
