use Rattle.text_grammar.proofs.Ends as ends
use Rattle.text_grammar.proofs.laws.script_ends.Goals as goal

pub returns-clause-down : goal.returns-clause-down
returns-clause-down c = ends.script_down

pub returns-clause-end : goal.returns-clause-end
returns-clause-end c = ends.script_end

pub returns-clause-bad : goal.returns-clause-bad
returns-clause-bad c = ends.script_bad
