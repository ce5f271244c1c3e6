use Rattle.text_grammar.proofs.Ends as ends
use Rattle.text_grammar.proofs.laws.component_ends.Goals as goal

pub returns-clause-down : goal.returns-clause-down
returns-clause-down c = ends.component_down

pub returns-clause-end : goal.returns-clause-end
returns-clause-end c = ends.component_end

pub returns-clause-bad : goal.returns-clause-bad
returns-clause-bad c = ends.component_bad
