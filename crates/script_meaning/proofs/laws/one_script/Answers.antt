use Rattle.script_meaning.proofs.Decided as decided
use Rattle.script_meaning.proofs.laws.one_script.Goals as goal

pub returns-clause-script : goal.returns-clause-script
returns-clause-script c = decided.one_script

pub returns-clause-texts : goal.returns-clause-texts
returns-clause-texts c = decided.one_table
