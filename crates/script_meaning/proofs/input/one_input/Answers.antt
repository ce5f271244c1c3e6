use Rattle.script_meaning.proofs.InputDecided as decided
use Rattle.script_meaning.proofs.input.one_input.Goals as goal

pub returns-clause-component : goal.returns-clause-component
returns-clause-component c = decided.one_component

pub returns-clause-script : goal.returns-clause-script
returns-clause-script c = decided.one_script

pub returns-clause-texts : goal.returns-clause-texts
returns-clause-texts c = decided.one_table
