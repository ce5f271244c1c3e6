use Rattle.script_meaning.proofs.KeptFew as few
use Rattle.script_meaning.proofs.laws.scripts_are_short.Goals as goal

pub returns : goal.returns
returns c = few.scripts_are_short
