use Rattle.script_meaning.proofs.KeptAll as kept
use Rattle.script_meaning.proofs.laws.scripts_are_kept.Goals as goal

pub returns : goal.returns
returns c = kept.scripts_are_kept
