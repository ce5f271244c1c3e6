use Rattle.script_meaning.proofs.Decided as decided
use Rattle.script_meaning.proofs.laws.never_both.Goals as goal

pub returns : goal.returns
returns c = decided.never_both
