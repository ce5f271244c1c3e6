use Rattle.script_meaning.proofs.InputDecided as decided
use Rattle.script_meaning.proofs.input.input_never_both.Goals as goal

pub returns : goal.returns
returns c = decided.never_both
