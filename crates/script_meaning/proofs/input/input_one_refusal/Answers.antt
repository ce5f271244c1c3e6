use Rattle.script_meaning.proofs.InputDecided as decided
use Rattle.script_meaning.proofs.input.input_one_refusal.Goals as goal

pub returns : goal.returns
returns c = decided.one_refusal
