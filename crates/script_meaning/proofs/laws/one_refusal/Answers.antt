use Rattle.script_meaning.proofs.Decided as decided
use Rattle.script_meaning.proofs.laws.one_refusal.Goals as goal

pub returns : goal.returns
returns c = decided.one_refusal
