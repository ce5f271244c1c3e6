use Rattle.script_meaning.proofs.Either as either
use Rattle.script_meaning.proofs.laws.one_of_both.Goals as goal

pub returns : goal.returns
returns c = either.one_of_both
