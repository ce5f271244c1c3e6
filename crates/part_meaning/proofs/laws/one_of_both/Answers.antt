use Rattle.part_meaning.proofs.Either as either
use Rattle.part_meaning.proofs.laws.one_of_both.Goals as goal

pub returns : goal.returns
returns g c l d e bytes = either.one_of_both l d e bytes
