use Rattle.part_meaning.proofs.Once as once
use Rattle.part_meaning.proofs.laws.never_both.Goals as goal

pub returns : goal.returns
returns g c l d bytes last why p q = once.never_both l d bytes last why p q
