use Rattle.part_meaning.proofs.Once as once
use Rattle.part_meaning.proofs.laws.one_refusal.Goals as goal

pub returns : goal.returns
returns g c l d bytes a b p q = once.one_refusal l d bytes a b p q
