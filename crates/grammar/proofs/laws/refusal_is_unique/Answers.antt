use Rattle.grammar.proofs.Once as once
use Rattle.grammar.proofs.laws.refusal_is_unique.Goals as goal

pub returns : goal.returns
returns g c t h m right start first fits xs e f p q = once.one_first_bad t h m right xs e f fits p q
