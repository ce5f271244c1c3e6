use Rattle.std.proofs.Common.{inl}
use Rattle.grammar.proofs.Once as once
use Rattle.grammar.proofs.laws.meaning_is_unique.Goals as goal

pub returns : goal.returns
returns g c t h m right start end first fits closes xs a b p q = once.one_meaning t h m right end xs fits (inl closes) p q
