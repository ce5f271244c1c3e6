use Rattle.grammar.proofs.Either as either
use Rattle.grammar.proofs.laws.one_of_both.Goals as goal

pub returns : goal.returns
returns g c t h m right level down start end first fits is_end xs is_ended = either.one_of_both t h m right level down start end first fits is_end xs is_ended
