use Rattle.grammar.proofs.Either as either
use Rattle.grammar.proofs.laws.one_of_both_by_the_last.Goals as goal

pub returns : goal.returns
returns g c t h m right level down start end first fits blocked blocks before last is_last =
    either.one_of_both_by_the_last t h m right level down start end first fits blocked blocks before last is_last
