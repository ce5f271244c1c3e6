use Rattle.values.proofs.TextsLemmas.{one_place}
use Rattle.values.proofs.laws.texts_are_told_apart.Goals as goal

pub returns : goal.returns
returns c = one_place
