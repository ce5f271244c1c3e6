use Rattle.load_rounds.proofs.Rounds.{enough_bring_all}
use Rattle.load_rounds.proofs.laws.enough_rounds_bring_all.Goals as goal

pub returns : goal.returns
returns c = enough_bring_all
