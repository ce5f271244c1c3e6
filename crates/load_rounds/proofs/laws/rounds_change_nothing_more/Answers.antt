use Rattle.load_rounds.proofs.Rounds.{nothing_more}
use Rattle.load_rounds.proofs.laws.rounds_change_nothing_more.Goals as goal

pub returns : goal.returns
returns c = nothing_more
