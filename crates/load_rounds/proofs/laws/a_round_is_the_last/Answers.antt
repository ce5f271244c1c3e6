use Rattle.load_rounds.proofs.Rounds.{round_last}
use Rattle.load_rounds.proofs.laws.a_round_is_the_last.Goals as goal

pub returns : goal.returns
returns c = round_last
