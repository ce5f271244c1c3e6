use Rattle.run_history.proofs.Numbers.{answered}
use Rattle.run_history.proofs.laws.answers_are_of_their_kind.Goals as goal

pub returns : goal.returns
returns c past o base count h k f by fits = answered past o base count h k f
