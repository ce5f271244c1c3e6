use Rattle.run_history.proofs.Numbers.{noted_once}
use Rattle.run_history.proofs.laws.each_is_noted_once.Goals as goal

pub returns : goal.returns
returns c past o base count h k f by fits = noted_once past o base count h k f by
