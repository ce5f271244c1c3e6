use Rattle.run_history.proofs.Counts.{refusals_counted}
use Rattle.run_history.proofs.laws.refusals_are_counted.Goals as goal

pub returns : goal.returns
returns c past o base count h k f by fits = refusals_counted past o base count h k f
