use Rattle.run_history.proofs.Pumps.{changes_differ}
use Rattle.run_history.proofs.laws.changes_differ.Goals as goal

pub returns : goal.returns
returns c past o base count h k f by fits = changes_differ past o base count h k f
