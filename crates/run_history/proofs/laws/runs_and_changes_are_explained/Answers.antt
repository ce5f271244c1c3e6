use Rattle.run_history.proofs.Got.{entries_explained}
use Rattle.run_history.proofs.laws.runs_and_changes_are_explained.Goals as goal

pub returns : goal.returns
returns c past o base count h k f by fits = entries_explained past o base count h k f fits.lawful
