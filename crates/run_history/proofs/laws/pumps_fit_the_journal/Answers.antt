use Rattle.run_history.proofs.Pumps.{pumps_fit}
use Rattle.run_history.proofs.laws.pumps_fit_the_journal.Goals as goal

pub returns : goal.returns
returns c past o base count h k f by fits = pumps_fit past o base count h k f by fits.lawful
