use Rattle.run_history.proofs.Disposals.{no_run_after}
use Rattle.run_history.proofs.laws.no_effect_runs_after_its_disposal.Goals as goal

pub returns : goal.returns
returns c past o base count h k f by fits = no_run_after past o base count h k f fits
