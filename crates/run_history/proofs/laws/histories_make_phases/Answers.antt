use Rattle.run_history.proofs.Whole.{is_phase}
use Rattle.run_history.proofs.laws.histories_make_phases.Goals as goal

pub returns : goal.returns
returns c past o base count h k f by fits v = is_phase past o base count h k f by fits v
