use Rattle.run_weave.proofs.Whole.{calls_make_phase}
use Rattle.run_weave.proofs.Verdicts.{told_phase}
use Rattle.run_weave.proofs.laws.calls_make_phases.Goals as goal

pub returns-clause-told : goal.returns-clause-told
returns-clause-told c past o base calls k lanes lead speak p fits = told_phase past o base calls k lanes lead speak fits p

pub returns-clause-as_told : goal.returns-clause-as_told
returns-clause-as_told c past o base calls k lanes lead speak p fits = calls_make_phase past o base calls k lanes lead speak p fits
