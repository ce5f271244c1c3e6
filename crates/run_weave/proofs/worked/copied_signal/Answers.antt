use Rattle.std.proofs.Common.{[]}
use Rattle.run_weave.specs.Worked.{copy_opened, copy_calls, copy_lanes, copy_end}
use Rattle.run_weave.proofs.Whole.{calls_make_phase}
use Rattle.run_weave.proofs.Laid.{copy_fits}
use Rattle.run_weave.proofs.Copies.{copy_lead, copy_speak, copy_targets}
use Rattle.run_weave.proofs.worked.copied_signal.Goals as goal

pub returns-clause-calls : goal.returns-clause-calls
returns-clause-calls c = copy_lead

pub returns-clause-lanes : goal.returns-clause-lanes
returns-clause-lanes c = copy_speak

pub returns-clause-phase : goal.returns-clause-phase
returns-clause-phase c = calls_make_phase [] copy_opened 0 copy_calls copy_end copy_lanes copy_lead copy_speak copy_fits copy_targets ((tt, (tt, (tt, (tt, (tt, tt))))), tt)
