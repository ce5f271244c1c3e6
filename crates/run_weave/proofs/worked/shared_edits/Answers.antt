use Rattle.std.proofs.Common.{refl, []}
use Rattle.run_weave.specs.Worked.{store_opened, shared_calls, shared_lanes, shared_end}
use Rattle.run_weave.proofs.Whole.{calls_make_phase}
use Rattle.run_weave.proofs.Laid.{store_fits}
use Rattle.run_weave.proofs.Rows.{shared_lead, shared_speak, store_targets}
use Rattle.run_weave.proofs.worked.shared_edits.Goals as goal

pub returns-clause-calls : goal.returns-clause-calls
returns-clause-calls c = shared_lead

pub returns-clause-lanes : goal.returns-clause-lanes
returns-clause-lanes c = shared_speak

pub returns-clause-phase : goal.returns-clause-phase
returns-clause-phase c = calls_make_phase [] store_opened 0 shared_calls shared_end shared_lanes shared_lead shared_speak store_fits store_targets ((refl, tt), ((tt, (refl, (refl, tt))), tt))
