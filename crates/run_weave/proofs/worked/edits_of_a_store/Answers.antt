use Rattle.std.proofs.Common.{refl, []}
use Rattle.run_weave.specs.Worked.{store_opened, edits_calls, edits_lanes, edits_end}
use Rattle.run_weave.proofs.Whole.{calls_make_phase}
use Rattle.run_weave.proofs.Laid.{store_fits}
use Rattle.run_weave.proofs.Rows.{edits_lead, edits_speak, store_targets}
use Rattle.run_weave.proofs.worked.edits_of_a_store.Goals as goal

pub returns-clause-calls : goal.returns-clause-calls
returns-clause-calls c = edits_lead

pub returns-clause-lanes : goal.returns-clause-lanes
returns-clause-lanes c = edits_speak

pub returns-clause-phase : goal.returns-clause-phase
returns-clause-phase c = calls_make_phase [] store_opened 0 edits_calls edits_end edits_lanes edits_lead edits_speak store_fits store_targets ((refl, (refl, (refl, tt))), tt)
