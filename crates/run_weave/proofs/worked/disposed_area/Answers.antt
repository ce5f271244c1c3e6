use Rattle.std.proofs.Common.{[]}
use Rattle.run_weave.specs.Worked.{area_opened, area_calls, area_lanes, area_end}
use Rattle.run_weave.proofs.Whole.{calls_make_phase}
use Rattle.run_weave.proofs.Laid.{area_fits}
use Rattle.run_weave.proofs.Rows.{area_lead, area_speak, area_targets}
use Rattle.run_weave.proofs.worked.disposed_area.Goals as goal

pub returns-clause-calls : goal.returns-clause-calls
returns-clause-calls c = area_lead

pub returns-clause-lanes : goal.returns-clause-lanes
returns-clause-lanes c = area_speak

pub returns-clause-phase : goal.returns-clause-phase
returns-clause-phase c = calls_make_phase [] area_opened 0 area_calls area_end area_lanes area_lead area_speak area_fits area_targets ((tt, (tt, (tt, tt))), tt)
