use Rattle.load_meaning.proofs.Steps.{rows_follow, places_stay, plan_stays}
use Rattle.load_meaning.proofs.laws.arrivals_change_no_layout.Goals as goal

pub returns-clause-rows : goal.returns-clause-rows
returns-clause-rows c = rows_follow

pub returns-clause-places : goal.returns-clause-places
returns-clause-places c = places_stay

pub returns-clause-plan : goal.returns-clause-plan
returns-clause-plan c = plan_stays
