use Rattle.values.proofs.PlanValuesLemmas as plans
use Rattle.values.proofs.laws.sources_decide_a_plan.Goals as goal

pub returns : goal.returns
returns c = plans.plan_value-by_sources
