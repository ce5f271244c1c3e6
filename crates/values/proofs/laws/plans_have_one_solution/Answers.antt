use Rattle.values.proofs.PlanValuesLemmas as plans
use Rattle.values.proofs.laws.plans_have_one_solution.Goals as goal

pub returns-clause-lawful : goal.returns-clause-lawful
returns-clause-lawful c = plans.lawful_back

pub returns-clause-solves : goal.returns-clause-solves
returns-clause-solves c = plans.plan_value-solves

pub returns-clause-alone : goal.returns-clause-alone
returns-clause-alone c = plans.plan_value-alone

pub returns-clause-all_rows : goal.returns-clause-all_rows
returns-clause-all_rows c = plans.length-plan_values
