use Rattle.values.proofs.PlanValuesLemmas as plans
use Rattle.values.proofs.laws.rows_are_decided_by_their_reads.Goals as goal

pub returns-clause-source : goal.returns-clause-source
returns-clause-source c = plans.plan_value-source

pub returns-clause-derived : goal.returns-clause-derived
returns-clause-derived c = plans.plan_value-by_reads

pub returns-clause-before : goal.returns-clause-before
returns-clause-before c = plans.reads_before
