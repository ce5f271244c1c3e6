use Rattle.values.proofs.PlanRowsLemmas as rows
use Rattle.values.proofs.laws.lawful_plans_are_told_apart.Goals as goal

pub returns-clause-lawful : goal.returns-clause-lawful
returns-clause-lawful c = rows.lawful

pub returns-clause-no_owner : goal.returns-clause-no_owner
returns-clause-no_owner c = rows.no_owner

pub returns-clause-reads_itself : goal.returns-clause-reads_itself
returns-clause-reads_itself c = rows.reads_itself

pub returns-clause-reads_effect : goal.returns-clause-reads_effect
returns-clause-reads_effect c = rows.reads_effect

pub returns-clause-stranger : goal.returns-clause-stranger
returns-clause-stranger c = rows.stranger

pub returns-clause-second_root : goal.returns-clause-second_root
returns-clause-second_root c = rows.second_root

pub returns-clause-own_parent : goal.returns-clause-own_parent
returns-clause-own_parent c = rows.later_parent
