use Rattle.plan_meaning.proofs.Stays.{effect_outside, was_there}
use Rattle.plan_meaning.proofs.laws.effects_and_loads_are_not_new.Goals as goal

pub returns-clause-effect : goal.returns-clause-effect
returns-clause-effect c = effect_outside

pub returns-clause-before : goal.returns-clause-before
returns-clause-before c = was_there
