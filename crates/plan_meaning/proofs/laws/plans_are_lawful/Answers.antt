use Rattle.plan_meaning.proofs.Owners.{lawful}
use Rattle.plan_meaning.proofs.laws.plans_are_lawful.Goals as goal

pub returns : goal.returns
returns c = lawful
