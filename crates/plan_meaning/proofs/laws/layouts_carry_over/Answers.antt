use Rattle.plan_meaning.proofs.Carried.{carried}
use Rattle.plan_meaning.proofs.laws.layouts_carry_over.Goals as goal

pub returns : goal.returns
returns c = carried
