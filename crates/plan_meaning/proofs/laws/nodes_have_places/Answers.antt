use Rattle.plan_meaning.proofs.Owners.{few_places}
use Rattle.plan_meaning.proofs.laws.nodes_have_places.Goals as goal

pub returns-clause-few : goal.returns-clause-few
returns-clause-few c = few_places
