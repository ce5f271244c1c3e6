use Rattle.load_meaning.proofs.Steps.{keys_follow}
use Rattle.load_meaning.proofs.laws.keys_depend_on_earlier_loads.Goals as goal

pub returns : goal.returns
returns c = keys_follow
