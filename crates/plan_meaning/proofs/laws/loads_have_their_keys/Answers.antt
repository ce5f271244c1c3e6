use Rattle.plan_meaning.proofs.Loads.{load_rows}
use Rattle.plan_meaning.proofs.laws.loads_have_their_keys.Goals as goal

pub returns : goal.returns
returns c = load_rows
