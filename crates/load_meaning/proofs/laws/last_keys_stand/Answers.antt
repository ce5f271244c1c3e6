use Rattle.load_meaning.proofs.Arrives.{arrived_twice}
use Rattle.load_meaning.proofs.laws.last_keys_stand.Goals as goal

pub returns : goal.returns
returns c = arrived_twice
