use Rattle.load_meaning.proofs.Unasked.{nothing_asked}
use Rattle.load_meaning.proofs.laws.nothing_is_asked.Goals as goal

pub returns : goal.returns
returns g c component state old new late before after kept of in_step polls empty = nothing_asked _ component state old new late before after kept of in_step polls empty
