use Rattle.view_meaning.proofs.Serials.{counted_ever}
use Rattle.view_meaning.proofs.laws.serials_differ.Goals as goal

pub returns : goal.returns
returns c = counted_ever
