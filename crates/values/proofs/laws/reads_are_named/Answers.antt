use Rattle.values.proofs.PlanLemmas.{reads_named}
use Rattle.values.proofs.laws.reads_are_named.Goals as goal

pub returns : goal.returns
returns c = reads_named
