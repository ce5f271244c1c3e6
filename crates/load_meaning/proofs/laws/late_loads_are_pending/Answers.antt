use Rattle.load_meaning.proofs.Steps.{late_pending}
use Rattle.load_meaning.proofs.laws.late_loads_are_pending.Goals as goal

pub returns : goal.returns
returns g c component state old new late before after kept of polls = late_pending _ component state old new late before after kept of polls
