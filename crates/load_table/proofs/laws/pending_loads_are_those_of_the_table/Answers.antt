use Rattle.load_table.proofs.Pending.{pending_is}
use Rattle.load_table.proofs.laws.pending_loads_are_those_of_the_table.Goals as goal

pub returns : goal.returns
returns c = pending_is
