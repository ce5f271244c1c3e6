use Rattle.run_weave.proofs.Whole.{rests_last, speaks_last}
use Rattle.run_weave.proofs.laws.lanes_go_on.Goals as goal

pub returns-clause-rests : goal.returns-clause-rests
returns-clause-rests c o calls lane d s q = rests_last o lane d s q

pub returns-clause-speaks : goal.returns-clause-speaks
returns-clause-speaks c o calls lane call d s q = speaks_last o lane call d s q
