use Rattle.values.proofs.AskedLemmas.{Agrees-known_by, tried_of-known_by}
use Rattle.values.proofs.laws.attempts_end_with_the_value.Goals as goal

pub returns-clause-agrees : goal.returns-clause-agrees
returns-clause-agrees c = Agrees-known_by

pub returns-clause-in_order : goal.returns-clause-in_order
returns-clause-in_order c = tried_of-known_by
