use Rattle.component_meaning.proofs.Closers as closers
use Rattle.component_meaning.proofs.laws.closers_never_pass.Goals as goal

pub returns-clause-refused : goal.returns-clause-refused
returns-clause-refused c = closers.never_pass

pub returns-clause-closed : goal.returns-clause-closed
returns-clause-closed c = closers.closed
