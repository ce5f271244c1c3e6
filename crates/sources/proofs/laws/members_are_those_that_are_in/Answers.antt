use Rattle.sources.proofs.TriedLemmas as tried
use Rattle.sources.proofs.laws.members_are_those_that_are_in.Goals as goal

pub returns-clause-all : goal.returns-clause-all
returns-clause-all c = tried.members_from-Contains
