use Rattle.sources.proofs.TriedLemmas as tried
use Rattle.sources.proofs.laws.causes_are_told_apart.Goals as goal

pub returns-clause-changed : goal.returns-clause-changed
returns-clause-changed c = tried.changed

pub returns-clause-unrecorded : goal.returns-clause-unrecorded
returns-clause-unrecorded c = tried.unrecorded

pub returns-clause-at_another : goal.returns-clause-at_another
returns-clause-at_another c = tried.at_another
