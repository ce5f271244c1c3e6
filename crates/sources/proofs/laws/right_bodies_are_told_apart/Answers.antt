use Rattle.sources.proofs.TriedLemmas as tried
use Rattle.sources.proofs.laws.right_bodies_are_told_apart.Goals as goal

pub returns-clause-right : goal.returns-clause-right
returns-clause-right c = tried.right

pub returns-clause-other_value : goal.returns-clause-other_value
returns-clause-other_value c = tried.other_value

pub returns-clause-unread : goal.returns-clause-unread
returns-clause-unread c = tried.unread

pub returns-clause-unasked : goal.returns-clause-unasked
returns-clause-unasked c = tried.unasked
