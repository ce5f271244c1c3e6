use Rattle.sources.proofs.TriedLemmas as tried
use Rattle.sources.proofs.laws.good_rows_are_told_apart.Goals as goal

pub returns-clause-fresh : goal.returns-clause-fresh
returns-clause-fresh c = tried.fresh

pub returns-clause-stale : goal.returns-clause-stale
returns-clause-stale c = tried.stale
