use Rattle.sources.proofs.BodyLemmas.{right_at, right_from}
use Rattle.sources.proofs.laws.right_bodies_are_evaluations.Goals as goal

pub returns-clause-shows : goal.returns-clause-shows
returns-clause-shows c = right_at

pub returns-clause-made : goal.returns-clause-made
returns-clause-made c = right_from
