use Rattle.load_meaning.proofs.Steps.{arrivals, still_of_it}
use Rattle.load_meaning.proofs.laws.polls_are_arrivals.Goals as goal

pub returns-clause-arrivals : goal.returns-clause-arrivals
returns-clause-arrivals g c component state old new late before after kept of polls = arrivals _ component state old new late before after kept of polls

pub returns-clause-fits : goal.returns-clause-fits
returns-clause-fits g c component state old new late before after kept of polls = still_of_it _ component state old new late before after kept of polls
