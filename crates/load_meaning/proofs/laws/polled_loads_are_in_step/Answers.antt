use Rattle.load_meaning.proofs.Steps.{polled_in_step, arrived_or_not}
use Rattle.load_meaning.proofs.laws.polled_loads_are_in_step.Goals as goal

pub returns-clause-in_step : goal.returns-clause-in_step
returns-clause-in_step g c component state old new late before after kept of polls in_step = polled_in_step _ component state old new late before after kept of polls in_step

pub returns-clause-arrived : goal.returns-clause-arrived
returns-clause-arrived g c component state old new late before after kept of polls in_step = arrived_or_not _ component state old new late before after kept of polls in_step
