use Rattle.load_meaning.proofs.Live.{can_arrive}
use Rattle.load_meaning.proofs.Steps.{ids_differ}
use Rattle.load_meaning.proofs.laws.live_loads_hold_keys.Goals as goal

pub returns-clause-holds : goal.returns-clause-holds
returns-clause-holds c component state kept of place load is lives = can_arrive component state.held kept of.holds place load is lives

pub returns-clause-apart : goal.returns-clause-apart
returns-clause-apart c = ids_differ
