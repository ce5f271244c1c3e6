use Rattle.grammar.specs.Leading.{stays}
use Rattle.token_reader.proofs.state.TextState.expansion.Goals as goal

-- the production alone
pub returns : goal.returns
returns g c = record { body = c.production.result.now; chosen = c.production.ensures; leads = stays }
