use Rattle.run_weave.proofs.Refused.{stale}
use Rattle.run_weave.proofs.wrong.stale_value.Goals as goal

pub returns : goal.returns
returns c = stale
