use Rattle.run_weave.proofs.Nested.{nested}
use Rattle.run_weave.proofs.worked.nested_areas.Goals as goal

pub returns : goal.returns
returns c = nested
