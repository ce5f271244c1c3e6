use Rattle.run_weave.proofs.Whole.{woven}
use Rattle.run_weave.proofs.laws.operations_are_woven_into_calls.Goals as goal

pub returns : goal.returns
returns c past o calls k lanes lead speak fits = let w = woven past o calls k lanes lead speak fits in (w.history, w.follows, w.by_passes, w.lanes_is)
