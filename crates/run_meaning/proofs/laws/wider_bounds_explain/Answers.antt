use Rattle.run_meaning.proofs.Bounds.{widened}
use Rattle.run_meaning.proofs.laws.wider_bounds_explain.Goals as goal

pub returns : goal.returns
returns c = widened
