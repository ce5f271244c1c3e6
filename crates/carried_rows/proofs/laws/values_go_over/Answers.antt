use Rattle.carried_rows.proofs.Numbers.{values_kept}
use Rattle.carried_rows.proofs.laws.values_go_over.Goals as goal

pub returns : goal.returns
returns c = values_kept
