use Rattle.std.proofs.Common.{refl}
use Rattle.row_carrying.proofs.Places.{are_targets}
use Rattle.row_carrying.proofs.laws.rows_go_to_targets.Goals as goal

pub returns-clause-targets : goal.returns-clause-targets
returns-clause-targets c = are_targets

pub returns-clause-numbers : goal.returns-clause-numbers
returns-clause-numbers c old new = refl
