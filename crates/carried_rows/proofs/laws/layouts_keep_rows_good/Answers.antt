use Rattle.carried_rows.proofs.Layouts.{keep_good, keep_named, keep_roomy}
use Rattle.carried_rows.proofs.laws.layouts_keep_rows_good.Goals as goal

pub returns-clause-good : goal.returns-clause-good
returns-clause-good c = keep_good

pub returns-clause-named : goal.returns-clause-named
returns-clause-named c = keep_named

pub returns-clause-roomy : goal.returns-clause-roomy
returns-clause-roomy c = keep_roomy
