use Rattle.carried_rows.proofs.Whole.{stay_good, stay_named, stay_dated, stay_roomy}
use Rattle.carried_rows.proofs.laws.rows_stay_good.Goals as goal

pub returns-clause-good : goal.returns-clause-good
returns-clause-good c = stay_good

pub returns-clause-named : goal.returns-clause-named
returns-clause-named c = stay_named

pub returns-clause-dated : goal.returns-clause-dated
returns-clause-dated c = stay_dated

pub returns-clause-roomy : goal.returns-clause-roomy
returns-clause-roomy c = stay_roomy
