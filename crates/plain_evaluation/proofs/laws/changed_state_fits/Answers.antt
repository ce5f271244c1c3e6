use Rattle.plain_evaluation.specs.Held.{value, stored, arrived}
use Rattle.plain_evaluation.proofs.Most.{changed_fits, changed_stores_fit, code_may_stand, key_may_stand, rows_may_stand}
use Rattle.plain_evaluation.proofs.laws.changed_state_fits.Goals as goal

pub returns-clause-code : goal.returns-clause-code
returns-clause-code c = λ component held id code fits most. (let may = code_may_stand component held id code in (changed_fits component held id (value code) may fits, changed_stores_fit component held id (value code) may most))

pub returns-clause-key : goal.returns-clause-key
returns-clause-key c = λ component held id key fits most. (let may = key_may_stand component held id key in (changed_fits component held id (arrived key) may fits, changed_stores_fit component held id (arrived key) may most))

pub returns-clause-rows : goal.returns-clause-rows
returns-clause-rows c = λ component held id before store fits most was max_same width_same rows differ. (let may = rows_may_stand component held id before store most was max_same width_same rows differ in (changed_fits component held id (stored store) may fits, changed_stores_fit component held id (stored store) may most))
