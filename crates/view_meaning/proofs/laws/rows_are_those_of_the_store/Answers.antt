use Rattle.view_meaning.proofs.Apart.{rows_stand}
use Rattle.view_meaning.proofs.laws.rows_are_those_of_the_store.Goals as goal

pub returns-clause-mounted : goal.returns-clause-mounted
returns-clause-mounted c = λ component view id store kept has. (rows_stand view component kept).seen id store has

pub returns-clause-unmounted : goal.returns-clause-unmounted
returns-clause-unmounted c = λ component view id kept none. (rows_stand view component kept).none id none
