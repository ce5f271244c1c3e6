use Rattle.run_meaning.proofs.Targets.{dead_target, none_is, is_none, has_target}
use Rattle.run_meaning.proofs.laws.ids_stand_for_what_is_there.Goals as goal

pub returns-clause-dead : goal.returns-clause-dead
returns-clause-dead c = dead_target

pub returns-clause-no_row : goal.returns-clause-no_row
returns-clause-no_row c component held id store key kept fits nested valued live e = (none_is component kept held fits nested id valued live store key e, is_none component kept held fits nested id valued live store key e)

pub returns-clause-row : goal.returns-clause-row
returns-clause-row c component held id kept fits nested valued live e = has_target component kept held fits nested id valued live e
