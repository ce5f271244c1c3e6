use Rattle.run_meaning.proofs.Bounds.{no_other, none_left}
use Rattle.run_meaning.proofs.laws.one_lane_is_not_disturbed.Goals as goal

pub returns-clause-busy : goal.returns-clause-busy
returns-clause-busy c past p before x n l by = no_other _ p.lanes l by.1

pub returns-clause-again : goal.returns-clause-again
returns-clause-again c past p before x n l by = no_other _ p.lanes l by.1

pub returns-clause-left : goal.returns-clause-left
returns-clause-left c = none_left
