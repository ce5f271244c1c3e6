use Rattle.view_meaning.proofs.Cells.{moved, stayed, fresh, gone}
use Rattle.view_meaning.proofs.laws.replacements_are_counted.Goals as goal

pub returns-clause-moved : goal.returns-clause-moved
returns-clause-moved c = moved

pub returns-clause-stayed : goal.returns-clause-stayed
returns-clause-stayed c = stayed

pub returns-clause-fresh : goal.returns-clause-fresh
returns-clause-fresh c = fresh

pub returns-clause-gone : goal.returns-clause-gone
returns-clause-gone c = gone
