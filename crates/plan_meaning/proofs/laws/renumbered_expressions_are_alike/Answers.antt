use Rattle.plan_meaning.proofs.Renumbered.{value_of-renumbered, rows_renumbered}
use Rattle.plan_meaning.proofs.laws.renumbered_expressions_are_alike.Goals as goal

pub returns-clause-value : goal.returns-clause-value
returns-clause-value c = value_of-renumbered

pub returns-clause-rows : goal.returns-clause-rows
returns-clause-rows c number expr = rows_renumbered expr number
