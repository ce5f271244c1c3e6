use Rattle.plan_meaning.proofs.Told.{as_told}
use Rattle.plan_meaning.proofs.laws.rows_are_as_the_text_says.Goals as goal

pub returns : goal.returns
returns c = as_told
