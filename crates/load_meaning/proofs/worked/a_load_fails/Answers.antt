use Rattle.load_meaning.proofs.Rows.{who_fails}
use Rattle.load_meaning.proofs.worked.a_load_fails.Goals as goal

pub returns : goal.returns
returns c = who_fails
