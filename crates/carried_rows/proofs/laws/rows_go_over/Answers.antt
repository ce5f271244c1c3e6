use Rattle.carried_rows.proofs.Numbers.{by_number}
use Rattle.carried_rows.proofs.laws.rows_go_over.Goals as goal

pub returns : goal.returns
returns c = by_number
