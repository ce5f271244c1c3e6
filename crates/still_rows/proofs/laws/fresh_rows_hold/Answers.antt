use Rattle.still_rows.proofs.FreshLemmas.{fresh_still}
use Rattle.still_rows.proofs.laws.fresh_rows_hold.Goals as goal

pub returns : goal.returns
returns c = fresh_still
