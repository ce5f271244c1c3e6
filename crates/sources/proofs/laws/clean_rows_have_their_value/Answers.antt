use Rattle.sources.proofs.RowLemmas.{clean_at}
use Rattle.sources.proofs.laws.clean_rows_have_their_value.Goals as goal

pub returns : goal.returns
returns c = clean_at
