use Rattle.store_fields.proofs.RowLemmas.{refused_stays}
use Rattle.store_fields.proofs.laws.refused_edits_change_nothing.Goals as goal

pub returns : goal.returns
returns c = refused_stays
