use Rattle.std.proofs.Common.{◌∙◌}
use Rattle.store_fields.proofs.RowLemmas.{found}
use Rattle.store_fields.proofs.table.find.Goals as goal

pub returns-clause-place : goal.returns-clause-place
returns-clause-place c = c.get_index_of.ensures.index ∙ found _ _ c.requires
