use Rattle.store_fields.proofs.RowLemmas.{edit_keeps, all_keep}
use Rattle.store_fields.proofs.laws.edits_keep_a_store.Goals as goal

pub returns-clause-one : goal.returns-clause-one
returns-clause-one c = edit_keeps

pub returns-clause-all : goal.returns-clause-all
returns-clause-all c = all_keep
