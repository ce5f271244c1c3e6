use Rattle.store_fields.proofs.DistinctLemmas.{edit_distinct, all_distinct}
use Rattle.store_fields.proofs.laws.edits_keep_keys_distinct.Goals as goal

pub returns-clause-one : goal.returns-clause-one
returns-clause-one c = edit_distinct

pub returns-clause-all : goal.returns-clause-all
returns-clause-all c = all_distinct
