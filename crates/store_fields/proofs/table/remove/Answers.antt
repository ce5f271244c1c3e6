use Rattle.store_fields.proofs.RowLemmas.{removed_at}
use Rattle.store_fields.proofs.table.remove.Goals as goal

pub returns-in-Some-clause-edit : goal.returns-in-Some-clause-edit
returns-in-Some-clause-edit c = (removed_at _ _ c.args.key c.in-Some.i c.requires c.in-Some.ensures.place c.shift_remove_index.ensures.entries).0

pub returns-in-Some-clause-paired : goal.returns-in-Some-clause-paired
returns-in-Some-clause-paired c = (removed_at _ _ c.args.key c.in-Some.i c.requires c.in-Some.ensures.place c.shift_remove_index.ensures.entries).1
