use Rattle.std.proofs.Common.{refl}
use Rattle.store_fields.proofs.RowLemmas.{field_at}
use Rattle.store_fields.proofs.table.set_field.Goals as goal

pub returns-in-Some-clause-edit : goal.returns-in-Some-clause-edit
returns-in-Some-clause-edit c = (field_at c.args.table.now.entries _ c.args.key c.in-Some.i c.args.field c.args.code c.index_mut-row.result.now c.set.new.self c.requires.pairs c.in-Some.ensures.place c.index_mut-row.ensures.value c.set.ensures refl).0

pub returns-in-Some-clause-paired : goal.returns-in-Some-clause-paired
returns-in-Some-clause-paired c = (field_at c.args.table.now.entries _ c.args.key c.in-Some.i c.args.field c.args.code c.index_mut-row.result.now c.set.new.self c.requires.pairs c.in-Some.ensures.place c.index_mut-row.ensures.value c.set.ensures refl).1
