use Rattle.std.proofs.Common.{◌-◌, ◌∙◌, ap}
use Rattle.indexmap.specs.IndexMap.{move_index}
use Rattle.store_fields.proofs.RowLemmas.{moved_at}
use Rattle.store_fields.proofs.table.place.Goals as goal

pub returns-in-Some-clause-edit : goal.returns-in-Some-clause-edit
returns-in-Some-clause-edit c =
    let old = c.args.table.now.entries in
    (moved_at old _ c.args.key c.args.place c.in-Some.from _ c.requires c.in-Some.ensures.place c.in-Some.ensures.within (ap (λ n. n - 1) c.len-last.ensures.len) (c.move_index.ensures.entries ∙ ap (λ n. move_index old c.in-Some.from n) c.min.ensures)).0

pub returns-in-Some-clause-paired : goal.returns-in-Some-clause-paired
returns-in-Some-clause-paired c =
    let old = c.args.table.now.entries in
    (moved_at old _ c.args.key c.args.place c.in-Some.from _ c.requires c.in-Some.ensures.place c.in-Some.ensures.within (ap (λ n. n - 1) c.len-last.ensures.len) (c.move_index.ensures.entries ∙ ap (λ n. move_index old c.in-Some.from n) c.min.ensures)).1
