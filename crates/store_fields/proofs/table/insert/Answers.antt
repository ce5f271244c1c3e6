use Rattle.std.proofs.Common.{◌≡◌, ◌<◌, min, length, is_some, false, ◌∙◌, ap, arith}
use Rattle.std.specs.List.{position_or_len}
use Rattle.std.specs.Map.{keys_of}
use Rattle.indexmap.specs.IndexMap.{index_before}
use Rattle.values.specs.contracts.code.CodePartialEq.TheImpl.{ghosts}
use Rattle.store_fields.proofs.RowLemmas.{inserted_at}
use Rattle.store_fields.proofs.table.insert.Goals as goal

pub returns-clause-edit : goal.returns-clause-edit
returns-clause-edit c =
    let old = c.args.table.now.entries in
    let absent : is_some c.find.result ≡ false = grind arith in
    let few : length old < c.args.max = omega (arith, c.if-max-len.false, c.len-len.ensures.len) in
    let index = c.in_ok-insert_before.ensures.index ∙ ap (λ n. index_before (position_or_len (ghosts.eq c.args.row.key) (keys_of old)) n) (c.min.ensures ∙ ap (λ l. min c.args.place l) c.len-len.ensures.len) in
    (inserted_at old c.insert_before.new.self.entries c.args.max c.args.row c.args.place c.in_ok-insert_before.field-0.0 c.find.result c.requires c.find.ensures.place absent few index c.in_ok-insert_before.ensures.entries).0

pub returns-clause-paired : goal.returns-clause-paired
returns-clause-paired c =
    let old = c.args.table.now.entries in
    let absent : is_some c.find.result ≡ false = grind arith in
    let few : length old < c.args.max = omega (arith, c.if-max-len.false, c.len-len.ensures.len) in
    let index = c.in_ok-insert_before.ensures.index ∙ ap (λ n. index_before (position_or_len (ghosts.eq c.args.row.key) (keys_of old)) n) (c.min.ensures ∙ ap (λ l. min c.args.place l) c.len-len.ensures.len) in
    (inserted_at old c.insert_before.new.self.entries c.args.max c.args.row c.args.place c.in_ok-insert_before.field-0.0 c.find.result c.requires c.find.ensures.place absent few index c.in_ok-insert_before.ensures.entries).1
