use Rattle.std.proofs.Common.{◌≡◌, suc, ◌+◌, Some, map, take, slice_get, ap, ◌∙◌, arith}
use Rattle.std.specs.Map.{values_of}
use Rattle.values.specs.contracts.code.CodePartialEq.TheImpl.{ghosts}
use Rattle.indexmap.specs.IndexMap.{insert_entry}
use Rattle.store_fields.specs.Table.{paired}
use Rattle.store_fields.proofs.RowLemmas.{copied_more, distinct_keys}
use Rattle.store_fields.proofs.table.copy.Goals as goal

pub loop-i-preserved : goal.loop-i-preserved
loop-i-preserved c =
    let entries = c.args.table.now.entries in
    let row = c.index-row.result.now in
    let at : slice_get (values_of entries) c.loop-i.i ≡ Some row = c.index-row.ensures in
    let more = copied_more (values_of entries) c.loop-i.i row (distinct_keys entries c.requires c.len.ensures.unique) at in
    c.in_ok-insert.ensures.entries
    ∙ ap (λ es. insert_entry ghosts.eq es row.key c.in_ok-copy.field-0) c.loop-i.invariant
    ∙ ap (λ r. insert_entry ghosts.eq (map paired (take c.loop-i.i (values_of entries))) row.key r) c.in_ok-copy.ensures
    ∙ more
    ∙ ap (λ n. map paired (take n (values_of entries))) {x = suc c.loop-i.i} {y = c.loop-i.i + 1} (omega arith)
