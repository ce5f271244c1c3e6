use Rattle.std.proofs.Common.{◌∷◌, ◌++◌, [], sym, ap, ◌∙◌, arith, length-append}
use Rattle.indexmap.specs.IndexMap.{values}
use Rattle.store_fields.specs.Edits.{edit, verdicts_of}
use Rattle.store_fields.proofs.RowLemmas.{rows_after-append, verdicts_of-append}
use Rattle.store_fields.proofs.table.edit_all.Goals as goal

pub loop-op-preserved : goal.loop-op-preserved
loop-op-preserved c =
    let max = c.args.max in
    let width = c.args.width in
    let rows = values c.args.table.now in
    let done = c.loop-op.yielded in
    let op = c.in-Some.op in
    let one = c.edit_with_room.ensures.edit ∙ ap (λ r. edit max width r op) c.loop-op.invariant.rows in
    let more = length-append done (op ∷ []) in
    record {
      paired = c.edit_with_room.ensures.paired;
      rows = ap (λ e. e.rows) one ∙ sym (rows_after-append max width rows done op);
      told = c.push_reserved.ensures.items ∙ ap (λ l. l ++ c.edit_with_room.result ∷ []) c.loop-op.invariant.told ∙ ap (λ v. verdicts_of max width rows done ++ v ∷ []) (ap (λ e. e.verdict) one) ∙ sym (verdicts_of-append max width rows done op);
      room = omega (arith, more, c.loop-op.invariant.room, c.edit_with_room.ensures.room);
      space = omega (arith, c.loop-op.invariant.space, c.push_reserved.ensures.capacity);
      count = omega (arith, more, c.loop-op.invariant.count, c.push_reserved.ensures.len);
    }
