use Rattle.std.proofs.Common.{◌≡◌, take}
use Rattle.store_fields.proofs.rows.copies.Given as goal

abbrev pub invariant-loop-op : goal.invariant-loop-op
invariant-loop-op l = l.ops.items ≡ take l.op-index l.edits
