use Rattle.std.proofs.Common.{◌≡◌, ◌+◌, ◌≤◌, length, vec_len, vec_capacity}
use Rattle.indexmap.specs.IndexMap.{values, spare}
use Rattle.store_fields.specs.Edits.{rows_after, verdicts_of}
use Rattle.store_fields.specs.Table.{IsPaired}
use Rattle.store_fields.proofs.table.edit_all.Given as goal

abbrev pub invariant-loop-op : goal.invariant-loop-op
invariant-loop-op l = record {
  paired : IsPaired l.table.entries;
  rows : values l.table ≡ rows_after l.max l.width (values l.fn.table) l.yielded;
  told : l.verdicts.items ≡ verdicts_of l.max l.width (values l.fn.table) l.yielded;
  room : length l.fn.ops.items ≤ spare l.table + length l.yielded;
  space : length l.fn.ops.items ≤ vec_capacity l.verdicts;
  count : vec_len l.verdicts ≡ length l.yielded;
}
