use Rattle.std.proofs.Common.{◌≡◌, ◌+◌, drop}
use Rattle.plain_values.specs.Evaluated.{after_fields}
use Rattle.plain_values.specs.Seen.{values_seen}
use Rattle.plain_values.proofs.rows.put_fields.Given as goal

abbrev pub invariant-loop-code : goal.invariant-loop-code
invariant-loop-code l = record {
  at : l.id ≡ l.first + l.code-index;
  same : after_fields l.id (drop l.code-index l.code-items) l.row.key (values_seen l.values) ≡ after_fields l.first l.code-items l.row.key (values_seen l.initial.values);
}
