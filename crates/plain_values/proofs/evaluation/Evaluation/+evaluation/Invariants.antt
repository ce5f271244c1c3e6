use Rattle.std.proofs.Common.{◌≡◌, drop}
use Rattle.plain_values.specs.Evaluated.{after_items, for_each}
use Rattle.plain_values.specs.Seen.{values_seen, row_seen, given_in}
use Rattle.plain_values.proofs.evaluation.Evaluation.+evaluation.Given as goal

abbrev pub invariant-items-loop-item : goal.invariant-items-loop-item
invariant-items-loop-item l = after_items (given_in l.self) (drop l.item-index l.items) (row_seen l.row) (values_seen l.values) ≡ after_items (given_in l.self) l.items (row_seen l.row) (values_seen l.initial.values)

abbrev pub invariant-each-loop-at : goal.invariant-each-loop-at
invariant-each-loop-at l = for_each (after_items (given_in l.self) l.items) l.store (drop l.at l.rows.rows) (values_seen l.values) ≡ for_each (after_items (given_in l.self) l.items) l.store l.rows.rows (values_seen l.initial.values)
