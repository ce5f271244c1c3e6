use Rattle.std.proofs.Common.{◌≡◌, drop}
use Rattle.plain_values.specs.Evaluated.{after_attrs}
use Rattle.plain_values.specs.Seen.{values_seen, row_seen, given_in}
use Rattle.plain_values.proofs.evaluation.Evaluation.attrs.Given as goal

abbrev pub invariant-loop-attr : goal.invariant-loop-attr
invariant-loop-attr l = after_attrs (given_in l.self) (drop l.attr-index l.attrs) (row_seen l.row) (values_seen l.values) ≡ after_attrs (given_in l.self) l.attrs (row_seen l.row) (values_seen l.initial.values)
