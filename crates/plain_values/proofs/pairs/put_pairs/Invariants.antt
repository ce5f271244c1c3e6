use Rattle.std.proofs.Common.{◌≡◌, ◌≤◌, drop, length}
use Rattle.std.specs.List.{zip}
use Rattle.plain_values.specs.Pairs.{with_pairs}
use Rattle.plain_values.specs.Seen.{values_seen}
use Rattle.plain_values.proofs.pairs.put_pairs.Given as goal

abbrev pub invariant-loop-left : goal.invariant-loop-left
invariant-loop-left l = record {
  keys : l.left ≤ length l.keys;
  codes : l.left ≤ length l.codes;
  same : values_seen l.pairs ≡ with_pairs l.id (zip (drop l.left l.keys) (drop l.left l.codes)) (values_seen l.initial.pairs);
}

abbrev pub decreases-loop-left : goal.decreases-loop-left
decreases-loop-left l = l.left
