use Rattle.std.proofs.Common.{◌≡◌, ◌≤◌, drop, length}
use Rattle.plain_values.specs.Pairs.{pairs_of}
use Rattle.plain_values.specs.Seen.{values_seen}
use Rattle.plain_values.proofs.pairs.resource_pairs.Given as goal

abbrev pub invariant-loop-left : goal.invariant-loop-left
invariant-loop-left l = record {
  within : l.left ≤ length l.items;
  same : values_seen l.pairs ≡ pairs_of (drop l.left l.items);
}

abbrev pub decreases-loop-left : goal.decreases-loop-left
decreases-loop-left l = l.left
