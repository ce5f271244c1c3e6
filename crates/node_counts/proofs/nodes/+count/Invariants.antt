use Rattle.std.proofs.Common.{◌≡◌, ℕ, ◌≤◌, take}
use Rattle.std.specs.List.{sum_by}
use Rattle.component_items.specs.Counts.{item_nodes}
use Rattle.node_counts.specs.declared.numbers.TheConstants.{TOO_MANY}
use Rattle.node_counts.specs.Nodes.{most_in, capped, Agrees}
use Rattle.node_counts.proofs.nodes.+count.Given as goal

abbrev pub invariant-count_all-loop-item : goal.invariant-count_all-loop-item
invariant-count_all-loop-item l = (l.count ≤ TOO_MANY) × ((rows : ℕ → ℕ) → Agrees (most_in l.most) rows → l.count ≡ capped (sum_by (item_nodes rows) (take l.item-index l.items)))
