use Rattle.std.proofs.Common.{◌≡◌, ◌≤◌, take}
use Rattle.std.specs.List.{sum_by}
use Rattle.component_items.specs.Counts.{attr_nodes}
use Rattle.node_counts.specs.declared.numbers.TheConstants.{TOO_MANY}
use Rattle.node_counts.specs.Nodes.{capped}
use Rattle.node_counts.proofs.nodes.count_attrs.Given as goal

abbrev pub invariant-loop-attr : goal.invariant-loop-attr
invariant-loop-attr l = (l.count ≤ TOO_MANY) × (l.count ≡ capped (sum_by attr_nodes (take l.attr-index l.attrs)))
