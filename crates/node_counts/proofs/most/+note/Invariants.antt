use Rattle.std.proofs.Common.{◌≡◌, ℕ, ◌+◌, take}
use Rattle.component_items.specs.Counts.{maximum_in}
use Rattle.node_counts.specs.Nodes.{most_in, capped}
use Rattle.node_counts.proofs.most.+note.Given as goal

abbrev pub invariant-note_all-loop-item : goal.invariant-note_all-loop-item
invariant-note_all-loop-item l = (store : ℕ) → capped (most_in l.most store) ≡ capped (most_in l.initial.most store + maximum_in (take l.item-index l.items) store)
