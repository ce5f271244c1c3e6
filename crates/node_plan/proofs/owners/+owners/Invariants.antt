use Rattle.std.proofs.Common.{◌≡◌, ◌++◌, map, drop}
use Rattle.plan_meaning.specs.Owners.{item_owning, owners_inside}
use Rattle.node_plan.proofs.owners.+owners.Given as goal

abbrev pub invariant-put_owners-loop-item : goal.invariant-put_owners-loop-item
invariant-put_owners-loop-item l = l.owners.items ++ owners_inside (map item_owning (drop l.item-index l.items)) l.around ≡ l.initial.owners.items ++ owners_inside (map item_owning l.items) l.around
