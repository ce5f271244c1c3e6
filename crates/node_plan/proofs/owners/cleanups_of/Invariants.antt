use Rattle.std.proofs.Common.{◌≡◌, ◌++◌, drop}
use Rattle.node_plan.specs.OwnersOf.{cleanups_in}
use Rattle.node_plan.proofs.owners.cleanups_of.Given as goal

abbrev pub invariant-loop-item : goal.invariant-loop-item
invariant-loop-item l = l.cleanups ++ cleanups_in (drop l.item-index l.items) ≡ cleanups_in l.items
