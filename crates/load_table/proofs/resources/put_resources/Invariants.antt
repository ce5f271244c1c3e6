use Rattle.std.proofs.Common.{◌≡◌, drop}
use Rattle.load_table.specs.Table.{resources_told, resources_put}
use Rattle.load_table.proofs.resources.put_resources.Given as goal

abbrev pub invariant-loop-item : goal.invariant-loop-item
invariant-loop-item l = resources_put l.resources.entries (resources_told (drop l.item-index l.items)) ≡ resources_put l.initial.resources.entries (resources_told l.items)
