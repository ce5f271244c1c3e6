use Rattle.std.proofs.Common.{◌≡◌, ◌++◌, drop}
use Rattle.id_owners.specs.Table.{items_owned}
use Rattle.id_owners.proofs.walk.+owners.Given as goal

abbrev pub invariant-put_owners-loop-item : goal.invariant-put_owners-loop-item
invariant-put_owners-loop-item l = l.owners ++ items_owned (drop l.item-index l.items) l.owner ≡ l.initial.owners ++ items_owned l.items l.owner
