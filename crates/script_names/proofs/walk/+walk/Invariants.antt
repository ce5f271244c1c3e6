use Rattle.std.proofs.Common.{◌≡◌, ◌++◌, take}
use Rattle.script_meaning.specs.Names.{names_in}
use Rattle.script_names.proofs.walk.+walk.Given as goal

abbrev pub invariant-add_items-loop-item : goal.invariant-add_items-loop-item
invariant-add_items-loop-item l = l.names ≡ l.initial.names ++ names_in l.owner (take l.item-index l.items)
