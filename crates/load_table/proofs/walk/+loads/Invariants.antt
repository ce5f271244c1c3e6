use Rattle.std.proofs.Common.{◌≡◌, ◌++◌, drop}
use Rattle.load_table.specs.Loads.{loads_among}
use Rattle.load_table.specs.Table.{after_by, pairs_by, loads_with}
use Rattle.load_table.proofs.walk.+loads.Given as goal

abbrev pub invariant-put_loads-loop-item : goal.invariant-put_loads-loop-item
invariant-put_loads-loop-item l = loads_with l.resources.entries l.loads ++ loads_among (pairs_by l.resources.entries) (after_by l.resources.entries) (drop l.item-index l.items) ≡ loads_with l.resources.entries l.initial.loads ++ loads_among (pairs_by l.resources.entries) (after_by l.resources.entries) l.items
