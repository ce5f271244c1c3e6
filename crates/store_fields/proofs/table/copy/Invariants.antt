use Rattle.std.proofs.Common.{◌≡◌, map, take}
use Rattle.indexmap.specs.IndexMap.{values}
use Rattle.store_fields.specs.Table.{paired}
use Rattle.store_fields.proofs.table.copy.Given as goal

-- the rows before this place are copied
abbrev pub invariant-loop-i : goal.invariant-loop-i
invariant-loop-i l = l.copied.entries ≡ map paired (take l.i (values l.table))
