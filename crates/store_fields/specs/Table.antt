-- How a map holds the rows of a store.
use Rattle.std.specs.Prelude.{◌≡◌, List, map}
use Rattle.std.specs.Map.{values_of}
use Rattle.values.specs.declared.code.Code.{Code}
use Rattle.store_fields.specs.declared.row.Row.{Row}

-- a row beside its key
abbrev pub paired : Row → Code × Row
paired row = (row.key, row)

-- each row stands at its key
abbrev pub IsPaired : List (Code × Row) → Type 0
IsPaired entries = entries ≡ map paired (values_of entries)
