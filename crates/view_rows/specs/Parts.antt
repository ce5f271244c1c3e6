-- The rows of the map as contracts see them.
use Rattle.std.specs.Prelude.{List, map}
use Rattle.std.specs.declared.hash.FoldHasher.{FoldHasher}
use Rattle.std.specs.declared.hash.BuildHasherDefault.{BuildHasherDefault}
use Rattle.indexmap.specs.IndexMap.{IndexMap}
use Rattle.values.specs.declared.code.Code.{Code}
use Rattle.view_rows.specs.declared.table.RowPart.{RowPart}
use Rattle.view_rows.specs.Listed.{Row}

abbrev pub row_of : RowPart → Row
row_of part = (part.serial, part.slots)

abbrev pub with_row : Code × RowPart → Code × Row
with_row e = (e.0, row_of e.1)

abbrev pub Table : Type 0
Table = IndexMap Code RowPart (BuildHasherDefault FoldHasher)

abbrev pub rows_in : Table → List (Code × Row)
rows_in table = map with_row table.entries
