-- The slots of a home as contracts see them: the row of the plan at which an id was found last is nobody's concern.
use Rattle.std.specs.Prelude.{ℕ, List, map, Option}
use Rattle.std.specs.Option.{option_map}
use Rattle.view_meaning.specs.Mounted.{Cell as CellMeant}
use Rattle.view_slots.specs.Home.{Face as FaceMeant, Sides, Home}
use Rattle.view_slots.specs.declared.cell.Cell.{Cell}
use Rattle.view_slots.specs.declared.slot.Face.{Face}
use Rattle.view_slots.specs.declared.slot.Slot.{Slot}

abbrev pub cell_meant : Cell → CellMeant
cell_meant c = record { code = c.code; version = c.version; written = c.written }

abbrev pub cells_meant : Option Cell → Option CellMeant
cells_meant o = option_map cell_meant o

abbrev pub face_meant : Face → FaceMeant
face_meant f = record { cell = cells_meant f.cell; is_open = f.is_open; has_rows = f.has_rows }

abbrev pub sides_of : Slot → Sides
sides_of s = record { before = face_meant s.before; now = face_meant s.now }

abbrev pub all_sides : List Slot → List Sides
all_sides slots = map sides_of slots

abbrev pub home_of : ℕ → List Slot → Home
home_of base slots = record { base = base; sides = all_sides slots }
