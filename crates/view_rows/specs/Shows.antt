-- When the mounted rows of an `each` show a mounted view.
use Rattle.std.specs.Prelude.{◌≡◌, ℕ, ◌+◌, ◌<◌, ◌≤◌, false, length, Some, None}
use Rattle.values.specs.declared.code.Code.{Code}
use Rattle.component_items.specs.Ids.{ids_in}
use Rattle.plain_evaluation.specs.Place.{of_row}
use Rattle.view_meaning.specs.Mounted.{Seen, Mounted}
use Rattle.view_slots.specs.Eaches.{EachOf}
use Rattle.view_slots.specs.Home.{has_open}
use Rattle.view_slots.specs.Shows.{Shows, IsRowHome}
use Rattle.view_rows.specs.Listed.{Row, Listed, row_with, serials_of, rows_arranged}

-- an id of the items of the `each`
pub record IsIdOf (e : EachOf) (id : ℕ) : Type 0 where
  pub behind : e.id < id
  pub within : id ≤ e.id + length (ids_in e.items)

-- They have the serials that the view has. Of each id of the `each` a row that is there says what the view has at that
-- place, and in a row that is not there the view has nothing.
pub record ShowsRows (mounted : Mounted) (e : EachOf) (listed : Listed) : Type 0 where
  pub serials : mounted.rows e.id ≡ serials_of listed
  pub homes : (key : Code) (row : Row) → row_with listed key ≡ Some row → IsRowHome e row.1
  pub there : (key : Code) (row : Row) → row_with listed key ≡ Some row → Shows mounted (Some key) row.1
  pub no_cell : (key : Code) (id : ℕ) → row_with listed key ≡ None → IsIdOf e id → mounted.cells (of_row id key) ≡ None
  pub none_open : (key : Code) (id : ℕ) → row_with listed key ≡ None → IsIdOf e id → has_open mounted.parts (of_row id key) ≡ false

-- the rows that follow the keys of the store of the `each`, with as many ids as its items have
abbrev pub rows_follow : Seen → EachOf → Listed → Listed
rows_follow seen e old = rows_arranged (e.id + 1) (length (ids_in e.items)) old (seen.view.keys e.id e.store)
