-- When a home shows a mounted view.
use Rattle.std.specs.Prelude.{◌≡◌, ℕ, ◌+◌, true, List, length, Option, Some, None}
use Rattle.std.specs.List.{list_any}
use Rattle.values.specs.declared.code.Code.{Code}
use Rattle.values.specs.Evaluation.{is_same}
use Rattle.component_items.specs.declared.component.Item.{Item}
use Rattle.component_items.specs.Ids.{ids_in}
use Rattle.plain_evaluation.specs.Page.{View}
use Rattle.plain_evaluation.specs.Place.{place_at}
use Rattle.view_meaning.specs.Mounted.{Mounted}
use Rattle.view_slots.specs.Home.{Home, Sides, sides_at, has_open, has_rows, top_parts}
use Rattle.view_slots.specs.Eaches.{EachOf}

-- Of each id that it has, the home of the row with this key, or of none, says what the view has at that place. That
-- of no row also says which `each` are mounted.
pub record Shows (mounted : Mounted) (key : Option Code) (home : Home) : Type 0 where
  pub cells : (id : ℕ) (s : Sides) → sides_at home id ≡ Some s → s.now.cell ≡ mounted.cells (place_at id key)
  pub opens : (id : ℕ) (s : Sides) → sides_at home id ≡ Some s → s.now.is_open ≡ has_open mounted.parts (place_at id key)
  pub repeats : (id : ℕ) (s : Sides) → key ≡ None → sides_at home id ≡ Some s → s.now.has_rows ≡ has_rows mounted.parts id

-- so many slots as the items of an `each` have ids, from the first of these on
pub record IsRowHome (e : EachOf) (home : Home) : Type 0 where
  pub base : home.base ≡ e.id + 1
  pub count : length home.sides ≡ length (ids_in e.items)

-- the `each` is mounted among these items, and the row with the key is one of those that its store shows
pub record IsMountedRow (view : View) (items : List Item) (e : EachOf) (key : Code) : Type 0 where
  pub mounted : has_rows (top_parts view items) e.id ≡ true
  pub there : list_any (is_same key) (view.keys e.id e.store) ≡ true
