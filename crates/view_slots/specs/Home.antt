-- What one home has mounted: the page outside of all rows, or one row of an `each`. A row is a home of its own, so of
-- an `each` its home has only that it is mounted.
use Rattle.std.specs.Prelude.{ℕ, ◌+◌, ◌-◌, ◌<◌, ◌≤◌, ◌⊎◌, ◌==◌, nat_le, Bool, true, false, if◌then◌else◌, List, [], ◌∷◌, map, replicate, slice_get, Option, Some, None}
use Rattle.std.specs.List.{list_any}
use Rattle.std.specs.Option.{option_map_or}
use Rattle.values.specs.declared.code.Code.{Code}
use Rattle.component_items.specs.declared.component.Item.{Item}
use Rattle.plain_evaluation.specs.Page.{View}
use Rattle.plain_evaluation.specs.Place.{Place, place_at, same_place}
use Rattle.view_meaning.specs.Mounted.{Seen, Cell, cell_again}
use Rattle.view_meaning.specs.Parts.{Part, plain, shows, begins, bare, fixed, valued, begun, ends, area, branch, each, row, has_cell, items_parts, parts_in}

-- ---- the parts of a home: those of a page where no store has rows

abbrev pub rowless : View → View
rowless view = record { texts = view.texts; value = view.value; keys = λ id store. []; live = view.live }

abbrev pub home_parts : View → List Item → Option Code → List Part
home_parts view items key = items_parts (rowless view) items key

-- those of the page, where its top is live
abbrev pub top_parts : View → List Item → List Part
top_parts view items = parts_in (rowless view) items

-- ---- which parts are there

-- an area that is live, or an `if` whose condition is true, at this place
abbrev pub opens_at : Place → Part → Bool
opens_at p (plain number) = false
opens_at p (shows q) = false
opens_at p (begins tag) = false
opens_at p (bare name) = false
opens_at p (fixed name number) = false
opens_at p (valued name q) = false
opens_at p begun = false
opens_at p (ends tag) = false
opens_at p (area q) = same_place q p
opens_at p (branch q) = same_place q p
opens_at p (each id store) = false
opens_at p (row id key) = false

abbrev pub has_open : List Part → Place → Bool
has_open parts p = list_any (opens_at p) parts

-- the `each` with this id
abbrev pub repeats : ℕ → Part → Bool
repeats id (plain number) = false
repeats id (shows q) = false
repeats id (begins tag) = false
repeats id (bare name) = false
repeats id (fixed name number) = false
repeats id (valued name q) = false
repeats id begun = false
repeats id (ends tag) = false
repeats id (area q) = false
repeats id (branch q) = false
repeats id (each own store) = own == id
repeats id (row own key) = false

abbrev pub has_rows : List Part → ℕ → Bool
has_rows parts id = list_any (repeats id) parts

-- ---- slots

-- What is mounted of one id: the text or attribute, whether what stands in the area or `if` is mounted, and whether
-- the rows of the `each` are.
pub record Face : Type 0 where
  pub cell : Option Cell
  pub is_open : Bool
  pub has_rows : Bool

abbrev pub blank_face : Face
blank_face = record { cell = None; is_open = false; has_rows = false }

-- what is mounted of an id now, and what was at the last update
pub record Sides : Type 0 where
  pub before : Face
  pub now : Face

abbrev pub blank_sides : Sides
blank_sides = record { before = blank_face; now = blank_face }

-- the sides of the ids from a base on
pub record Home : Type 0 where
  pub base : ℕ
  pub sides : List Sides

abbrev pub blank_home : ℕ → ℕ → Home
blank_home base count = record { base = base; sides = replicate count blank_sides }

-- with this text or attribute mounted
abbrev pub sides_celled : Cell → Sides → Sides
sides_celled cell s = record { before = s.before; now = record { cell = Some cell; is_open = s.now.is_open; has_rows = s.now.has_rows } }

-- with what stands in it mounted
abbrev pub sides_opened : Sides → Sides
sides_opened s = record { before = s.before; now = record { cell = s.now.cell; is_open = true; has_rows = s.now.has_rows } }

-- with its rows mounted
abbrev pub sides_repeated : Sides → Sides
sides_repeated s = record { before = s.before; now = record { cell = s.now.cell; is_open = s.now.is_open; has_rows = true } }

-- a home with so many slots from the base on has none of the id
abbrev pub IsOutside : ℕ → ℕ → ℕ → Type 0
IsOutside id base count = (id < base) ⊎ (base + count ≤ id)

-- the sides of an id, where the home has it
abbrev pub sides_at : Home → ℕ → Option Sides
sides_at home id = if nat_le home.base id then slice_get home.sides (id - home.base) else None

-- what the home has mounted of an id
abbrev pub face_at : Home → ℕ → Face
face_at home id = option_map_or (λ s. s.now) (sides_at home id) blank_face

-- ---- mounting

-- nothing is mounted, and what was stands beside
abbrev pub turned : Sides → Sides
turned s = record { before = s.now; now = blank_face }

-- as it was before
abbrev pub undone : Sides → Sides
undone s = record { before = s.before; now = s.before }

-- the face of a place with these parts mounted too
abbrev pub face_with : Seen → List Part → Place → Sides → Face
face_with seen parts p s = record {
  cell = if has_cell parts p then Some (cell_again s.before.cell (seen.view.value p) (seen.version p)) else s.now.cell;
  is_open = if has_open parts p then true else s.now.is_open;
  has_rows = if has_rows parts p.id then true else s.now.has_rows;
}

abbrev pub sides_with : Seen → List Part → Place → Sides → Sides
sides_with seen parts p s = record { before = s.before; now = face_with seen parts p s }

-- each of these changed by its id, where the ids begin at a base
abbrev pub by_id : (ℕ → Sides → Sides) → ℕ → List Sides → List Sides
by_id change base [] = []
by_id change base (s ∷ sides) = change base s ∷ by_id change (base + 1) sides

-- these parts mounted in the slots of one home, in the row with this key or in none
abbrev pub mounted_with : Seen → List Part → Option Code → ℕ → List Sides → List Sides
mounted_with seen parts key base sides = by_id (λ id. sides_with seen parts (place_at id key)) base sides

-- the home with exactly these parts mounted, as they were before or anew
abbrev pub remounted : Seen → List Part → Option Code → Home → Home
remounted seen parts key home = record { base = home.base; sides = mounted_with seen parts key home.base (map turned home.sides) }

abbrev pub home_undone : Home → Home
home_undone home = record { base = home.base; sides = map undone home.sides }
