-- A mounted view, and how it is made again from what a settled graph shows.
use Rattle.std.specs.Prelude.{◌≡◌, ℕ, ◌==◌, if◌then◌else◌, List, [], ◌∷◌, Option, Some, None}
use Rattle.std.specs.Option.{option_map, option_map_or}
use Rattle.values.specs.declared.code.Code.{Code}
use Rattle.values.specs.declared.code.Code.TheVariants.{Empty}
use Rattle.component_items.specs.declared.component.Component.{Component}
use Rattle.component_items.specs.declared.component.Item.{Item}
use Rattle.outside.specs.Counts.{next_count}
use Rattle.plain_evaluation.specs.Held.{Held}
use Rattle.plain_evaluation.specs.Page.{View, view_of}
use Rattle.plain_evaluation.specs.Place.{Place}
use Rattle.view_meaning.specs.Parts.{Part, parts_in, parts_bytes, has_cell, keys_mounted}
use Rattle.view_meaning.specs.Serials.{Rows, serial_among, rows_again}

-- what a view sees of a settled graph: what a page is written from, and the version of each place's node
pub record Seen : Type 0 where
  pub view : View
  pub version : Place → ℕ

-- a mounted text or attribute: the value that it shows, its version, and how often it was replaced since it was mounted
pub record Cell : Type 0 where
  pub code : Code
  pub version : ℕ
  pub written : ℕ

pub record Mounted : Type 0 where
  -- what is mounted, in text order
  pub parts : List Part
  -- the mounted text or attribute at a place, if there is one
  pub cells : Place → Option Cell
  -- the rows of the `each` with the id
  pub rows : ℕ → Rows

abbrev pub no_rows : Rows
no_rows = record { rows = []; next = 0 }

-- nothing is mounted, and nothing was
abbrev pub nothing_mounted : Mounted
nothing_mounted = record { parts = []; cells = λ p. None; rows = λ id. no_rows }

-- One that was not mounted is new; one that was is replaced where the version of its node moved.
abbrev pub cell_again : Option Cell → Code → ℕ → Cell
cell_again None code version = record { code = code; version = version; written = 0 }
cell_again (Some cell) code version = record { code = code; version = version; written = if cell.version == version then cell.written else next_count cell.written }

-- with these parts: what is not among them is gone, but each `each` keeps its count of serials
abbrev pub with_parts : List Part → Seen → Mounted → Mounted
with_parts parts seen old = record {
  parts = parts;
  cells = λ p. if has_cell parts p then Some (cell_again (old.cells p) (seen.view.value p) (seen.version p)) else None;
  rows = λ id. rows_again (old.rows id) (keys_mounted parts id);
}

-- the view of these items, made again
abbrev pub mounted_again : List Item → Seen → Mounted → Mounted
mounted_again items seen old = with_parts (parts_in seen.view items) seen old

-- made again from one settled graph after another
abbrev pub mounted_after : List Item → List Seen → Mounted → Mounted
mounted_after items [] mounted = mounted
mounted_after items (seen ∷ later) mounted = mounted_after items later (mounted_again items seen mounted)

-- ---- what is asked of a view

abbrev pub serial_of : Mounted → ℕ → Code → Option ℕ
serial_of mounted id key = serial_among (mounted.rows id).rows key

abbrev pub written_of : Mounted → Place → Option ℕ
written_of mounted p = option_map (λ cell. cell.written) (mounted.cells p)

abbrev pub code_of : Mounted → Place → Code
code_of mounted p = option_map_or (λ cell. cell.code) (mounted.cells p) Empty

-- the page that a view writes: its parts, with the values that it shows
abbrev pub page_mounted : List (List ℕ) → Mounted → List ℕ
page_mounted texts mounted = parts_bytes texts (code_of mounted) mounted.parts

-- what is seen is held state, with the values of plain evaluation
pub record ShowsHeld (component : Component) (held : Held) (view : View) : Type 0 where
  pub texts : view.texts ≡ component.texts
  pub value : (p : Place) → view.value p ≡ (view_of component held).value p
  pub keys : (id store : ℕ) → view.keys id store ≡ (view_of component held).keys id store
  pub live : (owner : ℕ) → view.live owner ≡ (view_of component held).live owner
