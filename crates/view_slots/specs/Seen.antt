-- What a view sees of a graph.
use Rattle.std.specs.Prelude.{◌≡◌, ℕ, Option, Some, List, map, slice_get}
use Rattle.std.specs.Option.{option_map_or, option_and_then}
use Rattle.values.specs.declared.code.Code.{Code}
use Rattle.values.specs.declared.code.Code.TheVariants.{Empty}
use Rattle.values.specs.Packing.{unpacked, IsPacked}
use Rattle.sources.specs.declared.opening.Opened.{Opened}
use Rattle.component_items.specs.declared.component.Component.{Component}
use Rattle.plain_evaluation.specs.Held.{Held, is_live, rows_held}
use Rattle.plain_evaluation.specs.Place.{Place, position_of}
use Rattle.held_state.specs.State.{HeldState}
use Rattle.view_meaning.specs.Mounted.{Seen}

-- the row of a place, where these are the places of the rows, in order
abbrev pub row_at : List Place → List Opened → Place → Option Opened
row_at places rows p = option_and_then (λ n. slice_get rows n) (position_of places p)

-- A place with no row shows nothing, and has version 0.
abbrev pub code_shown : List Place → List Opened → Place → Code
code_shown places rows p = option_map_or (λ row. unpacked row.code) (row_at places rows p) Empty

abbrev pub version_shown : List Place → List Opened → Place → ℕ
version_shown places rows p = option_map_or (λ row. row.version) (row_at places rows p) 0

-- values and versions are those of the rows, and all else is that of held state
abbrev pub seen_of : Component → Held → List Place → List Opened → Seen
seen_of component held places rows = record {
  view = record { texts = component.texts; value = code_shown places rows; keys = λ each store. map (λ row. row.key) (rows_held held store); live = is_live held };
  version = version_shown places rows;
}

-- what a view is made from: a component with its held state, and the rows of its plan with their places
pub record Sighted : Type 0 where
  pub component : Component
  pub state : HeldState
  pub places : List Place
  pub rows : List Opened

abbrev pub seen_by : Sighted → Seen
seen_by sight = seen_of sight.component sight.state.held sight.places sight.rows

-- each row has a value
abbrev pub ArePacked : List Opened → Type 0
ArePacked rows = (n : ℕ) (row : Opened) → slice_get rows n ≡ Some row → IsPacked row.code
