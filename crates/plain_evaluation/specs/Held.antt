-- Held state: all that a page is computed from, beside the text.
use Rattle.std.specs.Prelude.{ℕ, Bool, true, false, map, length, slice_index_or, List, [], ◌∷◌, ◌++◌, Option, None}
use Rattle.std.specs.List.{flat_map}
use Rattle.values.specs.declared.code.Code.{Code}
use Rattle.values.specs.declared.code.Code.TheVariants.{Empty}
use Rattle.store_fields.specs.declared.row.Row.{Row}
use Rattle.store_fields.specs.Edits.{KeyedRows}
use Rattle.component_items.specs.declared.component.Attr.{Attr}
use Rattle.component_items.specs.declared.component.Attr.TheVariants as attr
use Rattle.component_items.specs.declared.component.Component.{Component}
use Rattle.component_items.specs.declared.component.Item.{Item}
use Rattle.component_items.specs.declared.component.Item.TheOpen as level
use Rattle.component_items.specs.declared.component.Item.TheOpen.{Item-F}
use Rattle.component_items.specs.declared.component.Item.TheFolds.{fold-Item}
use Rattle.component_items.specs.Ids.{owners_in}

-- what an id holds
pub data Holding : Type 0 where
  -- what is neither signal, store nor load, and all that a dead owner owns
  nothing : Holding
  -- a signal: its value
  value : Code → Holding
  -- a store: its rows, how many there may be, and how many fields each has
  stored : KeyedRows → Holding
  -- a load: the key that arrived, if one did
  arrived : Option Code → Holding

-- what each id holds, and which owners are live, by number
pub record Held : Type 0 where
  pub holdings : List Holding
  pub live : List Bool

abbrev pub holding_of : Held → ℕ → Holding
holding_of held id = slice_index_or held.holdings id nothing

abbrev pub is_live : Held → ℕ → Bool
is_live held owner = slice_index_or held.live owner false

abbrev pub value_in : Holding → Code
value_in nothing = Empty
value_in (value code) = code
value_in (stored store) = Empty
value_in (arrived key) = Empty

abbrev pub rows_in : Holding → List Row
rows_in nothing = []
rows_in (value code) = []
rows_in (stored store) = store.rows
rows_in (arrived key) = []

abbrev pub arrived_in : Holding → Option Code
arrived_in nothing = None
arrived_in (value code) = None
arrived_in (stored store) = None
arrived_in (arrived key) = key

abbrev pub value_held : Held → ℕ → Code
value_held held id = value_in (holding_of held id)

abbrev pub rows_held : Held → ℕ → List Row
rows_held held id = rows_in (holding_of held id)

abbrev pub arrived_held : Held → ℕ → Option Code
arrived_held held id = arrived_in (holding_of held id)

abbrev pub no_rows : ℕ → ℕ → KeyedRows
no_rows max width = record { rows = []; max = max; width = width }

-- ---- at the start: signals have their start, stores no rows, no key has arrived, and all owners are live

abbrev pub first_attr : Attr → List Holding
first_attr (attr.Bare name) = []
first_attr (attr.Fixed name text) = []
first_attr (attr.Shown name id expr) = nothing ∷ []

-- one for each id that the item takes, in text order
abbrev pub first_step : Item-F (List Holding) → List Holding
first_step (level.Signal id name start) = value start ∷ []
first_step (level.Memo id name expr) = nothing ∷ []
first_step (level.Effect id name expr) = nothing ∷ []
first_step (level.Resource id name after keys values) = nothing ∷ []
first_step (level.Load id name resource key) = arrived None ∷ nothing ∷ []
first_step (level.Store id name max fields starts) = stored (no_rows max (length fields)) ∷ nothing ∷ map (λ field. nothing) fields
first_step (level.Cleanup text) = []
first_step (level.Area id name owner items) = nothing ∷ flat_map (λ one. one) items
first_step (level.If id cond items) = nothing ∷ flat_map (λ one. one) items
first_step (level.Each id store items) = nothing ∷ flat_map (λ one. one) items
first_step (level.Element tag closed attrs items) = flat_map first_attr attrs ++ flat_map (λ one. one) items
first_step (level.Text text) = []
first_step (level.Shown id expr) = nothing ∷ []

unfoldable pub item_first : Item → List Holding
item_first = fold-Item (List Holding) first_step

abbrev pub first_held : Component → Held
first_held component = record { holdings = flat_map item_first component.items; live = true ∷ map (λ owner. true) (owners_in component.items) }
