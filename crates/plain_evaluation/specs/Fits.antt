-- State that is of a component.
use Rattle.std.specs.Prelude.{◌≡◌, ◌≤◌, ℕ, length, ◌==◌, nat_le, ◌&&◌, not, Bool, true, List, [], ◌∷◌}
use Rattle.std.specs.List.{list_all, list_any}
use Rattle.values.specs.Evaluation.{is_same}
use Rattle.store_fields.specs.declared.row.Row.{Row}
use Rattle.component_items.specs.declared.component.Component.{Component}
use Rattle.component_items.specs.declared.component.Item.{Item}
use Rattle.component_items.specs.declared.component.Item.TheOpen as level
use Rattle.component_items.specs.declared.component.Item.TheOpen.{Item-F}
use Rattle.component_items.specs.declared.component.Item.TheFolds.{fold-Item}
use Rattle.component_items.specs.Counts.{maximum_in}
use Rattle.plain_evaluation.specs.Held.{Holding, nothing, value, stored, arrived, Held, holding_of, rows_held}
use Rattle.plain_evaluation.specs.Written.{State}

abbrev pub keys_differ : List Row → Bool
keys_differ [] = true
keys_differ (row ∷ others) = not (list_any (λ other. is_same row.key other.key) others) && keys_differ others

-- a store of the most rows and the count of fields may hold these
abbrev pub rows_fit : ℕ → ℕ → List Row → Bool
rows_fit max width list = list_all (λ row. length row.fields == width) list && nat_le (length list) max

abbrev pub all_fit : List Bool → Bool
all_fit items = list_all (λ b. b) items

-- where `fits` says whether the store with an id, of this maximum and this count of fields, is as it should be
abbrev pub fits_step : (ℕ → ℕ → ℕ → Bool) → Item-F Bool → Bool
fits_step fits (level.Signal id name start) = true
fits_step fits (level.Memo id name expr) = true
fits_step fits (level.Effect id name expr) = true
fits_step fits (level.Resource id name after keys values) = true
fits_step fits (level.Load id name resource key) = true
fits_step fits (level.Store id name max fields starts) = fits id max (length fields)
fits_step fits (level.Cleanup text) = true
fits_step fits (level.Area id name owner items) = all_fit items
fits_step fits (level.If id cond items) = all_fit items
fits_step fits (level.Each id store items) = all_fit items
fits_step fits (level.Element tag closed attrs items) = all_fit items
fits_step fits (level.Text text) = true
fits_step fits (level.Shown id expr) = true

unfoldable pub item_fits : (ℕ → ℕ → ℕ → Bool) → Item → Bool
item_fits fits = fold-Item Bool (fits_step fits)

-- ---- by what a text asks of the state

abbrev pub store_fits : State → ℕ → ℕ → ℕ → Bool
store_fits state id max width = rows_fit max width (state.rows id)

-- the rows of each store have distinct keys and one value for each field, and are not too many
pub record RowsFit (component : Component) (state : State) : Type 0 where
  pub stores : list_all (item_fits (store_fits state)) component.items ≡ true
  pub keys : (id : ℕ) → keys_differ (state.rows id) ≡ true
  pub few : (id : ℕ) → length (state.rows id) ≤ maximum_in component.items id

-- ---- held state

-- a store that is live has its maximum and its count of fields; one that is dead holds nothing
abbrev pub holding_fits : ℕ → ℕ → Holding → Bool
holding_fits max width nothing = true
holding_fits max width (value code) = true
holding_fits max width (stored store) = (store.max == max) && (store.width == width) && rows_fit max width store.rows
holding_fits max width (arrived key) = true

abbrev pub store_held : Held → ℕ → ℕ → ℕ → Bool
store_held held id max width = holding_fits max width (holding_of held id)

-- the state is of this component, as far as its rows go
pub record Fits (component : Component) (held : Held) : Type 0 where
  pub stores : list_all (item_fits (store_held held)) component.items ≡ true
  pub keys : (id : ℕ) → keys_differ (rows_held held id) ≡ true
  pub few : (id : ℕ) → length (rows_held held id) ≤ maximum_in component.items id
