-- The state at the start, as the text gives it.
use Rattle.std.specs.Prelude.{◌≡◌, ℕ, ◌==◌, ◌&&◌, Bool, true, false, length, List, [], None}
use Rattle.std.specs.List.{list_all}
use Rattle.values.specs.Evaluation.{is_same}
use Rattle.component_items.specs.declared.component.Component.{Component}
use Rattle.component_items.specs.declared.component.Item.{Item}
use Rattle.component_items.specs.declared.component.Item.TheOpen as level
use Rattle.component_items.specs.declared.component.Item.TheOpen.{Item-F}
use Rattle.component_items.specs.declared.component.Item.TheFolds.{fold-Item}
use Rattle.plain_evaluation.specs.Held.{Holding, nothing, value, stored, arrived, Held, holding_of, is_live, value_held, rows_held, arrived_held}

abbrev pub all_begin : List Bool → Bool
all_begin items = list_all (λ b. b) items

-- a store with no rows, of this maximum and this count of fields
abbrev pub store_begins : ℕ → ℕ → Holding → Bool
store_begins max width nothing = false
store_begins max width (value code) = false
store_begins max width (stored store) = (store.max == max) && (store.width == width) && (length store.rows == 0)
store_begins max width (arrived key) = false

-- each signal has its start, each store its maximum and its count of fields and no rows, and each area is live
abbrev pub begins_step : Held → Item-F Bool → Bool
begins_step held (level.Signal id name start) = is_same (value_held held id) start
begins_step held (level.Memo id name expr) = true
begins_step held (level.Effect id name expr) = true
begins_step held (level.Resource id name after keys values) = true
begins_step held (level.Load id name resource key) = true
begins_step held (level.Store id name max fields starts) = store_begins max (length fields) (holding_of held id)
begins_step held (level.Cleanup text) = true
begins_step held (level.Area id name owner items) = is_live held owner && all_begin items
begins_step held (level.If id cond items) = all_begin items
begins_step held (level.Each id store items) = all_begin items
begins_step held (level.Element tag closed attrs items) = all_begin items
begins_step held (level.Text text) = true
begins_step held (level.Shown id expr) = true

unfoldable pub item_begins : Held → Item → Bool
item_begins held = fold-Item Bool (begins_step held)

pub record Begins (component : Component) (held : Held) : Type 0 where
  pub items : list_all (item_begins held) component.items ≡ true
  pub top : is_live held 0 ≡ true
  -- no store has a row yet, and no key has arrived
  pub rows : (id : ℕ) → rows_held held id ≡ []
  pub arrived : (id : ℕ) → arrived_held held id ≡ None
