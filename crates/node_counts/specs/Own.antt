-- What an item counts for itself, apart from the items that it holds.
use Rattle.std.specs.Prelude.{ℕ, ◌*◌, ◌==◌, length, if◌then◌else◌}
use Rattle.std.specs.List.{sum_by}
use Rattle.component_items.specs.declared.component.Item.{Item}
use Rattle.component_items.specs.declared.component.Item.TheOpen as level
use Rattle.component_items.specs.declared.component.Item.TheOpen.{Item-F}
use Rattle.component_items.specs.declared.component.Item.TheViews.{out-Item}
use Rattle.component_items.specs.Counts.{attr_nodes}

abbrev pub own_step : Item-F Item → ℕ
own_step (level.Signal id name start) = 1
own_step (level.Memo id name expr) = 1
own_step (level.Effect id name expr) = 1
own_step (level.Resource id name after keys values) = 0
own_step (level.Load id name resource key) = 2
own_step (level.Store id name max fields starts) = max * length fields
own_step (level.Cleanup text) = 0
own_step (level.Area id name owner items) = 0
own_step (level.If id cond items) = 1
own_step (level.Each id store items) = 0
own_step (level.Element tag closed attrs items) = sum_by attr_nodes attrs
own_step (level.Text text) = 0
own_step (level.Shown id expr) = 1

-- its own nodes
abbrev pub own_nodes : Item → ℕ
own_nodes item = own_step (out-Item item)

abbrev pub times_step : (ℕ → ℕ) → Item-F Item → ℕ
times_step rows (level.Each id store items) = rows store
times_step rows _ = 1

-- how often the nodes of the items that it holds count
abbrev pub times : (ℕ → ℕ) → Item → ℕ
times rows item = times_step rows (out-Item item)

abbrev pub own_rows_step : Item-F Item → ℕ → ℕ
own_rows_step (level.Store id name max fields starts) store = if id == store then max else 0
own_rows_step _ store = 0

-- the most rows of the store with the id, where it is this item
abbrev pub own_rows : Item → ℕ → ℕ
own_rows item store = own_rows_step (out-Item item) store
