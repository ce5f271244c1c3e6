-- How many nodes the items of a component lay out in the worst case.
use Rattle.std.specs.Prelude.{ℕ, ◌+◌, ◌*◌, ◌==◌, length, List, [], ◌∷◌, if◌then◌else◌}
use Rattle.std.specs.List.{sum, sum_by}
use Rattle.component_items.specs.declared.component.Attr.{Attr}
use Rattle.component_items.specs.declared.component.Attr.TheVariants as attr
use Rattle.component_items.specs.declared.component.Item.{Item}
use Rattle.component_items.specs.declared.component.Item.TheOpen as level
use Rattle.component_items.specs.declared.component.Item.TheOpen.{Item-F}
use Rattle.component_items.specs.declared.component.Item.TheFolds.{fold-Item}

-- ---- the most rows of each store

abbrev pub maximum_among : ℕ → List (ℕ → ℕ) → ℕ
maximum_among store [] = 0
maximum_among store (one ∷ others) = one store + maximum_among store others

-- the most rows of the store with the id, where it is declared in the item
abbrev pub maximum_step : Item-F (ℕ → ℕ) → ℕ → ℕ
maximum_step (level.Store id name max fields starts) store = if id == store then max else 0
maximum_step (level.Area id name owner items) store = maximum_among store items
maximum_step (level.If id cond items) store = maximum_among store items
maximum_step (level.Each id each_store items) store = maximum_among store items
maximum_step (level.Element tag closed attrs items) store = maximum_among store items
maximum_step _ store = 0

unfoldable pub item_maximum : Item → ℕ → ℕ
item_maximum = fold-Item (ℕ → ℕ) maximum_step

-- the most rows of the store with the id among these items
abbrev pub maximum_in : List Item → ℕ → ℕ
maximum_in items store = sum_by (λ item. item_maximum item store) items

-- ---- nodes

abbrev pub attr_nodes : Attr → ℕ
attr_nodes (attr.Bare name) = 0
attr_nodes (attr.Fixed name text) = 0
attr_nodes (attr.Shown name id expr) = 1

-- One item, where `most` gives the most rows of each store: a load has a node for its key too, a store one for
-- each field of each row, and an `each` those of its items for each row.
abbrev pub nodes_step : (ℕ → ℕ) → Item-F ℕ → ℕ
nodes_step most (level.Signal id name start) = 1
nodes_step most (level.Memo id name expr) = 1
nodes_step most (level.Effect id name expr) = 1
nodes_step most (level.Resource id name after keys values) = 0
nodes_step most (level.Load id name resource key) = 2
nodes_step most (level.Store id name max fields starts) = max * length fields
nodes_step most (level.Cleanup text) = 0
nodes_step most (level.Area id name owner items) = sum items
nodes_step most (level.If id cond items) = 1 + sum items
nodes_step most (level.Each id store items) = most store * sum items
nodes_step most (level.Element tag closed attrs items) = sum_by attr_nodes attrs + sum items
nodes_step most (level.Text text) = 0
nodes_step most (level.Shown id expr) = 1

unfoldable pub item_nodes : (ℕ → ℕ) → Item → ℕ
item_nodes most = fold-Item ℕ (nodes_step most)

-- the nodes of a whole component
abbrev pub nodes_of : List Item → ℕ
nodes_of items = sum_by (item_nodes (maximum_in items)) items
