-- The ids and the owners that the items of a component take, in text order.
use Rattle.std.specs.Prelude.{◌≡◌, ℕ, suc, ◌+◌, length, List, [], ◌∷◌, ◌++◌}
use Rattle.std.specs.List.{flat_map, concat, range_with_len}
use Rattle.component_items.specs.declared.component.Attr.{Attr}
use Rattle.component_items.specs.declared.component.Attr.TheVariants as attr
use Rattle.component_items.specs.declared.component.Item.{Item}
use Rattle.component_items.specs.declared.component.Item.TheOpen as level
use Rattle.component_items.specs.declared.component.Item.TheOpen.{Item-F}
use Rattle.component_items.specs.declared.component.Item.TheFolds.{fold-Item}

-- ---- ids

-- a shown attribute takes one
abbrev pub attr_ids : Attr → List ℕ
attr_ids (attr.Bare name) = []
attr_ids (attr.Fixed name text) = []
attr_ids (attr.Shown name id expr) = id ∷ []

-- One item, with the ids of its own items in their places: a load takes a second id for its key, and a store
-- takes one for its key and one for each field.
abbrev pub ids_step : Item-F (List ℕ) → List ℕ
ids_step (level.Signal id name start) = id ∷ []
ids_step (level.Memo id name expr) = id ∷ []
ids_step (level.Effect id name expr) = id ∷ []
ids_step (level.Resource id name after keys values) = id ∷ []
ids_step (level.Load id name resource key) = id ∷ suc id ∷ []
ids_step (level.Store id name max fields starts) = range_with_len id (2 + length fields)
ids_step (level.Cleanup text) = []
ids_step (level.Area id name owner items) = id ∷ concat items
ids_step (level.If id cond items) = id ∷ concat items
ids_step (level.Each id store items) = id ∷ concat items
ids_step (level.Element tag closed attrs items) = flat_map attr_ids attrs ++ concat items
ids_step (level.Text text) = []
ids_step (level.Shown id expr) = id ∷ []

unfoldable pub item_ids : Item → List ℕ
item_ids = fold-Item (List ℕ) ids_step

abbrev pub ids_in : List Item → List ℕ
ids_in items = flat_map item_ids items

-- ---- owners: each area is one

abbrev pub owners_step : Item-F (List ℕ) → List ℕ
owners_step (level.Area id name owner items) = owner ∷ concat items
owners_step (level.If id cond items) = concat items
owners_step (level.Each id store items) = concat items
owners_step (level.Element tag closed attrs items) = concat items
owners_step _ = []

unfoldable pub item_owners : Item → List ℕ
item_owners = fold-Item (List ℕ) owners_step

abbrev pub owners_in : List Item → List ℕ
owners_in items = flat_map item_owners items

-- the ids are 0, 1, 2 and so on in text order, and so are the owners from 1 on; owner 0 is the top
pub record IsNumbered (items : List Item) : Type 0 where
  pub ids : ids_in items ≡ range_with_len 0 (length (ids_in items))
  pub owners : owners_in items ≡ range_with_len 1 (length (owners_in items))
