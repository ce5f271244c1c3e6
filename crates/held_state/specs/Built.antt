-- The state at the start, as it is put together item by item.
use Rattle.std.specs.Prelude.{◌≡◌, ℕ, ◌<◌, ◌^◌, false, map, length, List, ◌∷◌, ◌++◌}
use Rattle.std.specs.List.{flat_map, range_with_len}
use Rattle.component_items.specs.declared.component.Item.{Item}
use Rattle.component_items.specs.Ids.{ids_in, item_owners, owners_in}
use Rattle.plain_evaluation.specs.Held.{Holding, item_first}
use Rattle.plain_evaluation.specs.Killed.{Going, item_ids_going, ids_going, item_owners_going, owners_going}

-- what goes with each area of an item, where what is around it stays
abbrev pub item_goings : Item → List Going
item_goings item = map (λ owner. record { ids = item_ids_going owner item false; owners = item_owners_going owner item false }) (item_owners item)

abbrev pub goings_in : List Item → List Going
goings_in items = map (λ owner. record { ids = ids_going owner items false; owners = owners_going owner items false }) (owners_in items)

-- what each id so far holds, and what goes with each owner so far
pub record Built : Type 0 where
  pub holdings : List Holding
  pub goings : List Going

-- with something more for further ids
abbrev pub with_more : List Holding → Built → Built
with_more more built = record { holdings = built.holdings ++ more; goings = built.goings }

abbrev pub with_item : Item → Built → Built
with_item item built = record { holdings = built.holdings ++ item_first item; goings = built.goings ++ item_goings item }

abbrev pub with_items : List Item → Built → Built
with_items items built = record { holdings = built.holdings ++ flat_map item_first items; goings = built.goings ++ goings_in items }

-- with an owner that has these items around it
abbrev pub with_area : List Item → Built → Built
with_area items built = record {
  holdings = built.holdings ++ flat_map item_first items;
  goings = built.goings ++ record { ids = ids_in items; owners = length built.goings ∷ owners_in items } ∷ goings_in items;
}

-- the ids and owners are the next
pub record AreNext (built : Built) (ids owners : List ℕ) : Type 0 where
  pub ids_next : ids ≡ range_with_len (length built.holdings) (length ids)
  pub owners_next : owners ≡ range_with_len (length built.goings) (length owners)
  pub few : length ids < 2 ^ 31
