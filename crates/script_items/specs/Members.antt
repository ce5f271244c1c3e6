-- What stands outside the `if`s and `each`es of a component: what a script may name.
use Rattle.std.specs.Prelude.{ℕ, suc, ◌+◌, List, [], ◌∷◌, length}
use Rattle.std.specs.List.{flat_map, range_with_len}
use Rattle.component_items.specs.declared.component.Item.{Item}
use Rattle.component_items.specs.declared.component.Item.TheOpen as level
use Rattle.component_items.specs.declared.component.Item.TheOpen.{Item-F}
use Rattle.component_items.specs.declared.component.Item.TheFolds.{fold-Item}

-- a signal, memo, load or store with its id, a store with how many fields it has, and an area with its owner
pub data Member : Type 0 where
  a_signal : ℕ → Member
  a_memo : ℕ → Member
  a_load : ℕ → Member
  a_store : ℕ → ℕ → Member
  an_area : ℕ → Member

abbrev pub members_step : Item-F (List Member) → List Member
members_step (level.Signal id name start) = a_signal id ∷ []
members_step (level.Memo id name expr) = a_memo id ∷ []
members_step (level.Effect id name expr) = []
members_step (level.Resource id name after keys values) = []
members_step (level.Load id name resource key) = a_load id ∷ []
members_step (level.Store id name max fields starts) = a_store id (length fields) ∷ []
members_step (level.Cleanup text) = []
members_step (level.Area id name owner items) = an_area owner ∷ flat_map (λ one. one) items
members_step (level.If id cond items) = []
members_step (level.Each id store items) = []
members_step (level.Element tag closed attrs items) = flat_map (λ one. one) items
members_step (level.Text text) = []
members_step (level.Shown id expr) = []

unfoldable pub item_members : Item → List Member
item_members = fold-Item (List Member) members_step

-- those of a whole component, in text order
abbrev pub members_of : List Item → List Member
members_of items = flat_map item_members items

-- the ids that a member takes: a load has one more for its key, a store one for its key and one for each field
abbrev pub ids_taken : Member → List ℕ
ids_taken (a_signal id) = id ∷ []
ids_taken (a_memo id) = id ∷ []
ids_taken (a_load id) = id ∷ suc id ∷ []
ids_taken (a_store id fields) = range_with_len id (2 + fields)
ids_taken (an_area owner) = []
