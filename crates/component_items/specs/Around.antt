-- What stands around each id of a component: its owner, and the path by which it is named.
use Rattle.std.specs.Prelude.{ℕ, suc, ◌+◌, ◌==◌, List, [], ◌∷◌, ◌++◌, Option}
use Rattle.std.specs.List.{find}
use Rattle.std.specs.Option.{option_map}
use Rattle.component_items.specs.declared.component.Attr.{Attr}
use Rattle.component_items.specs.declared.component.Attr.TheVariants as attr
use Rattle.component_items.specs.declared.component.Item.{Item}
use Rattle.component_items.specs.declared.component.Item.TheOpen as level
use Rattle.component_items.specs.declared.component.Item.TheOpen.{Item-F}
use Rattle.component_items.specs.declared.component.Item.TheFolds.{fold-Item}
use Rattle.component_items.specs.Parts.{Parts}

-- the innermost area around a place, as an owner, and the names of all areas around it, the outermost first
pub record Around : Type 0 where
  pub owner : ℕ
  pub areas : List ℕ

abbrev pub top : Around
top = record { owner = 0; areas = [] }

abbrev pub within : ℕ → ℕ → Around → Around
within name owner around = record { owner = owner; areas = around.areas ++ name ∷ [] }

-- an id with its owner and its path: the names of the areas around it, and the name that it is declared with, if it has one
pub record Listed : Type 0 where
  pub id : ℕ
  pub owner : ℕ
  pub path : List ℕ

abbrev pub named : ℕ → ℕ → Around → Listed
named id name around = record { id = id; owner = around.owner; path = around.areas ++ name ∷ [] }

abbrev pub nameless : ℕ → Around → Listed
nameless id around = record { id = id; owner = around.owner; path = around.areas }

-- the fields of a store have their own names
abbrev pub listed_fields : ℕ → List ℕ → Around → List Listed
listed_fields id [] around = []
listed_fields id (name ∷ fields) around = named id name around ∷ listed_fields (suc id) fields around

abbrev pub listed_attr : Around → Attr → List Listed
listed_attr around (attr.Bare name) = []
listed_attr around (attr.Fixed name text) = []
listed_attr around (attr.Shown name id expr) = nameless id around ∷ []

abbrev pub listed_attrs : Around → List Attr → List Listed
listed_attrs around [] = []
listed_attrs around (a ∷ attrs) = listed_attr around a ++ listed_attrs around attrs

-- items whose lists are known for each place, at this place
abbrev pub listed_all : Around → List (Around → List Listed) → List Listed
listed_all around [] = []
listed_all around (one ∷ others) = one around ++ listed_all around others

-- One item: each id that it takes, in text order. What is in an area has that area around it.
abbrev pub listed_step : Item-F (Around → List Listed) → Around → List Listed
listed_step (level.Signal id name start) around = named id name around ∷ []
listed_step (level.Memo id name expr) around = named id name around ∷ []
listed_step (level.Effect id name expr) around = named id name around ∷ []
listed_step (level.Resource id name after keys values) around = named id name around ∷ []
listed_step (level.Load id name resource key) around = named id name around ∷ nameless (suc id) around ∷ []
listed_step (level.Store id name max fields starts) around = named id name around ∷ nameless (suc id) around ∷ listed_fields (2 + id) fields around
listed_step (level.Cleanup text) around = []
listed_step (level.Area id name owner items) around = named id name around ∷ listed_all (within name owner around) items
listed_step (level.If id cond items) around = nameless id around ∷ listed_all around items
listed_step (level.Each id store items) around = nameless id around ∷ listed_all around items
listed_step (level.Element tag closed attrs items) around = listed_attrs around attrs ++ listed_all around items
listed_step (level.Text text) around = []
listed_step (level.Shown id expr) around = nameless id around ∷ []

unfoldable pub item_listed : Item → Around → List Listed
item_listed = fold-Item (Around → List Listed) listed_step

abbrev pub items_listed : List Item → Around → List Listed
items_listed [] around = []
items_listed (item ∷ items) around = item_listed item around ++ items_listed items around

-- where the id stands among these items, if one of them takes it
abbrev pub find_id : ℕ → List Item → Around → Option Listed
find_id id items around = find (λ l. l.id == id) (items_listed items around)

-- the owner of an id, and its path
abbrev pub owner_of_id : Parts → ℕ → Option ℕ
owner_of_id component id = option_map (λ l. l.owner) (find_id id component.items top)

abbrev pub path_of_id : Parts → ℕ → Option (List ℕ)
path_of_id component id = option_map (λ l. l.path) (find_id id component.items top)
