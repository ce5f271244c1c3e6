-- What an id stands for, where an expression names it.
use Rattle.std.specs.Prelude.{ℕ, suc, ◌+◌, ◌==◌, if◌then◌else◌, Bool, true, false, List, [], ◌∷◌, ◌++◌, Option, Some, None}
use Rattle.std.specs.List.{flat_map}
use Rattle.values.specs.declared.code.Code.{Code}
use Rattle.component_items.specs.declared.component.Attr.{Attr}
use Rattle.component_items.specs.declared.component.Attr.TheVariants as attr
use Rattle.component_items.specs.declared.component.Component.{Component}
use Rattle.component_items.specs.declared.component.Item.{Item}
use Rattle.component_items.specs.declared.component.Item.TheOpen as level
use Rattle.component_items.specs.declared.component.Item.TheOpen.{Item-F}
use Rattle.component_items.specs.declared.component.Item.TheFolds.{fold-Item}
use Rattle.plain_evaluation.specs.Lookup.{found_in}
use Rattle.plain_evaluation.specs.Place.{Place, place_at}
use Rattle.plain_evaluation.specs.Written.{RowAround, Scene}

-- ---- which ids have a place for each row of a store: fields, and what stands inside an `each`

abbrev pub keyed_fields : ℕ → List ℕ → List (ℕ × Bool)
keyed_fields id [] = []
keyed_fields id (name ∷ fields) = (id, true) ∷ keyed_fields (suc id) fields

abbrev pub keyed_attr : Bool → Attr → List (ℕ × Bool)
keyed_attr inside (attr.Bare name) = []
keyed_attr inside (attr.Fixed name text) = []
keyed_attr inside (attr.Shown name id expr) = (id, inside) ∷ []

-- items one after another
abbrev pub keyed_all : Bool → List (Bool → List (ℕ × Bool)) → List (ℕ × Bool)
keyed_all inside [] = []
keyed_all inside (one ∷ others) = one inside ++ keyed_all inside others

-- each id that the item takes, in text order, with whether it has a place for each row
abbrev pub keyed_step : Item-F (Bool → List (ℕ × Bool)) → Bool → List (ℕ × Bool)
keyed_step (level.Signal id name start) inside = (id, inside) ∷ []
keyed_step (level.Memo id name expr) inside = (id, inside) ∷ []
keyed_step (level.Effect id name expr) inside = (id, inside) ∷ []
keyed_step (level.Resource id name after keys values) inside = (id, inside) ∷ []
keyed_step (level.Load id name resource key) inside = (id, inside) ∷ (suc id, inside) ∷ []
keyed_step (level.Store id name max fields starts) inside = (id, inside) ∷ (suc id, inside) ∷ keyed_fields (2 + id) fields
keyed_step (level.Cleanup text) inside = []
keyed_step (level.Area id name owner items) inside = (id, inside) ∷ keyed_all inside items
keyed_step (level.If id cond items) inside = (id, inside) ∷ keyed_all inside items
keyed_step (level.Each id store items) inside = (id, inside) ∷ keyed_all true items
keyed_step (level.Element tag closed attrs items) inside = flat_map (keyed_attr inside) attrs ++ keyed_all inside items
keyed_step (level.Text text) inside = []
keyed_step (level.Shown id expr) inside = (id, inside) ∷ []

unfoldable pub item_keyed : Item → Bool → List (ℕ × Bool)
item_keyed = fold-Item (Bool → List (ℕ × Bool)) keyed_step

abbrev pub items_keyed : List Item → Bool → List (ℕ × Bool)
items_keyed [] inside = []
items_keyed (item ∷ items) inside = item_keyed item inside ++ items_keyed items inside

abbrev pub flag_of : List (ℕ × Bool) → ℕ → Bool
flag_of = found_in false

abbrev pub is_keyed : Component → ℕ → Bool
is_keyed component id = flag_of (items_keyed component.items false) id

-- ---- what an id stands for

-- a value as it stands, or the value of a place
pub data Stand : Type 0 where
  literal : Code → Stand
  place : Place → Stand

-- in a row of a store: the key of that row, the place in that row, or the one that is in none; outside: the one that is in none
abbrev pub stands_in : Bool → Option RowAround → ℕ → Stand
stands_in keyed None id = place (place_at id None)
stands_in keyed (Some row) id = if id == suc row.store then literal row.key else place (place_at id (if keyed then Some row.key else None))

abbrev pub stands_for : (ℕ → Bool) → Scene → ℕ → Stand
stands_for keyed scene id = stands_in (keyed id) scene.row id
