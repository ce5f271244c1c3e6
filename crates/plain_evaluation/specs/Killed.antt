-- What a disposal takes: the owner, all owners inside it, and all that these own.
use Rattle.std.specs.Prelude.{◌≡◌, ℕ, suc, ◌+◌, ◌==◌, ◌&&◌, ◌||◌, not, if◌then◌else◌, Bool, true, false, length, slice_set, List, [], ◌∷◌, ◌++◌}
use Rattle.std.specs.List.{flat_map, list_all, range_with_len}
use Rattle.component_items.specs.declared.component.Component.{Component}
use Rattle.component_items.specs.declared.component.Item.{Item}
use Rattle.component_items.specs.declared.component.Item.TheOpen as level
use Rattle.component_items.specs.declared.component.Item.TheOpen.{Item-F}
use Rattle.component_items.specs.declared.component.Item.TheFolds.{fold-Item}
use Rattle.component_items.specs.Ids.{attr_ids}
use Rattle.plain_evaluation.specs.Held.{nothing, Held, is_live}

-- what goes with an owner, in text order
pub record Going : Type 0 where
  pub ids : List ℕ
  pub owners : List ℕ

abbrev pub none_going : Going
none_going = record { ids = []; owners = [] }

-- these, if they go
abbrev pub going_if : Bool → List ℕ → List ℕ
going_if goes numbers = if goes then numbers else []

-- items one after another
abbrev pub going_all : List (Bool → List ℕ) → Bool → List ℕ
going_all [] goes = []
going_all (one ∷ others) goes = one goes ++ going_all others goes

-- One item: the ids of it that go, where `goes` says whether what stands around it does. An area that is disposed takes all that is in it.
abbrev pub ids_going_step : ℕ → Item-F (Bool → List ℕ) → Bool → List ℕ
ids_going_step owner (level.Signal id name start) goes = going_if goes (id ∷ [])
ids_going_step owner (level.Memo id name expr) goes = going_if goes (id ∷ [])
ids_going_step owner (level.Effect id name expr) goes = going_if goes (id ∷ [])
ids_going_step owner (level.Resource id name after keys values) goes = going_if goes (id ∷ [])
ids_going_step owner (level.Load id name resource key) goes = going_if goes (id ∷ suc id ∷ [])
ids_going_step owner (level.Store id name max fields starts) goes = going_if goes (range_with_len id (2 + length fields))
ids_going_step owner (level.Cleanup text) goes = []
ids_going_step owner (level.Area id name own items) goes = going_if goes (id ∷ []) ++ going_all items (goes || own == owner)
ids_going_step owner (level.If id cond items) goes = going_if goes (id ∷ []) ++ going_all items goes
ids_going_step owner (level.Each id store items) goes = going_if goes (id ∷ []) ++ going_all items goes
ids_going_step owner (level.Element tag closed attrs items) goes = going_if goes (flat_map attr_ids attrs) ++ going_all items goes
ids_going_step owner (level.Text text) goes = []
ids_going_step owner (level.Shown id expr) goes = going_if goes (id ∷ [])

unfoldable pub item_ids_going : ℕ → Item → Bool → List ℕ
item_ids_going owner = fold-Item (Bool → List ℕ) (ids_going_step owner)

abbrev pub ids_going : ℕ → List Item → Bool → List ℕ
ids_going owner [] goes = []
ids_going owner (item ∷ items) goes = item_ids_going owner item goes ++ ids_going owner items goes

-- the same for owners: each area is one
abbrev pub owners_going_step : ℕ → Item-F (Bool → List ℕ) → Bool → List ℕ
owners_going_step owner (level.Signal id name start) goes = []
owners_going_step owner (level.Memo id name expr) goes = []
owners_going_step owner (level.Effect id name expr) goes = []
owners_going_step owner (level.Resource id name after keys values) goes = []
owners_going_step owner (level.Load id name resource key) goes = []
owners_going_step owner (level.Store id name max fields starts) goes = []
owners_going_step owner (level.Cleanup text) goes = []
owners_going_step owner (level.Area id name own items) goes = going_if (goes || own == owner) (own ∷ []) ++ going_all items (goes || own == owner)
owners_going_step owner (level.If id cond items) goes = going_all items goes
owners_going_step owner (level.Each id store items) goes = going_all items goes
owners_going_step owner (level.Element tag closed attrs items) goes = going_all items goes
owners_going_step owner (level.Text text) goes = []
owners_going_step owner (level.Shown id expr) goes = []

unfoldable pub item_owners_going : ℕ → Item → Bool → List ℕ
item_owners_going owner = fold-Item (Bool → List ℕ) (owners_going_step owner)

abbrev pub owners_going : ℕ → List Item → Bool → List ℕ
owners_going owner [] goes = []
owners_going owner (item ∷ items) goes = item_owners_going owner item goes ++ owners_going owner items goes

-- what goes with the owner; owner 0 is the top, around all
abbrev pub going_with : Component → ℕ → Going
going_with component owner = record {
  ids = ids_going owner component.items (owner == 0);
  owners = going_if (owner == 0) (0 ∷ []) ++ owners_going owner component.items (owner == 0);
}

-- the list with this at each of the places
abbrev pub with_each : {A : Type 0} → A → List ℕ → List A → List A
with_each new [] list = list
with_each new (place ∷ places) list = with_each new places (slice_set list place new)

-- the state without what goes: its owners are dead, and its ids hold nothing
abbrev pub without : Going → Held → Held
without going held = record { holdings = with_each nothing going.ids held.holdings; live = with_each false going.owners held.live }

-- the state after the disposal of an owner
abbrev pub killed : Component → ℕ → Held → Held
killed component owner held = without (going_with component owner) held

-- ---- an owner is live only where the one around it is

abbrev pub nest_all : List (Bool → Bool) → Bool → Bool
nest_all items around = list_all (λ item. item around) items

-- one item, where `live` says which owners are live, and `around` whether the one around the item is
abbrev pub nests_step : (ℕ → Bool) → Item-F (Bool → Bool) → Bool → Bool
nests_step live (level.Signal id name start) around = true
nests_step live (level.Memo id name expr) around = true
nests_step live (level.Effect id name expr) around = true
nests_step live (level.Resource id name after keys values) around = true
nests_step live (level.Load id name resource key) around = true
nests_step live (level.Store id name max fields starts) around = true
nests_step live (level.Cleanup text) around = true
nests_step live (level.Area id name owner items) around = (around || not (live owner)) && nest_all items (live owner)
nests_step live (level.If id cond items) around = nest_all items around
nests_step live (level.Each id store items) around = nest_all items around
nests_step live (level.Element tag closed attrs items) around = nest_all items around
nests_step live (level.Text text) around = true
nests_step live (level.Shown id expr) around = true

unfoldable pub item_nests : (ℕ → Bool) → Item → Bool → Bool
item_nests live = fold-Item (Bool → Bool) (nests_step live)

pub record OwnersFit (component : Component) (held : Held) : Type 0 where
  pub areas : list_all (λ item. item_nests (is_live held) item (is_live held 0)) component.items ≡ true
