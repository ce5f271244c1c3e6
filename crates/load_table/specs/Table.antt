-- How the table holds loads: its resources by id, and of each load all but the pairs of its resource.
use Rattle.std.specs.Prelude.{ℕ, nat_eq, List, [], ◌∷◌, map, slice_get, Option}
use Rattle.std.specs.List.{flat_map, zip}
use Rattle.std.specs.Option.{option_map, option_map_or}
use Rattle.indexmap.specs.IndexMap.{insert_all}
use Rattle.values.specs.declared.code.Code.{Code}
use Rattle.values.specs.contracts.code.CodePartialEq.TheImpl as code
use Rattle.component_items.specs.declared.component.Item.{Item}
use Rattle.component_items.specs.declared.component.Item.TheOpen as level
use Rattle.component_items.specs.declared.component.Item.TheOpen.{Item-F}
use Rattle.component_items.specs.declared.component.Item.TheViews.{out-Item}
use Rattle.plain_evaluation.specs.Lookup.{found_in}
use Rattle.load_table.specs.declared.load.Load.{Load}
use Rattle.load_table.specs.Loads.{LoadOf}

-- ---- resources

-- after how many attempts a load of it arrives, and its values by key
pub record ResourceOf : Type 0 where
  pub after : ℕ
  pub pairs : List (Code × Code)

abbrev pub no_resource : ResourceOf
no_resource = record { after = 0; pairs = [] }

abbrev pub after_by : List (ℕ × ResourceOf) → ℕ → ℕ
after_by resources id = (found_in no_resource resources id).after

abbrev pub pairs_by : List (ℕ × ResourceOf) → ℕ → List (Code × Code)
pairs_by resources id = (found_in no_resource resources id).pairs

-- the pairs of keys and values, put into a map one after another
abbrev pub pairs_put : List (Code × Code) → List (Code × Code) → List (Code × Code)
pairs_put old pairs = insert_all code.ghosts.eq old pairs

abbrev pub resource_of : ℕ → List Code → List Code → ResourceOf
resource_of after keys codes = record { after = after; pairs = pairs_put [] (zip keys codes) }

abbrev pub resource_told : Item-F Item → List (ℕ × ResourceOf)
resource_told (level.Signal id name start) = []
resource_told (level.Memo id name expr) = []
resource_told (level.Effect id name expr) = []
resource_told (level.Resource id name after keys values) = (id, resource_of after keys values) ∷ []
resource_told (level.Load id name resource key) = []
resource_told (level.Store id name max fields starts) = []
resource_told (level.Cleanup text) = []
resource_told (level.Area id name owner items) = []
resource_told (level.If id cond items) = []
resource_told (level.Each id store items) = []
resource_told (level.Element tag closed attrs items) = []
resource_told (level.Text text) = []
resource_told (level.Shown id expr) = []

abbrev pub resources_told : List Item → List (ℕ × ResourceOf)
resources_told items = flat_map (λ item. resource_told (out-Item item)) items

-- the resources, put into a map one after another
abbrev pub resources_put : List (ℕ × ResourceOf) → List (ℕ × ResourceOf) → List (ℕ × ResourceOf)
resources_put old resources = insert_all nat_eq old resources

-- ---- loads

-- a load with the pairs of its resource
abbrev pub load_with : List (ℕ × ResourceOf) → Load → LoadOf
load_with resources load = record { id = load.id; resource = load.resource; after = load.after; pairs = pairs_by resources load.resource }

abbrev pub loads_with : List (ℕ × ResourceOf) → List Load → List LoadOf
loads_with resources loads = map (load_with resources) loads

-- a load without them
abbrev pub load_alone : LoadOf → Load
load_alone load = record { id = load.id; resource = load.resource; after = load.after }

abbrev pub load_at : List LoadOf → ℕ → Option Load
load_at loads place = option_map load_alone (slice_get loads place)

abbrev pub pairs_at : List LoadOf → ℕ → List (Code × Code)
pairs_at loads place = option_map_or (λ load. load.pairs) (slice_get loads place) []
