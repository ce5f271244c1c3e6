-- The loads of a component, in order of declaration.
use Rattle.std.specs.Prelude.{ℕ, suc, ◌==◌, ◌&&◌, not, if◌then◌else◌, Bool, List, [], ◌∷◌, map, Option, Some, None, unwrap_or}
use Rattle.std.specs.List.{flat_map, filter}
use Rattle.values.specs.declared.code.Code.{Code}
use Rattle.component_items.specs.declared.component.Component.{Component}
use Rattle.component_items.specs.declared.component.Item.{Item}
use Rattle.component_items.specs.declared.component.Item.TheOpen as level
use Rattle.component_items.specs.declared.component.Item.TheOpen.{Item-F}
use Rattle.component_items.specs.declared.component.Item.TheViews.{out-Item}
use Rattle.component_items.specs.declared.component.Item.TheFolds.{fold-Item}
use Rattle.plain_evaluation.specs.Place.{outside}
use Rattle.plain_evaluation.specs.Scratch.{scratch_in, has_arrived}
use Rattle.plain_evaluation.specs.Written.{State, pairs_among}
use Rattle.plan_meaning.specs.Told.{owner_of_id}

-- ---- after how many attempts a load of a resource arrives, by the resource's id; resources stand at the top alone

abbrev pub after_step : ℕ → Item-F Item → Option ℕ
after_step id (level.Signal own name start) = None
after_step id (level.Memo own name expr) = None
after_step id (level.Effect own name expr) = None
after_step id (level.Resource own name after keys values) = if own == id then Some after else None
after_step id (level.Load own name resource key) = None
after_step id (level.Store own name max fields starts) = None
after_step id (level.Cleanup text) = None
after_step id (level.Area own name owner items) = None
after_step id (level.If own cond items) = None
after_step id (level.Each own store items) = None
after_step id (level.Element tag closed attrs items) = None
after_step id (level.Text text) = None
after_step id (level.Shown own expr) = None

abbrev pub after_among : List Item → ℕ → ℕ
after_among [] id = 0
after_among (item ∷ items) id = unwrap_or (after_step id (out-Item item)) (after_among items id)

-- ---- loads, those in areas too

-- A load: the id of its resource, how many attempts there are before it arrives, and its values by key. The id of
-- its key is the next one.
pub record LoadOf : Type 0 where
  pub id : ℕ
  pub resource : ℕ
  pub after : ℕ
  pub pairs : List (Code × Code)

-- one item, where `pairs` and `after` say what a resource is, by its id
abbrev pub loads_step : (ℕ → List (Code × Code)) → (ℕ → ℕ) → Item-F (List LoadOf) → List LoadOf
loads_step pairs after (level.Signal id name start) = []
loads_step pairs after (level.Memo id name expr) = []
loads_step pairs after (level.Effect id name expr) = []
loads_step pairs after (level.Resource id name own_after keys values) = []
loads_step pairs after (level.Load id name resource key) = record { id = id; resource = resource; after = after resource; pairs = pairs resource } ∷ []
loads_step pairs after (level.Store id name max fields starts) = []
loads_step pairs after (level.Cleanup text) = []
loads_step pairs after (level.Area id name owner items) = flat_map (λ one. one) items
loads_step pairs after (level.If id cond items) = flat_map (λ one. one) items
loads_step pairs after (level.Each id store items) = flat_map (λ one. one) items
loads_step pairs after (level.Element tag closed attrs items) = flat_map (λ one. one) items
loads_step pairs after (level.Text text) = []
loads_step pairs after (level.Shown id expr) = []

unfoldable pub item_loads : (ℕ → List (Code × Code)) → (ℕ → ℕ) → Item → List LoadOf
item_loads pairs after = fold-Item (List LoadOf) (loads_step pairs after)

abbrev pub loads_among : (ℕ → List (Code × Code)) → (ℕ → ℕ) → List Item → List LoadOf
loads_among pairs after items = flat_map (item_loads pairs after) items

-- the loads of the component, whether live or not
abbrev pub loads_in : Component → List LoadOf
loads_in component = loads_among (pairs_among component.items) (after_among component.items) component.items

-- ---- which of them are pending

-- the owner of the load is live
abbrev pub is_live_load : Component → State → LoadOf → Bool
is_live_load component state load = state.live (owner_of_id component load.id)

-- and the key that arrived, if one did, is not the value of its key
abbrev pub is_pending : Component → State → LoadOf → Bool
is_pending component state load = is_live_load component state load && not (has_arrived (state.arrived load.id) (scratch_in component state (outside (suc load.id))))

abbrev pub pending_among : Component → State → List LoadOf → List ℕ
pending_among component state loads = map (λ load. load.id) (filter (is_pending component state) loads)
