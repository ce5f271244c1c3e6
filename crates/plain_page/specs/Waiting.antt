-- Pending loads, in the order of the text, as the code goes through it.
use Rattle.std.specs.Prelude.{ℕ, suc, if◌then◌else◌, List, [], ◌∷◌, ◌++◌}
use Rattle.std.specs.List.{flat_map}
use Rattle.component_items.specs.declared.component.Item.{Item}
use Rattle.component_items.specs.declared.component.Item.TheOpen as level
use Rattle.component_items.specs.declared.component.Item.TheOpen.{Item-F}
use Rattle.component_items.specs.declared.component.Item.TheFolds.{fold-Item}
use Rattle.plain_evaluation.specs.Place.{outside}
use Rattle.plain_evaluation.specs.Scratch.{Values, has_arrived}
use Rattle.plain_evaluation.specs.Written.{State}

-- a load, where its key has not arrived
abbrev pub load_waiting : State → Values → ℕ → List ℕ
load_waiting state values id = if has_arrived (state.arrived id) (values (outside (suc id))) then [] else id ∷ []

abbrev pub all_waiting : List (List ℕ) → List ℕ
all_waiting items = flat_map (λ one. one) items

abbrev pub waiting_step : State → Values → Item-F (List ℕ) → List ℕ
waiting_step state values (level.Signal id name start) = []
waiting_step state values (level.Memo id name expr) = []
waiting_step state values (level.Effect id name expr) = []
waiting_step state values (level.Resource id name after keys codes) = []
waiting_step state values (level.Load id name resource key) = load_waiting state values id
waiting_step state values (level.Store id name max fields starts) = []
waiting_step state values (level.Cleanup text) = []
waiting_step state values (level.Area id name owner items) = if state.live owner then all_waiting items else []
waiting_step state values (level.If id cond items) = all_waiting items
waiting_step state values (level.Each id store items) = flat_map (λ row. all_waiting items) (state.rows store)
waiting_step state values (level.Element tag closed attrs items) = all_waiting items
waiting_step state values (level.Text text) = []
waiting_step state values (level.Shown id expr) = []

unfoldable pub item_waiting : State → Values → Item → List ℕ
item_waiting state values = fold-Item (List ℕ) (waiting_step state values)

abbrev pub items_waiting : State → Values → List Item → List ℕ
items_waiting state values [] = []
items_waiting state values (item ∷ items) = item_waiting state values item ++ items_waiting state values items
