-- Held state as contracts see it, and when it is that of a component.
use Rattle.std.specs.Prelude.{◌≡◌, ℕ, map, slice_index_or, List, ◌∷◌}
use Rattle.component_items.specs.declared.component.Component.{Component}
use Rattle.component_items.specs.Ids.{owners_in}
use Rattle.plain_evaluation.specs.Held.{Held, first_held}
use Rattle.plain_evaluation.specs.Fits.{Fits}
use Rattle.plain_evaluation.specs.Killed.{Going, none_going, going_with, OwnersFit}
use Rattle.plain_evaluation.specs.Changed.{StoresFit}
use Rattle.held_state.specs.Holds.{HoldsAsSaid}

-- the state, and what goes with each owner, by number
pub record HeldState : Type 0 where
  pub held : Held
  pub goings : List Going

abbrev pub goings_of : Component → List Going
goings_of component = map (going_with component) (0 ∷ owners_in component.items)

abbrev pub going_at : List Going → ℕ → Going
going_at goings owner = slice_index_or goings owner none_going

-- the state at the start
abbrev pub first_state : Component → HeldState
first_state component = record { held = first_held component; goings = goings_of component }

-- the same with another state
abbrev pub with_held : HeldState → Held → HeldState
with_held state held = record state { held = held }

-- the state is of this component
pub record IsOf (component : Component) (state : HeldState) : Type 0 where
  pub goings : state.goings ≡ goings_of component
  pub fits : Fits component state.held
  pub stores : StoresFit component state.held
  pub owners : OwnersFit component state.held
  pub holds : HoldsAsSaid component state.held
