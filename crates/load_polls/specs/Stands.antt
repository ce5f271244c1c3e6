-- What holds before the load at a place is polled, where those before it were.
use Rattle.std.specs.Prelude.{◌≡◌, ◌⊎◌, ℕ, suc, ◌^◌, ◌<◌, ◌≤◌, Bool, true, false, List, [], length, take, slice_get, slice_set, Some, None}
use Rattle.component_items.specs.declared.component.Component.{Component}
use Rattle.outside.specs.Asks.{Ask}
use Rattle.outside.specs.declared.traits.Arrival.{Arrival}
use Rattle.async_derived.specs.declared.loading.Loading.{Loading}
use Rattle.async_derived.specs.declared.loading.Polled.{Polled}
use Rattle.async_derived.specs.Loads.{prompt_poll}
use Rattle.plain_evaluation.specs.Changed.{with_arrived}
use Rattle.plain_evaluation.specs.Held.{Held, arrived_held}
use Rattle.plain_evaluation.specs.Place.{Place, outside}
use Rattle.plain_evaluation.specs.Written.{state_of, written}
use Rattle.plan_meaning.specs.Layout.{places_of, row_of, plan_of}
use Rattle.held_state.specs.State.{HeldState, IsOf, with_held}
use Rattle.load_table.specs.Loads.{LoadOf, loads_in, is_live_load}
use Rattle.load_meaning.specs.Polls.{Progress, key_of, late_as, IsPolled, ArePolled, AreInStep, some_promptly}
use Rattle.load_meaning.specs.declared.late.Late.{Late}
use Rattle.phase_graph.specs.Graph.{GraphState, AreSettledTo}
use Rattle.load_polls.specs.Shown.{SourcesShow}

-- ---- the state between two polls

-- held state, how far each load is, and the graph
pub record Sweep : Type 0 where
  pub held : HeldState
  pub loadings : List Loading
  pub graph : GraphState

abbrev pub sweep_of : HeldState → List Loading → GraphState → Sweep
sweep_of held loadings graph = record { held = held; loadings = loadings; graph = graph }

-- nothing has arrived for the load, or its key has
abbrev pub HasOwnKey : Component → Held → LoadOf → Type 0
HasOwnKey component held load = (arrived_held held load.id ≡ None) ⊎ (arrived_held held load.id ≡ Some (key_of component held load))

-- the rows show held state
pub record IsFitting (component : Component) (places : List Place) (held : HeldState) (graph : GraphState) : Type 0 where
  pub fits : IsOf component held
  pub named : places ≡ places_of (written component held.held)
  pub plan : graph.plan ≡ plan_of component (state_of held.held)
  pub paired : length graph.rows ≡ length graph.plan.nodes
  pub shown : SourcesShow component (state_of held.held) graph.rows

-- The loads before the place were polled. Each memo below `from` is up to date, and the keys of the others stand from there on.
pub record IsReady (component : Component) (places : List Place) (place from : ℕ) (x : Sweep) : Type 0 where
  pub fitting : IsFitting component places x.held x.graph
  pub closed : x.graph.is_open ≡ false
  pub early : x.graph.base < 2 ^ 62
  pub in_step : AreInStep component (record { held = x.held.held; loadings = x.loadings })
  pub polled : (j : ℕ) (load : LoadOf) → j < place → slice_get (loads_in component) j ≡ Some load → is_live_load component (state_of x.held.held) load ≡ true → HasOwnKey component x.held.held load
  pub clean : AreSettledTo x.graph.plan.nodes x.graph.rows from
  pub within : from ≤ length x.graph.plan.nodes
  pub ahead : (j : ℕ) (load : LoadOf) (key : ℕ) → place ≤ j → slice_get (loads_in component) j ≡ Some load → is_live_load component (state_of x.held.held) load ≡ true → row_of places (outside (suc load.id)) ≡ Some key → from ≤ key

-- ---- one poll

-- the owner of the load is not live, and all is as it was
pub record IsPassed {S : Type 0} (component : Component) (load : LoadOf) (old new : Sweep) (added : List (ℕ × Late)) (before after : S) : Type 0 where
  pub dead : is_live_load component (state_of old.held.held) load ≡ false
  pub same : new ≡ old
  pub none : added ≡ []
  pub unasked : after ≡ before

-- the load was polled
pub record IsTaken {S : Type 0} (answers : S → Ask → Arrival → S → Type 0) (is_prompt : Bool) (component : Component) (place : ℕ) (load : LoadOf) (old new : Sweep) (added : List (ℕ × Late)) (before after : S) : Type 0 where
  pub live : is_live_load component (state_of old.held.held) load ≡ true
  pub was : Loading
  pub at : slice_get old.loadings place ≡ Some was
  pub is : Loading
  pub came : Polled
  pub polled : IsPolled answers load (key_of component old.held.held load) was is came before after
  pub prompt : is_prompt ≡ true → came ≡ prompt_poll was (key_of component old.held.held load) load.after
  pub loadings : new.loadings ≡ slice_set old.loadings place is
  pub held : new.held ≡ with_held old.held (with_arrived old.held.held load.id is.arrived)
  pub added_is : added ≡ late_as load.id came

abbrev pub IsTurned : {S : Type 0} → (S → Ask → Arrival → S → Type 0) → Bool → Component → ℕ → Sweep → Sweep → List (ℕ × Late) → S → S → Type 0
IsTurned answers is_prompt component place old new added before after = (load : LoadOf) → slice_get (loads_in component) place ≡ Some load
    → IsPassed component load old new added before after ⊎ IsTaken answers is_prompt component place load old new added before after

-- ---- all before a place

-- of the loads of the component, those before the place were polled
pub record ArePolledTo {S : Type 0} (answers : S → Ask → Arrival → S → Type 0) (is_prompt : Bool) (component : Component) (place : ℕ) (first : Progress) (x : Sweep) (late : List (ℕ × Late)) (before after : S) : Type 0 where
  pub polled : ArePolled answers component first before (take place (loads_in component)) (record { held = x.held.held; loadings = take place x.loadings }) late after
  pub rest : (j : ℕ) → place ≤ j → slice_get x.loadings j ≡ slice_get first.loadings j
  pub long : length x.loadings ≡ length first.loadings
  pub prompt : is_prompt ≡ true → ◌≡◌ {A = Progress} (record { held = x.held.held; loadings = take place x.loadings }) (some_promptly component first place)
