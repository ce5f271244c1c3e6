-- Polls of the loads of a component, one after another.
use Rattle.std.specs.Prelude.{◌≡◌, ◌↔◌, ℕ, zero, suc, if◌then◌else◌, true, false, List, [], ◌∷◌, ◌++◌, map, length, slice_get, fold, take, Some, sum}
use Rattle.std.specs.List.{zip}
use Rattle.values.specs.declared.code.Code.{Code}
use Rattle.component_items.specs.declared.component.Component.{Component}
use Rattle.outside.specs.Asks.{Ask}
use Rattle.outside.specs.Prompt.{prompt_arrival}
use Rattle.outside.specs.declared.traits.Arrival.{Arrival}
use Rattle.async_derived.specs.declared.loading.Loading.{Loading}
use Rattle.async_derived.specs.declared.loading.Polled.{Polled}
use Rattle.async_derived.specs.declared.loading.Polled.TheVariants.{Arrived, Waiting, Failed as Fault}
use Rattle.async_derived.specs.Loads.{after_poll, answer_of, keyed, prompt_poll, first_load}
use Rattle.plain_evaluation.specs.Changed.{with_arrived}
use Rattle.plain_evaluation.specs.Held.{Held, arrived_held}
use Rattle.plain_evaluation.specs.Place.{outside}
use Rattle.plain_evaluation.specs.Scratch.{scratch}
use Rattle.plain_evaluation.specs.Written.{state_of}
use Rattle.load_table.specs.Loads.{LoadOf, loads_in, is_live_load}
use Rattle.load_meaning.specs.declared.late.Late.{Late}
use Rattle.load_meaning.specs.declared.late.Late.TheVariants.{NotYet, Failed}

-- held state, and how far each load of the component is, in order of declaration
pub record Progress : Type 0 where
  pub held : Held
  pub loadings : List Loading

-- before anything was asked
abbrev pub first_loadings : Component → List Loading
first_loadings component = map (λ load. first_load) (loads_in component)

-- the value of a load's key: what the load is polled with
abbrev pub key_of : Component → Held → LoadOf → Code
key_of component held load = scratch component held (outside (suc load.id))

-- ---- one poll

-- a load that was polled and has not arrived is late
abbrev pub late_as : ℕ → Polled → List (ℕ × Late)
late_as id Arrived = []
late_as id Waiting = (id, NotYet) ∷ []
late_as id Fault = (id, Failed) ∷ []

-- A load was polled with this key: how far it was and is, what came of it, and the loader before and after. The loader
-- is asked exactly where the key had not arrived.
pub record IsPolled {S : Type 0} (answers : S → Ask → Arrival → S → Type 0) (load : LoadOf) (key : Code) (old new : Loading) (came : Polled) (before after : S) : Type 0 where
  pub state : new ≡ after_poll old key came
  pub arrived : (came ≡ Arrived) ↔ (new.arrived ≡ Some key)
  pub unasked : old.arrived ≡ Some key → after ≡ before
  pub asked : ¬ (old.arrived ≡ Some key) → answers before (record { resource = load.resource; key = key; after = load.after; asked = (keyed old key).asked }) (answer_of came) after

-- ---- all of them

-- These loads were polled one after another: each live one once, with the value that its key has behind the polls before
-- it. They came to this, these of them are late, and the loader is in this state then.
pub data ArePolled {S : Type 0} (answers : S → Ask → Arrival → S → Type 0) (component : Component) (first : Progress) (before : S) : List LoadOf → Progress → List (ℕ × Late) → S → Type 0 where
  none : ArePolled answers component first before [] (record { held = first.held; loadings = [] }) [] before
  passed : {loads : List LoadOf} {now : Progress} {late : List (ℕ × Late)} {state : S} (load : LoadOf) (loading : Loading)
      → ArePolled answers component first before loads now late state
      → is_live_load component (state_of now.held) load ≡ false → slice_get first.loadings (length loads) ≡ Some loading
      → ArePolled answers component first before (loads ++ load ∷ []) (record { held = now.held; loadings = now.loadings ++ loading ∷ [] }) late state
  polled : {loads : List LoadOf} {now : Progress} {late : List (ℕ × Late)} {state : S} (load : LoadOf) (old new : Loading) (came : Polled) (after : S)
      → ArePolled answers component first before loads now late state
      → is_live_load component (state_of now.held) load ≡ true → slice_get first.loadings (length loads) ≡ Some old
      → IsPolled answers load (key_of component now.held load) old new came state after
      → ArePolled answers component first before (loads ++ load ∷ []) (record { held = with_arrived now.held load.id new.arrived; loadings = now.loadings ++ new ∷ [] }) (late ++ late_as load.id came) after

-- all loads of the component were
abbrev pub AllPolled : {S : Type 0} → (S → Ask → Arrival → S → Type 0) → Component → Progress → Progress → List (ℕ × Late) → S → S → Type 0
AllPolled answers component old new late before after = ArePolled answers component old before (loads_in component) new late after

-- ---- how far loads are, beside held state

-- A load says of its key what held state says, and what has arrived is the key that it was asked for last.
pub record IsInStep (held : Held) (load : LoadOf) (loading : Loading) : Type 0 where
  pub arrived : arrived_held held load.id ≡ loading.arrived
  pub last : (key : Code) → loading.arrived ≡ Some key → loading.key ≡ Some key

-- each load of the component has one, and each live load is in step with held state
pub record AreInStep (component : Component) (progress : Progress) : Type 0 where
  pub paired : length progress.loadings ≡ length (loads_in component)
  pub each : (place : ℕ) (load : LoadOf) (loading : Loading) → slice_get (loads_in component) place ≡ Some load → slice_get progress.loadings place ≡ Some loading
      → is_live_load component (state_of progress.held) load ≡ true → IsInStep progress.held load loading

-- ---- what a prompt loader makes of them

-- a loader that goes by the attempts alone answers an ask
abbrev pub AnswersPromptly : Unit {0} → Ask → Arrival → Unit {0} → Type 0
AnswersPromptly before ask answer after = answer ≡ prompt_arrival ask.after ask.asked

abbrev pub promptly_one : Component → Progress → LoadOf × Loading → Progress
promptly_one component now pair =
    if is_live_load component (state_of now.held) pair.0
    then (let key : Code = key_of component now.held pair.0 in
    let new : Loading = after_poll pair.1 key (prompt_poll pair.1 key pair.0.after) in
    record { held = with_arrived now.held pair.0.id new.arrived; loadings = now.loadings ++ new ∷ [] })
    else record { held = now.held; loadings = now.loadings ++ pair.1 ∷ [] }

-- all loads of the component, polled once
abbrev pub all_promptly : Component → Progress → Progress
all_promptly component progress =
    fold (promptly_one component) (record { held = progress.held; loadings = [] }) (zip (loads_in component) progress.loadings)

-- the first of them, so many
abbrev pub some_promptly : Component → Progress → ℕ → Progress
some_promptly component progress count =
    fold (promptly_one component) (record { held = progress.held; loadings = [] }) (take count (zip (loads_in component) progress.loadings))

-- polled as often as this
unfoldable pub rounds_promptly : ℕ → Component → Progress → Progress
rounds_promptly zero component progress = progress
rounds_promptly (suc n) component progress = rounds_promptly n component (all_promptly component progress)

-- rounds that are enough for all loads: one, and for each load as many as its resource wants
abbrev pub enough_rounds : Component → ℕ
enough_rounds component = suc (sum (map (λ load. load.after) (loads_in component)))
