-- What holds of a graph at each stage.
use Rattle.std.specs.Prelude.{◌≡◌, ◌<◌, ℕ, false, List, [], ◌∷◌, ◌++◌, Option}
use Rattle.values.specs.declared.plan.Noted.{Noted}
use Rattle.values.specs.declared.code.Code.{Code}
use Rattle.component_items.specs.declared.component.Component.{Component}
use Rattle.component_items.specs.Kept.{IsKept}
use Rattle.store_fields.specs.declared.edit.Verdict.{Verdict}
use Rattle.async_derived.specs.declared.loading.Loading.{Loading}
use Rattle.plain_evaluation.specs.Place.{Place}
use Rattle.plain_evaluation.specs.Written.{state_of, written}
use Rattle.plan_meaning.specs.Layout.{places_of, plan_of}
use Rattle.held_state.specs.State.{HeldState, IsOf}
use Rattle.load_meaning.specs.Polls.{AreInStep}
use Rattle.load_polls.specs.Shown.{SourcesShow}
use Rattle.run_items.specs.Journal.{JournalPhase}
use Rattle.run_meaning.specs.Words.{In}
use Rattle.run_meaning.specs.Opened.{Opened}
use Rattle.run_meaning.specs.Phase.{IsOfPlan}
use Rattle.run_history.specs.Going.{Start, Going, opened_at}
use Rattle.phase_graph.specs.Graph.{GraphState}
use Rattle.phase_graph.specs.Way.{IsOnWay}
use Rattle.settled_rows.specs.Rows.{KeysStand, NoneRan, HasPlainValues}
use Rattle.still_graph.specs.Still.{StillState, progress_of, opened_in, ended}
use Rattle.still_graph.specs.declared.still.Stage.{Stage}
use Rattle.still_graph.specs.declared.still.Stage.TheVariants.{Made, Settled, Open, Ended}

-- the graph of a component in held state
abbrev pub still_of : Component → HeldState → List Place → GraphState → List JournalPhase → Stage → List (List Verdict) → List Loading → StillState
still_of component state places graph journal stage verdicts loadings = record { component = component; state = state; places = places; graph = graph; journal = journal; stage = stage; verdicts = verdicts; loadings = loadings }

-- ---- phases

abbrev pub start_with : (ℕ → Option Code) → Opened → Start
start_with ran o = record { plan = o.plan; values = o.values; live = o.held.live; ran = ran }

-- a phase that opened so is under way
pub record IsRunning (o : Opened) (graph : GraphState) : Type 0 where
  pub ran : ℕ → Option Code
  pub going : Going
  pub way : IsOnWay (start_with ran o) going graph
  pub of_plan : (e : Noted) → In e going.entries → IsOfPlan (opened_at (start_with ran o)) e.fact

-- such a phase has ended, and is the last of the journal
pub record IsLast (o : Opened) (graph : GraphState) (journal : List JournalPhase) : Type 0 where
  pub before : GraphState
  pub runs : IsRunning o before
  pub graph_is : graph ≡ ended before
  pub earlier : List JournalPhase
  pub phase : JournalPhase
  pub journal_is : journal ≡ earlier ++ phase ∷ []
  pub entries : phase.entries ≡ runs.going.entries

-- ---- all of it

pub record IsMade (x : StillState) : Type 0 where
  pub journal : x.journal ≡ []
  pub closed : x.graph.is_open ≡ false
  pub live : x.graph.live ≡ x.state.held.live
  pub shows : SourcesShow x.component (state_of x.state.held) x.graph.rows
  pub fresh : NoneRan x.graph

pub record IsAtRest (x : StillState) : Type 0 where
  pub closed : x.graph.is_open ≡ false
  pub live : x.graph.live ≡ x.state.held.live
  pub values : HasPlainValues x.component x.state.held x.graph

pub record IsInPhase (x : StillState) (room : ℕ) : Type 0 where
  pub runs : IsRunning (opened_in x) x.graph
  pub room_left : 0 < room

abbrev pub StandsAt : Stage → StillState → ℕ → Type 0
StandsAt Made x room = IsMade x
StandsAt Settled x room = IsAtRest x
StandsAt Open x room = IsInPhase x room
StandsAt Ended x room = IsLast (opened_in x) x.graph x.journal

-- where the journal has room for so many more phases
pub record IsStill (x : StillState) (room : ℕ) : Type 0 where
  pub kept : IsKept x.component
  pub fits : IsOf x.component x.state
  pub places : x.places ≡ places_of (written x.component x.state.held)
  pub plan : x.graph.plan ≡ plan_of x.component (state_of x.state.held)
  pub in_step : AreInStep x.component (progress_of x)
  pub keys : KeysStand x.component x.state.held
  pub at_stage : StandsAt x.stage x room
