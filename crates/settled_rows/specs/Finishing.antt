-- What each settling ends with.
use Rattle.std.specs.Prelude.{◌≡◌, ◌≤◌, ◌<◌, ◌^◌, ℕ, ◌+◌, Bool, true, false, List, map, slice_get, Some}
use Rattle.values.specs.declared.plan.Kind.TheVariants as kind
use Rattle.values.specs.declared.plan.PlanNode.{PlanNode}
use Rattle.component_items.specs.declared.component.Component.{Component}
use Rattle.component_items.specs.Kept.{IsKept}
use Rattle.outside.specs.Asks.{Ask}
use Rattle.outside.specs.declared.traits.Arrival.{Arrival}
use Rattle.sources.specs.declared.opening.Opened as rows
use Rattle.plain_evaluation.specs.Held.{arrived_held}
use Rattle.plain_evaluation.specs.Place.{Place}
use Rattle.plain_evaluation.specs.Scratch.{pending}
use Rattle.plain_evaluation.specs.Written.{state_of, written}
use Rattle.plan_meaning.specs.Layout.{places_of, plan_of}
use Rattle.held_state.specs.State.{HeldState, IsOf, with_held}
use Rattle.load_table.specs.Loads.{loads_in}
use Rattle.load_meaning.specs.declared.late.Late.{Late}
use Rattle.load_meaning.specs.Polls.{Progress, AllPolled, AreInStep, all_promptly}
use Rattle.load_polls.specs.Shown.{SourcesShow}
use Rattle.load_polls.specs.Loads.{LoadsState}
use Rattle.run_meaning.specs.Run.{held_arrived}
use Rattle.phase_graph.specs.Graph.{GraphState}
use Rattle.outside.specs.Counts.{RoseBy}
use Rattle.load_polls.specs.Loads.{not_yet_count, failed_count}
use Rattle.settled_rows.specs.Rows.{KeysStand, HasPlainValues}

abbrev pub progress_at : HeldState → LoadsState → Progress
progress_at state loads = record { held = state.held; loadings = loads.loadings }

-- the loads of the component may be polled: its sources show held state, and the loads are in step with it
pub record IsReady (component : Component) (state : HeldState) (places : List Place) (graph : GraphState) (loads : LoadsState) : Type 0 where
  pub kept : IsKept component
  pub fits : IsOf component state
  pub named : places ≡ places_of (written component state.held)
  pub plan : graph.plan ≡ plan_of component (state_of state.held)
  pub closed : graph.is_open ≡ false
  pub live : graph.live ≡ state.held.live
  pub base : graph.base < 2 ^ 62
  pub drawn : graph.drawn ≤ 4096
  pub shows : SourcesShow component (state_of state.held) graph.rows
  pub loads_are : loads.loads ≡ loads_in component
  pub in_step : AreInStep component (progress_at state loads)

-- they were polled, and all is brought up to date
pub record IsFinished {S : Type 0} (answers : S → Ask → Arrival → S → Type 0) (is_prompt : Bool) (component : Component) (places : List Place) (old new : HeldState) (graph later : GraphState) (loads polled_loads : LoadsState) (late : List (ℕ × Late)) (before after : S) : Type 0 where
  pub state : new ≡ with_held old new.held
  pub fits : IsOf component new
  pub named : places ≡ places_of (written component new.held)
  pub rest : later ≡ record graph { rows = later.rows; drawn = later.drawn }
  pub plan : later.plan ≡ plan_of component (state_of new.held)
  pub drawn : later.drawn ≤ graph.drawn + 12288
  pub values : HasPlainValues component new.held later
  pub effects : (n : ℕ) (node : PlanNode) (two : rows.Opened) → slice_get graph.plan.nodes n ≡ Some node → node.kind ≡ kind.Effect → slice_get later.rows n ≡ Some two → (one : rows.Opened) × (slice_get graph.rows n ≡ Some one) × (two ≡ record one { colour = two.colour })
  pub loads_are : polled_loads.loads ≡ loads.loads
  pub polled : AllPolled answers component (progress_at old loads) (progress_at new polled_loads) late before after
  pub prompt : is_prompt ≡ true → progress_at new polled_loads ≡ all_promptly component (progress_at old loads)
  pub in_step : AreInStep component (progress_at new polled_loads)
  pub keys : KeysStand component new.held
  pub arrived : new.held ≡ held_arrived (arrived_held new.held) old.held
  pub waits : map (λ l. l.0) late ≡ pending component new.held

-- the loader has counted each load that is late
pub record AreCounted (late : List (ℕ × Late)) (not_yets_before not_yets_after faults_before faults_after : ℕ) : Type 0 where
  pub not_yets : RoseBy (not_yet_count late) not_yets_before not_yets_after
  pub faults : RoseBy (failed_count late) faults_before faults_after
