-- The graph of a component as contracts see it, and what it shows of the phases that were run.
use Rattle.std.specs.Prelude.{◌≡◌, ◌≢◌, ℕ, false, List, [], ◌∷◌, ◌++◌, slice_get, Some, None}
use Rattle.values.specs.declared.plan.Kind.TheVariants as kind
use Rattle.values.specs.declared.plan.PlanNode.{PlanNode}
use Rattle.values.specs.Packing.{unpacked}
use Rattle.component_items.specs.declared.component.Component.{Component}
use Rattle.sources.specs.declared.opening.Opened as rows
use Rattle.store_fields.specs.declared.edit.Verdict.{Verdict}
use Rattle.async_derived.specs.declared.loading.Loading.{Loading}
use Rattle.plain_evaluation.specs.Held.{Held}
use Rattle.plain_evaluation.specs.Place.{Place}
use Rattle.load_meaning.specs.Polls.{Progress}
use Rattle.held_state.specs.State.{HeldState}
use Rattle.run_items.specs.Journal.{JournalPhase}
use Rattle.run_meaning.specs.Opened.{Opened, opened_of}
use Rattle.run_meaning.specs.Phase.{Phase}
use Rattle.run_meaning.specs.Merge.{last_run}
use Rattle.run_meaning.specs.Run.{journal_of}
use Rattle.run_history.specs.Going.{Start, start_of, Going}
use Rattle.phase_graph.specs.Graph.{GraphState, ticks_of}
use Rattle.phase_graph.specs.Way.{IsOnWay}
use Rattle.phase_edits.specs.Posts.{ArePosted}
use Rattle.still_graph.specs.declared.still.Stage.{Stage}
use Rattle.still_graph.specs.declared.still.Stage.TheVariants.{Settled, Open, Ended}

pub record StillState : Type 0 where
  pub component : Component
  -- the held state behind the last settling, or the first one
  pub state : HeldState
  -- the place of each row of the plan
  pub places : List Place
  pub graph : GraphState
  pub journal : List JournalPhase
  pub stage : Stage
  -- what came of the edits of the last phase that was settled, by pass
  pub verdicts : List (List Verdict)
  -- how far each load of the component is, in order of declaration
  pub loadings : List Loading

-- how far the loads are, beside this held state
abbrev pub progress_from : StillState → Held → Progress
progress_from x held = record { held = held; loadings = x.loadings }

abbrev pub progress_of : StillState → Progress
progress_of x = progress_from x x.state.held

-- what a phase opens with
abbrev pub opened_in : StillState → Opened
opened_in x = opened_of x.component x.state.held

abbrev pub start_in : List Phase → StillState → Start
start_in past x = start_of past (opened_in x)

-- each effect that ran has the value of its last run in these phases
abbrev pub HasRun : List Phase → StillState → Type 0
HasRun past x = (n : ℕ) (node : PlanNode) (row : rows.Opened) (place : Place) → slice_get x.graph.plan.nodes n ≡ Some node → slice_get x.graph.rows n ≡ Some row → slice_get x.places n ≡ Some place
    → node.kind ≡ kind.Effect → row.body.cause ≢ None → last_run past place ≡ Some (unpacked row.code)

-- it is settled behind these phases
pub record IsSettledAfter (past : List Phase) (x : StillState) : Type 0 where
  pub stage : x.stage ≡ Settled
  pub journal : x.journal ≡ journal_of past
  pub ran : HasRun past x

-- a phase is open behind these, and stands at g
pub record IsOpenAt (past : List Phase) (g : Going) (x : StillState) : Type 0 where
  pub stage : x.stage ≡ Open
  pub journal : x.journal ≡ journal_of past
  pub way : IsOnWay (start_in past x) g x.graph

abbrev pub ended : GraphState → GraphState
ended y = record y { base = ticks_of y; drawn = 0; is_open = false; entries = [] }

-- the phase p has ended behind these, and waits to be settled
pub record HasEnded (past : List Phase) (p : Phase) (x : StillState) : Type 0 where
  pub stage : x.stage ≡ Ended
  pub journal : x.journal ≡ journal_of (past ++ p ∷ [])
  pub opened : p.opened ≡ opened_in x
  pub before : GraphState
  pub way : IsOnWay (start_of past p.opened) (record { drawn = p.drawn; entries = p.entries }) before
  pub graph_is : x.graph ≡ ended before
  -- the edits of each lane are those of its pass
  pub posts : ArePosted p.lanes x.graph.edits
