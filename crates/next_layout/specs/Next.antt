-- What a graph goes over to behind a phase, and what it is then.
use Rattle.std.specs.Prelude.{◌≡◌, ◌≢◌, ◌≤◌, ℕ, true, false, List, [], length, slice_get, Option, Some, None}
use Rattle.values.specs.declared.code.Code.{Code}
use Rattle.values.specs.declared.plan.Kind.TheVariants as kind
use Rattle.values.specs.declared.plan.Noted.{Noted}
use Rattle.values.specs.declared.plan.PlanNode.{PlanNode}
use Rattle.store_fields.specs.declared.edit.Verdict.{Verdict}
use Rattle.component_items.specs.declared.component.Component.{Component}
use Rattle.component_items.specs.Kept.{IsKept}
use Rattle.sources.specs.declared.opening.Opened as rows
use Rattle.sources.specs.Rows.{value_in}
use Rattle.plain_evaluation.specs.Held.{is_live, arrived_held}
use Rattle.plain_evaluation.specs.Place.{Place}
use Rattle.plain_evaluation.specs.Written.{State, state_of, loaded, Written, place_of, written, written_in}
use Rattle.plan_meaning.specs.Carried.{rows_to}
use Rattle.plan_meaning.specs.Layout.{rows_of, places_of, plan_of}
use Rattle.plan_meaning.specs.Told.{owner_of_id}
use Rattle.held_state.specs.State.{HeldState, IsOf, with_held}
use Rattle.script_items.specs.Script.{numbered}
use Rattle.run_meaning.specs.Entries.{disposed_in}
use Rattle.run_meaning.specs.Edits.{held_edited}
use Rattle.run_meaning.specs.Run.{held_disposed}
use Rattle.phase_graph.specs.Graph.{GraphState, ticks_of}
use Rattle.phase_graph.specs.Relaying.{Relaying}
use Rattle.held_rows.specs.Shown.{held_shown}
use Rattle.phase_edits.specs.Posts.{posted_edits, verdicts_by}
use Rattle.next_layout.specs.Sources.{load_shown, codes_said, SourcesAreSaid}

pub record NextState : Type 0 where
  -- held state behind the phase
  pub state : HeldState
  -- what came of the edits of the phase, by pass
  pub verdicts : List (List Verdict)
  -- the place of each row of the layout in that state
  pub places : List Place
  pub relaid : Relaying
  -- the value of each source, in order of row
  pub codes : List Code

-- ---- before it goes over

-- the graph is laid out for the component in held state, and these are the places of its rows
pub record IsLaidOut (component : Component) (state : HeldState) (places : List Place) (graph : GraphState) : Type 0 where
  pub kept : IsKept component
  pub fits : IsOf component state
  pub named : places ≡ places_of (written component state.held)
  pub plan : graph.plan ≡ plan_of component (state_of state.held)

-- Held state behind a phase that noted this, and what came of its edits: it takes what the rows show, the edits are made
-- in order of number, and what was disposed is taken out.
pub record IsFolded (component : Component) (old : HeldState) (places : List Place) (graph : GraphState) (es : List Noted) (state : HeldState) (verdicts : List (List Verdict)) : Type 0 where
  pub held : state ≡ with_held old (held_disposed component (disposed_in es) (held_edited (posted_edits graph.edits es) (held_shown places (value_in graph.rows) old.held)))
  pub fits : IsOf component state
  pub passes : length verdicts ≡ length graph.edits
  pub told : (pass : ℕ) (told : List Verdict) → numbered verdicts pass ≡ Some told → told ≡ verdicts_by graph.edits pass es (held_shown places (value_in graph.rows) old.held)

-- The component is laid out in another held state, in which no owner has come back to life and no other key has arrived. A
-- load keeps the value of the row that it has.
pub record IsNext (component : Component) (old : HeldState) (places : List Place) (graph : GraphState) (next : NextState) : Type 0 where
  pub fits : IsOf component next.state
  pub lived : (owner : ℕ) → is_live next.state.held owner ≡ true → is_live old.held owner ≡ true
  pub arrived : (id : ℕ) → is_live next.state.held (owner_of_id component id) ≡ true → arrived_held next.state.held id ≡ arrived_held old.held id
  pub named : next.places ≡ places_of (written component next.state.held)
  pub plan : next.relaid.plan ≡ plan_of component (state_of next.state.held)
  pub live : next.relaid.live ≡ next.state.held.live
  pub to : next.relaid.to ≡ rows_to places next.places
  pub codes : next.codes ≡ codes_said (load_shown places graph) (written component next.state.held)

-- it was made for this graph, of some component
pub record IsReady (old : HeldState) (places : List Place) (graph : GraphState) (next : NextState) : Type 0 where
  pub component : Component
  pub laid : IsLaidOut component old places graph
  pub is_next : IsNext component old places graph next

-- ---- behind it

-- where a load was before that the line says, which has this value: the same was said of it, and its row had the value
pub record HasStayed (component : Component) (before : State) (old : GraphState) (w : Written) (code : Code) : Type 0 where
  pub row : ℕ
  pub line : Written
  pub at_line : slice_get (rows_of (written_in component before)) row ≡ Some line
  pub place : place_of line ≡ place_of w
  pub says : line.says ≡ w.says
  pub value : value_in old.rows row ≡ code

-- each load was there before, with the key that has arrived, and has the value that it had
abbrev pub LoadsStay : Component → State → State → GraphState → GraphState → Type 0
LoadsStay component before after old new = (n : ℕ) (w : Written) (pairs : List (Code × Code)) (arrived : Option Code) → slice_get (rows_of (written_in component after)) n ≡ Some w → w.says ≡ loaded pairs arrived
    → HasStayed component before old w (value_in new.rows n)

-- where the row of an effect that ran went
pub record HasGone (places : List Place) (old : GraphState) (p : Place) (after : rows.Opened) : Type 0 where
  pub row : ℕ
  pub node : PlanNode
  pub before : rows.Opened
  pub at_place : slice_get places row ≡ Some p
  pub at_node : slice_get old.plan.nodes row ≡ Some node
  pub at_row : slice_get old.rows row ≡ Some before
  pub effect : node.kind ≡ kind.Effect
  pub ran : before.body.cause ≢ None
  pub code : after.code ≡ before.code

-- each effect that ran had run before, and has the value of that run
abbrev pub EffectsStay : List Place → List Place → GraphState → GraphState → Type 0
EffectsStay places later old new = (n : ℕ) (node : PlanNode) (row : rows.Opened) (p : Place) → slice_get new.plan.nodes n ≡ Some node → slice_get new.rows n ≡ Some row → slice_get later n ≡ Some p
    → node.kind ≡ kind.Effect → row.body.cause ≢ None → HasGone places old p row

-- and each one that had run, and whose place stays, has run, and has its value under the version that it had
abbrev pub RunsStay : List Place → List Place → GraphState → GraphState → Type 0
RunsStay places later old new = (row n : ℕ) (node : PlanNode) (p : Place) (before after : rows.Opened) → slice_get places row ≡ Some p → slice_get later n ≡ Some p → slice_get old.plan.nodes row ≡ Some node → node.kind ≡ kind.Effect
    → slice_get old.rows row ≡ Some before → slice_get new.rows n ≡ Some after → before.body.cause ≢ None → (after.body.cause ≢ None) × (after.code ≡ before.code) × (after.version ≡ before.version)

-- the graph went over from the layout of the component in held state of before to the one in this held state
pub record HasGoneOver (component : Component) (before state : HeldState) (places later : List Place) (old new : GraphState) : Type 0 where
  pub laid : IsLaidOut component state later new
  pub live : new.live ≡ state.held.live
  pub closed : new.is_open ≡ false
  pub entries : new.entries ≡ []
  pub edits : new.edits ≡ []
  pub base : new.base ≡ ticks_of old
  pub drawn : new.drawn ≤ 4096
  pub sources : SourcesAreSaid component (state_of state.held) new.rows
  pub loads : LoadsStay component (state_of before.held) (state_of state.held) old new
  pub effects : EffectsStay places later old new
  pub runs : RunsStay places later old new
