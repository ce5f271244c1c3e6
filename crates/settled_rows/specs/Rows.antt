-- What the rows of a component show of held state.
use Rattle.std.specs.Prelude.{◌≡◌, ◌≢◌, ◌⊎◌, ℕ, true, false, List, length, replicate, slice_get, Some, None}
use Rattle.values.specs.declared.plan.Kind.TheVariants as kind
use Rattle.values.specs.declared.plan.Plan.{Plan}
use Rattle.values.specs.declared.plan.PlanNode.{PlanNode}
use Rattle.values.specs.declared.code.Code.{Code}
use Rattle.values.specs.Packing.{unpacked}
use Rattle.values.specs.PlanValues.{is_derived}
use Rattle.component_items.specs.declared.component.Component.{Component}
use Rattle.sources.specs.declared.opening.Opened as rows
use Rattle.plain_evaluation.specs.Held.{Held, arrived_held, first_held}
use Rattle.plain_evaluation.specs.Place.{Place}
use Rattle.plain_evaluation.specs.Written.{state_of, written}
use Rattle.plan_meaning.specs.Layout.{places_of, plan_of}
use Rattle.plan_meaning.specs.Values.{row_values}
use Rattle.load_table.specs.Loads.{LoadOf, loads_in, is_live_load}
use Rattle.load_meaning.specs.Polls.{key_of}
use Rattle.load_polls.specs.Shown.{SourcesShow}
use Rattle.phase_graph.specs.Graph.{GraphState, ticks_of}

-- ---- loads

-- where the key of a live load has arrived, it is the value of its key
abbrev pub KeysStand : Component → Held → Type 0
KeysStand component held = (place : ℕ) (load : LoadOf) → slice_get (loads_in component) place ≡ Some load → is_live_load component (state_of held) load ≡ true
    → (arrived_held held load.id ≡ None) ⊎ (arrived_held held load.id ≡ Some (key_of component held load))

-- ---- rows and held state

-- no memo and no effect ran yet
abbrev pub NoneRan : GraphState → Type 0
NoneRan graph = (n : ℕ) (node : PlanNode) (row : rows.Opened) → slice_get graph.plan.nodes n ≡ Some node → slice_get graph.rows n ≡ Some row → is_derived node.kind ≡ true → row.body.cause ≡ None

-- the graph of a plan of which nothing ran: each source has its value of these, and all owners are live
pub record IsFirstGraph (plan : Plan) (codes : List Code) (graph : GraphState) : Type 0 where
  pub plan_is : graph.plan ≡ plan
  pub live : graph.live ≡ replicate (length plan.owners) true
  pub closed : graph.is_open ≡ false
  pub ticks : ticks_of graph ≡ 0
  pub paired : length graph.rows ≡ length plan.nodes
  pub sources : (n : ℕ) (node : PlanNode) (row : rows.Opened) → slice_get plan.nodes n ≡ Some node → slice_get graph.rows n ≡ Some row → is_derived node.kind ≡ false → slice_get codes n ≡ Some (unpacked row.code)
  pub fresh : NoneRan graph

-- that of a component in the state at the start
pub record IsFirst (component : Component) (places : List Place) (graph : GraphState) : Type 0 where
  pub named : places ≡ places_of (written component (first_held component))
  pub plan : graph.plan ≡ plan_of component (state_of (first_held component))
  pub live : graph.live ≡ (first_held component).live
  pub closed : graph.is_open ≡ false
  pub ticks : ticks_of graph ≡ 0
  pub shows : SourcesShow component (state_of (first_held component)) graph.rows
  pub fresh : NoneRan graph

-- each row but an effect's has its value by plain evaluation
abbrev pub HasPlainValues : Component → Held → GraphState → Type 0
HasPlainValues component held graph = (n : ℕ) (node : PlanNode) (row : rows.Opened) → slice_get graph.plan.nodes n ≡ Some node → slice_get graph.rows n ≡ Some row
    → node.kind ≢ kind.Effect → slice_get (row_values component (state_of held)) n ≡ Some (unpacked row.code)
