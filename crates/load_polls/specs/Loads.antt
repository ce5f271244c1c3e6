-- The loads of a component between phases, as contracts see them, and what a poll of them leaves.
use Rattle.std.specs.Prelude.{◌≡◌, ℕ, ◌+◌, ◌≤◌, not, Bool, true, false, List, length, slice_get, Some}
use Rattle.std.specs.List.{filter}
use Rattle.values.specs.declared.plan.Kind.TheVariants as kind
use Rattle.values.specs.declared.plan.PlanNode.{PlanNode}
use Rattle.sources.specs.declared.opening.Opened as rows
use Rattle.async_derived.specs.declared.loading.Loading.{Loading}
use Rattle.held_state.specs.State.{HeldState}
use Rattle.load_table.specs.Loads.{LoadOf}
use Rattle.load_meaning.specs.Polls.{Progress}
use Rattle.load_meaning.specs.declared.late.Late.{Late}
use Rattle.load_meaning.specs.declared.late.Late.TheVariants.{NotYet, Failed}
use Rattle.phase_graph.specs.Graph.{GraphState}

-- the loads in order of declaration, and how far each is
pub record LoadsState : Type 0 where
  pub loads : List LoadOf
  pub loadings : List Loading

abbrev pub progress_of : HeldState → List Loading → Progress
progress_of state loadings = record { held = state.held; loadings = loadings }

-- ---- how many are late, and why

abbrev pub is_not_yet : Late → Bool
is_not_yet NotYet = true
is_not_yet Failed = false

abbrev pub not_yet_count : List (ℕ × Late) → ℕ
not_yet_count late = length (filter (λ one. is_not_yet one.1) late)

abbrev pub failed_count : List (ℕ × Late) → ℕ
failed_count late = length (filter (λ one. not (is_not_yet one.1)) late)

-- ---- the graph

-- effects have run no more than before: only their colours may be others
abbrev pub EffectsStay : GraphState → GraphState → Type 0
EffectsStay old new = (n : ℕ) (node : PlanNode) (one two : rows.Opened) → slice_get old.plan.nodes n ≡ Some node → node.kind ≡ kind.Effect → slice_get old.rows n ≡ Some one → slice_get new.rows n ≡ Some two → two ≡ record one { colour = two.colour }

-- only rows have changed, and no more numbers than this were drawn for them
pub record HasMoved (old new : GraphState) (drawn : ℕ) : Type 0 where
  pub rest : new ≡ record old { rows = new.rows; drawn = new.drawn }
  pub long : length new.rows ≡ length old.rows
  pub raised : old.drawn ≤ new.drawn
  pub few : new.drawn ≤ old.drawn + drawn
  pub effects : EffectsStay old new
