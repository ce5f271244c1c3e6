-- What a phase opens with: the held state, the plan laid out from it, and what each id stands for there.
use Rattle.std.specs.Prelude.{◌≡◌, ℕ, ◌==◌, Bool, not, Option, Some, None, if◌then◌else◌, List, [], ◌∷◌, ◌++◌, slice_get, length, filter, unwrap_or}
use Rattle.std.specs.List.{list_any, range_with_len}
use Rattle.values.specs.declared.code.Code.{Code}
use Rattle.values.specs.declared.code.Code.TheVariants.{Empty}
use Rattle.values.specs.declared.plan.Kind.{Kind}
use Rattle.values.specs.declared.plan.Plan.{Plan}
use Rattle.values.specs.declared.plan.PlanNode.{PlanNode}
use Rattle.values.specs.declared.plan.PlanOwner.{PlanOwner}
use Rattle.component_items.specs.declared.component.Component.{Component}
use Rattle.plain_evaluation.specs.Held.{Held, is_live}
use Rattle.plain_evaluation.specs.Place.{Place, place_at}
use Rattle.plain_evaluation.specs.Written.{state_of, written}
use Rattle.plan_meaning.specs.Layout.{places_of, row_of, plan_of}
use Rattle.plan_meaning.specs.Told.{owner_of_id}
use Rattle.plan_meaning.specs.Values.{row_values}

-- what an id, with the key of a store row or none, stands for when a phase opens
pub data Target : Type 0 where
  -- this row of the plan
  at_row : ℕ → Target
  -- a store row that is not there, of a store that is live
  at_none : Target
  -- what this dead owner owned
  at_dead : ℕ → Target

pub record Opened : Type 0 where
  pub held : Held
  pub plan : Plan
  -- the place of each row of the plan, and its value
  pub places : List Place
  pub values : List Code
  pub target : ℕ → Option Code → Target
  -- the owner of the item with this id
  pub owner_of : ℕ → ℕ

-- ---- rows

abbrev pub node_at : Opened → ℕ → Option PlanNode
node_at o n = slice_get o.plan.nodes n

abbrev pub IsKind : Opened → ℕ → Kind → Type 0
IsKind o n k = (node : PlanNode) × (node_at o n ≡ Some node) × (node.kind ≡ k)

-- the value that a row has when the phase opens
abbrev pub opening_code : Opened → ℕ → Code
opening_code o n = unwrap_or (slice_get o.values n) Empty

abbrev pub row_in : Target → Option ℕ
row_in (at_row n) = Some n
row_in at_none = None
row_in (at_dead n) = None

-- ---- owners

-- the owners that are dead
abbrev pub dead_owners : Held → List ℕ
dead_owners held = filter (λ n. not (is_live held n)) (range_with_len 0 (length held.live))

abbrev pub dead_of : Opened → List ℕ
dead_of o = dead_owners o.held

-- an owner and all around it, from the inside outwards, where those of smaller owners are known
abbrev pub around_of : List (List ℕ) → ℕ → Option ℕ → List ℕ
around_of known n None = n ∷ []
around_of known n (Some parent) = n ∷ unwrap_or (slice_get known parent) []

-- a parent has a smaller number
abbrev pub around_from : List (List ℕ) → List PlanOwner → List (List ℕ)
around_from known [] = known
around_from known (o ∷ os) = around_from (known ++ around_of known (length known) o.parent ∷ []) os

-- the owner is that of the area, or inside it
abbrev pub is_inside : Opened → ℕ → ℕ → Bool
is_inside o area n = list_any (λ m. area == m) (unwrap_or (slice_get (around_from [] o.plan.owners) n) [])

-- the owners of an area: its own, and all inside it
abbrev pub area_of : Opened → ℕ → List ℕ
area_of o area = filter (is_inside o area) (range_with_len 0 (length o.plan.owners))

-- ---- what a component opens with from a held state

abbrev pub target_at : Option ℕ → Target
target_at None = at_none
target_at (Some n) = at_row n

-- of a live owner, what has no row is of a store row that is not there
abbrev pub target_in : Component → Held → List Place → ℕ → Option Code → Target
target_in component held places id key =
    let owner = owner_of_id component id in
    if is_live held owner then target_at (row_of places (place_at id key)) else at_dead owner

abbrev pub opened_of : Component → Held → Opened
opened_of component held =
    let places = places_of (written component held) in
    record {
      held = held;
      plan = plan_of component (state_of held);
      places = places;
      values = row_values component (state_of held);
      target = target_in component held places;
      owner_of = owner_of_id component;
    }
