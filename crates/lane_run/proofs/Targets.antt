-- What an id stands for in the phase that is open.
use Rattle.std.proofs.Common.{◌≡◌, ◌≢◌, ◌⊎◌, ℕ, ◌<◌, Bool, true, false, cond, List, length, slice_get, IsSomeAnd, Option, Some, None, inl, inr, refl, sym, ap, subst, ⊎_elim, ◌∙◌, arith}
use Rattle.values.specs.declared.code.Code.{Code}
use Rattle.values.specs.declared.plan.Kind.{Kind}
use Rattle.values.specs.declared.plan.Kind.TheVariants as kind
use Rattle.values.specs.declared.plan.Plan.{Plan}
use Rattle.values.specs.declared.plan.PlanNode.{PlanNode}
use Rattle.component_items.specs.declared.component.Component.{Component}
use Rattle.script_items.specs.KeptFor.{MaySet, MayGet}
use Rattle.script_items.specs.Members.{members_of}
use Rattle.plain_evaluation.specs.Held.{Held, is_live}
use Rattle.plain_evaluation.specs.Keyed.{is_keyed}
use Rattle.plain_evaluation.specs.Place.{Place, place_at}
use Rattle.plain_evaluation.specs.Written.{Written, state_of, written, place_of}
use Rattle.plain_evaluation.proofs.Fitting.{rows_of_held}
use Rattle.plan_meaning.specs.Layout.{rows_of, places_of, row_of, node_of, plan_of}
use Rattle.plan_meaning.specs.Told.{kind_of_id, owner_of_id}
use Rattle.plan_meaning.proofs.Rows.{row_got, map_at, at_map}
use Rattle.plan_meaning.proofs.Told.{as_told}
use Rattle.run_meaning.specs.Words.{In}
use Rattle.run_meaning.specs.Opened.{Target, at_row, at_none, at_dead, target_at, dead_of}
use Rattle.run_meaning.proofs.Dead.{dead_in}
use Rattle.still_graph.specs.Still.{StillState, opened_in}
use Rattle.lane_run.specs.Lanes.{IsOpenOver}
use Rattle.lane_run.proofs.Named.{ReadsAs, set_kind, get_kind}
use Rattle.lane_run.proofs.Owned.{owner_within}

row_here : (live : Bool) (r : Option ℕ) (owner row : ℕ) → cond live (target_at r) (at_dead owner) ≡ at_row row → r ≡ Some row
row_here true None owner row e = absurd cc
row_here true (Some n) owner row e = cc
row_here false r owner row e = absurd cc

dead_here : (live : Bool) (r : Option ℕ) (owner n : ℕ) → cond live (target_at r) (at_dead owner) ≡ at_dead n → (live ≡ false) × (owner ≡ n)
dead_here true None owner n e = absurd cc
dead_here true (Some k) owner n e = absurd cc
dead_here false r owner n e = (refl, cc)

abbrev HasRow : StillState → ℕ → ℕ → Type 0
HasRow x id row = (node : PlanNode) × (slice_get x.graph.plan.nodes row ≡ Some node) × (kind_of_id x.component id ≡ Some node.kind)

-- the row that an id stands for is of its kind
row_kind : (x : StillState) → IsOpenOver x → (id : ℕ) (key : Option Code) (row : ℕ) → (opened_in x).target id key ≡ at_row row → HasRow x id row
row_kind x is id key row e =
    let component : Component = x.component in
    let held : Held = x.state.held in
    let ws : List Written = written component held in
    let place : Place = place_at id key in
    let found = row_got (places_of ws) place row (row_here (is_live held (owner_of_id component id)) (row_of (places_of ws) place) (owner_of_id component id) row e) in
    let line = map_at place_of (rows_of ws) row place found in
    let node : PlanNode = node_of (is_keyed component) (places_of ws) line.0 in
    let there : slice_get (plan_of component (state_of held)).nodes row ≡ Some node = at_map (node_of (is_keyed component) (places_of ws)) (rows_of ws) row line.0 line.1 in
    let told = as_told component (state_of held) is.kept (rows_of_held component held is.fits) row place node found there in
    (node, ap (λ (p : Plan). slice_get p.nodes row) is.plan ∙ there, told.0)

same_kind : (k m : Kind) → Some k ≡ Some m → k ≡ m
same_kind k m e = cc

abbrev IsWritten : PlanNode → Type 0
IsWritten node = (node.kind ≡ kind.Signal) ⊎ (node.kind ≡ kind.Field)

pub set_row_fits : (x : StillState) → IsOpenOver x → (id : ℕ) (key : Option Code) (row : ℕ) → MaySet (members_of x.component.items) id key → (opened_in x).target id key ≡ at_row row → IsSomeAnd (slice_get x.graph.plan.nodes row) (λ node. (node.kind ≡ kind.Signal) ⊎ (node.kind ≡ kind.Field))
set_row_fits x is id key row may e =
    let r = row_kind x is id key row e in
    let node : PlanNode = r.0 in
    let written : IsWritten node = ⊎_elim
    (λ (s : kind_of_id x.component id ≡ Some kind.Signal). inl (same_kind node.kind kind.Signal (sym r.2 ∙ s)))
    (λ (f : kind_of_id x.component id ≡ Some kind.Field). inr (same_kind node.kind kind.Field (sym r.2 ∙ f)))
    (set_kind x.component is.kept id key may) in
    subst (λ (o : Option PlanNode). IsSomeAnd o IsWritten) (sym r.1) written

pub get_row_fits : (x : StillState) → IsOpenOver x → (id : ℕ) (key : Option Code) (row : ℕ) → MayGet (members_of x.component.items) id key → (opened_in x).target id key ≡ at_row row → IsSomeAnd (slice_get x.graph.plan.nodes row) (λ node. node.kind ≢ kind.Effect)
get_row_fits x is id key row may e =
    let r = row_kind x is id key row e in
    let node : PlanNode = r.0 in
    let reads : ReadsAs x.component id = get_kind x.component is.kept id key may in
    subst (λ (o : Option PlanNode). IsSomeAnd o (λ n. n.kind ≢ kind.Effect)) (sym r.1)
    (λ (effect : node.kind ≡ kind.Effect). reads.2 (same_kind reads.0 kind.Effect (sym reads.1 ∙ r.2 ∙ ap (λ (k : Kind). Some k) effect)))

-- what a dead owner owned is said to be so
pub dead_target : (x : StillState) → IsOpenOver x → (id : ℕ) (key : Option Code) (n : ℕ) → (opened_in x).target id key ≡ at_dead n → (Some ((opened_in x).owner_of id) ≡ Some n) × In n (dead_of (opened_in x)) × (Some ((opened_in x).target id key) ≡ Some at_none → ⊥)
dead_target x is id key n e =
    let held : Held = x.state.held in
    let owner : ℕ = owner_of_id x.component id in
    let d = dead_here (is_live held owner) (row_of (places_of (written x.component held)) (place_at id key)) owner n e in
    let within = owner_within x.component is.kept id in
    let long = is.owners in
    let same : owner ≡ n = d.1 in
    let l : n < length held.live = omega arith in (
      ap (λ (k : ℕ). Some k) same,
      dead_in held n l (ap (is_live held) (sym same) ∙ d.0),
      λ none. no_row ((opened_in x).target id key) n e none,
    )
  where
    no_row : (t : Target) (n : ℕ) → t ≡ at_dead n → Some t ≡ Some at_none → ⊥
    no_row t n e f = cc
