-- What ids stand for, and that no row of the plan is of a dead owner.
use Rattle.std.proofs.Common.{◌≡◌, ℕ, zero, suc, ◌&&◌, Bool, true, false, List, [], ◌∷◌, Option, Some, slice_get, refl, sym, ap, subst, ◌∙◌}
use Rattle.std.specs.Prelude.{slice_index_or, is_some, if◌then◌else◌}
use Rattle.values.specs.declared.code.Code.{Code}
use Rattle.values.specs.declared.plan.Plan.{Plan}
use Rattle.values.specs.declared.plan.PlanNode.{PlanNode}
use Rattle.component_items.specs.declared.component.Component.{Component}
use Rattle.component_items.specs.Kept.{IsKept}
use Rattle.plain_evaluation.specs.Fits.{RowsFit}
use Rattle.plain_evaluation.specs.Held.{Held, is_live}
use Rattle.plain_evaluation.specs.Place.{Place, place_at, position_of}
use Rattle.plain_evaluation.specs.Sound.{has_place}
use Rattle.plain_evaluation.specs.Written.{state_of, place_of, written, written_in}
use Rattle.plain_evaluation.proofs.Fitting.{rows_of_held}
use Rattle.plan_meaning.specs.Layout.{rows_of, places_of, plan_of}
use Rattle.plan_meaning.specs.There.{has_row}
use Rattle.plan_meaning.specs.Told.{kind_of_id, owner_of_id, store_of_id}
use Rattle.plan_meaning.proofs.Rows.{map_at, row_among, among_has}
use Rattle.plan_meaning.proofs.There.{due}
use Rattle.plan_meaning.proofs.Told.{as_told}
use Rattle.run_meaning.specs.Opened.{at_dead, target_at, target_in}
use Rattle.run_history.specs.Going.{Start}
use Rattle.phase_graph.specs.Way.{AreHome}
use Rattle.still_graph.specs.Still.{StillState, opened_in}
use Rattle.still_graph.specs.Stands.{IsStill}
use Rattle.still_graph.proofs.Steps.{place_of_node}

-- ---- targets

module _ (component : Component) (held : Held) (places : List Place) (same : places ≡ places_of (written component held)) (id : ℕ) (key : Option Code) (owner : ℕ) (owned : owner ≡ owner_of_id component id) where
  -- an id of a live owner has the row of its place, or none
  pub live_target : is_live held owner ≡ true → target_at (position_of places (place_at id key)) ≡ target_in component held (places_of (written component held)) id key
  live_target live =
      ap (λ (ps : List Place). target_at (position_of ps (place_at id key))) same
      ∙ sym (ap (λ (b : Bool). if b then target_at (position_of (places_of (written component held)) (place_at id key)) else at_dead (owner_of_id component id)) (ap (is_live held) (sym owned) ∙ live))

  -- and one of a dead owner has none
  pub dead_target : is_live held owner ≡ false → at_dead owner ≡ target_in component held (places_of (written component held)) id key
  dead_target dead =
      ap at_dead owned
      ∙ sym (ap (λ (b : Bool). if b then target_at (position_of (places_of (written component held)) (place_at id key)) else at_dead (owner_of_id component id)) (ap (is_live held) (sym owned) ∙ dead))

-- ---- owners of rows

between : (a b c : Bool) → (a && b && c) ≡ true → b ≡ true
between true true c e = refl
between true false c e = cc
between false b c e = cc

true_at : (bs : List Bool) (n : ℕ) → slice_index_or bs n false ≡ true → slice_get bs n ≡ Some true
true_at [] n e = cc
true_at (b ∷ bs) zero e = ap (λ (x : Bool). Some x) e
true_at (b ∷ bs) (suc n) e = true_at bs n e

-- what has a row is of a live owner
row_lives : (component : Component) (held : Held) → IsKept component → RowsFit component (state_of held) → (n : ℕ) (p : Place) (node : PlanNode) → slice_get (places_of (written_in component (state_of held))) n ≡ Some p → slice_get (plan_of component (state_of held)).nodes n ≡ Some node → is_live held node.owner ≡ true
row_lives component held kept fits n p node at_place at_node =
    ap (is_live held) (sym (as_told component (state_of held) kept fits n p node at_place at_node).1)
    ∙ between (is_some (kind_of_id component p.id)) (is_live held (owner_of_id component p.id)) (has_row (state_of held) (store_of_id component p.id) p.key) (due component (state_of held) kept fits p there)
  where
    there : has_place (written_in component (state_of held)) p ≡ true
    there =
        let one = map_at place_of (rows_of (written_in component (state_of held))) n p at_place in
        subst (λ (q : Place). has_place (written_in component (state_of held)) q ≡ true) one.2 (among_has (written_in component (state_of held)) one.0 (row_among (written_in component (state_of held)) n one.0 one.1))

-- no row of the plan is of an owner that was dead when the phase opened
pub are_home : (x : StillState) (room : ℕ) → IsStill x room → (s : Start) → s.plan ≡ (opened_in x).plan → s.live ≡ x.state.held.live → AreHome s
are_home x room still s plan live = record {
  homes = λ n node at_node. (
      let here : slice_get (plan_of x.component (state_of x.state.held)).nodes n ≡ Some node = ap (λ (p : Plan). slice_get p.nodes n) (sym plan) ∙ at_node in
      let place = place_of_node x room still n node (ap (λ (p : Plan). slice_get p.nodes n) still.plan ∙ here) in
      ap (λ (bs : List Bool). slice_get bs node.owner) live
      ∙ true_at x.state.held.live node.owner (row_lives x.component x.state.held still.kept (rows_of_held x.component x.state.held still.fits.fits) n place.0 node (ap (λ (ps : List Place). slice_get ps n) (sym still.places) ∙ place.1) here));
}
