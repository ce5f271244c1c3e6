-- What stands in no row of a store: effects and loads; and it is not fresh where no area came back.
use Rattle.std.proofs.Common.{◌≡◌, ℕ, ◌&&◌, true, slice_get, Option, Some, None, is_some, refl, sym, ap, subst, ◌∙◌}
use Rattle.values.specs.declared.code.Code.{Code}
use Rattle.values.specs.declared.plan.Kind.TheVariants as kind
use Rattle.values.specs.declared.plan.PlanNode.{PlanNode}
use Rattle.component_items.specs.declared.component.Component.{Component}
use Rattle.component_items.specs.Kept.{IsKept}
use Rattle.plain_evaluation.specs.Fits.{RowsFit}
use Rattle.plain_evaluation.specs.Place.{Place, place_at, outside}
use Rattle.plain_evaluation.specs.Sound.{has_place}
use Rattle.plain_evaluation.specs.Written.{State, RowAround, place_of, key_in, written_in}
use Rattle.plain_evaluation.proofs.Places.{and_cases, and_both}
use Rattle.plan_meaning.specs.Layout.{rows_of, places_of, row_of, plan_of}
use Rattle.plan_meaning.specs.There.{has_row, is_there, AreNested}
use Rattle.plan_meaning.specs.Told.{kind_of_id, owner_of_id, store_of_id}
use Rattle.plan_meaning.proofs.Lines.{are_proper}
use Rattle.plan_meaning.proofs.Present.{written_as_due}
use Rattle.plan_meaning.proofs.Rows.{map_at, row_among, among_has, row_there}
use Rattle.plan_meaning.proofs.There.{due}
use Rattle.plan_meaning.proofs.Told.{line_of}

pub effect_outside : (component : Component) (state : State) → IsKept component → RowsFit component state → (row : ℕ) (p : Place) (node : PlanNode) → slice_get (places_of (written_in component state)) row ≡ Some p → slice_get (plan_of component state).nodes row ≡ Some node → node.kind ≡ kind.Effect → p ≡ outside p.id
effect_outside component state kept fits row p node at_place at_node effect =
    let line = line_of component state row p node at_place at_node in
    let w = line.0 in
    let none = (are_proper component state kept w (row_among (written_in component state) row w line.1)).effect (ap (λ (n : PlanNode). n.kind) line.3 ∙ effect) in
    let alone : key_in w.scene ≡ None = ap (λ (r : Option RowAround). key_in (record { owner = w.scene.owner; row = r })) none in
    let id : w.id ≡ p.id = ap (λ (q : Place). q.id) line.2 in
    sym line.2 ∙ (λ i. place_at (id i) (alone i))

-- a place in no row of a store was there before
pub was_there : (component : Component) (state later : State) → IsKept component → RowsFit component state → RowsFit component later → AreNested component state → ((owner : ℕ) → later.live owner ≡ true → state.live owner ≡ true) → (row : ℕ) (p : Place) → slice_get (places_of (written_in component later)) row ≡ Some p → p ≡ outside p.id → (old : ℕ) × (row_of (places_of (written_in component state)) p ≡ Some old)
was_there component state later kept fits fits_later nested no_more row p at_row alone =
    let one = map_at place_of (rows_of (written_in component later)) row p at_row in
    let has = subst (λ q. has_place (written_in component later) q ≡ true) one.2 (among_has (written_in component later) one.0 (row_among (written_in component later) row one.0 one.1)) in
    let there = due component later kept fits_later p has in
    let whole = and_cases (is_some (kind_of_id component p.id) && later.live (owner_of_id component p.id)) (has_row later (store_of_id component p.id) p.key) there in
    let both = and_cases (is_some (kind_of_id component p.id)) (later.live (owner_of_id component p.id)) whole.0 in
    let row_then = in_both (store_of_id component p.id) p.key (ap (λ (q : Place). q.key) alone) whole.1 in
    let before : is_there component state p ≡ true = and_both _ _ (and_both _ _ both.0 (no_more (owner_of_id component p.id) both.1)) row_then in
    let found = row_there (written_in component state) p (written_as_due component state kept fits nested p ∙ before) in
    (found.0, found.1)
  where
    in_both : (store : Option ℕ) (key : Option Code) → key ≡ None → has_row later store key ≡ true → has_row state store key ≡ true
    in_both None None is has = refl
    in_both None (Some key) is has = cc
    in_both (Some store) None is has = cc
    in_both (Some store) (Some key) is has = cc
