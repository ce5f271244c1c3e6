-- What a row is and whose it is, is what the text says of its id.
use Rattle.std.proofs.Common.{◌≡◌, ℕ, List, slice_get, Some, refl, sym, ap, ◌∙◌}
use Rattle.values.specs.declared.plan.PlanNode.{PlanNode}
use Rattle.component_items.specs.declared.component.Component.{Component}
use Rattle.component_items.specs.Kept.{IsKept}
use Rattle.plain_evaluation.specs.Fits.{RowsFit}
use Rattle.plain_evaluation.specs.Keyed.{is_keyed}
use Rattle.plain_evaluation.specs.Origins.{Origin, told_of}
use Rattle.plain_evaluation.specs.Place.{Place}
use Rattle.plain_evaluation.specs.Written.{State, Says, given, loaded, derived, kind_said, Written, place_of, written_in}
use Rattle.plain_evaluation.proofs.Origins.{have_origins}
use Rattle.plan_meaning.specs.Layout.{rows_of, places_of, node_of, plan_of}
use Rattle.plan_meaning.specs.Told.{kind_told, kind_of_id, owner_of_id}
use Rattle.plan_meaning.proofs.Rows.{row_among, map_at, at_map}

pub kinds : (says : Says) → kind_told (told_of says) ≡ Some (kind_said says)
kinds (given kind code) = refl
kinds (loaded pairs arrived) = refl
kinds (derived kind expr) = refl

-- the line of a row
pub line_of : (component : Component) (state : State) (row : ℕ) (p : Place) (node : PlanNode) → slice_get (places_of (written_in component state)) row ≡ Some p → slice_get (plan_of component state).nodes row ≡ Some node → (w : Written) × (slice_get (rows_of (written_in component state)) row ≡ Some w) × (place_of w ≡ p) × (node_of (is_keyed component) (places_of (written_in component state)) w ≡ node)
line_of component state row p node at_place at_node =
    let ws : List Written = written_in component state in
    let one = map_at place_of (rows_of ws) row p at_place in
    let same : Some (node_of (is_keyed component) (places_of ws) one.0) ≡ Some node = sym (at_map (node_of (is_keyed component) (places_of ws)) (rows_of ws) row one.0 one.1) ∙ at_node in
    (one.0, one.1, one.2, cc)

pub as_told : (component : Component) (state : State) → IsKept component → RowsFit component state → (row : ℕ) (p : Place) (node : PlanNode) → slice_get (places_of (written_in component state)) row ≡ Some p → slice_get (plan_of component state).nodes row ≡ Some node → (kind_of_id component p.id ≡ Some node.kind) × (owner_of_id component p.id ≡ node.owner)
as_told component state kept fits row p node at_place at_node =
    let line = line_of component state row p node at_place at_node in
    let w = line.0 in
    let origin = have_origins component state kept fits w (row_among (written_in component state) row w line.1) in
    let id : p.id ≡ w.id = ap (λ (q : Place). q.id) (sym line.2) in (
      ap (kind_of_id component) id ∙ ap (λ (o : Origin). kind_told o.told) origin ∙ kinds w.says ∙ ap (λ (n : PlanNode). Some n.kind) line.3,
      ap (owner_of_id component) id ∙ ap (λ (o : Origin). o.around.owner) origin ∙ ap (λ (n : PlanNode). n.owner) line.3,
    )
