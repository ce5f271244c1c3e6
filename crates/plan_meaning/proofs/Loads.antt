-- A load's row, and that of its key.
use Rattle.std.proofs.Common.{◌≡◌, ℕ, suc, ◌<◌, List, slice_get, Option, Some, None, IsSomeAnd, refl, sym, ap, subst, ◌∙◌}
use Rattle.values.specs.declared.code.Code.{Code}
use Rattle.values.specs.declared.expr.Expr.{Expr}
use Rattle.values.specs.declared.plan.Kind.TheVariants as kind
use Rattle.values.specs.declared.plan.PlanNode.{PlanNode}
use Rattle.component_items.specs.declared.component.Component.{Component}
use Rattle.component_items.specs.Kept.{IsKept}
use Rattle.plain_evaluation.specs.Fits.{RowsFit}
use Rattle.plain_evaluation.specs.Keyed.{is_keyed}
use Rattle.plain_evaluation.specs.Place.{Place, place_at, outside}
use Rattle.plain_evaluation.specs.Sound.{Among}
use Rattle.plain_evaluation.specs.Written.{State, RowAround, loaded, Written, place_of, key_in, written_in}
use Rattle.plain_evaluation.proofs.Differ.{places_are_apart}
use Rattle.plan_meaning.specs.Layout.{is_computed, rows_of, places_of, row_of, node_of, plan_of}
use Rattle.plan_meaning.proofs.Lines.{key_line, IsProper, are_proper}
use Rattle.plan_meaning.proofs.Rows.{row_among, among_row, are_apart, sources_first, at_map}
use Rattle.plan_meaning.proofs.Told.{line_of}

-- it stands in no row of a store, and so does its key, whose row comes after it
pub load_rows : (component : Component) (state : State) → IsKept component → RowsFit component state → (row : ℕ) (p : Place) (node : PlanNode) → slice_get (places_of (written_in component state)) row ≡ Some p → slice_get (plan_of component state).nodes row ≡ Some node → node.kind ≡ kind.Load → (p ≡ outside p.id) × ((key : ℕ) × (row_of (places_of (written_in component state)) (outside (suc p.id)) ≡ Some key) × (row < key) × IsSomeAnd (slice_get (plan_of component state).nodes key) (λ n. n.kind ≡ kind.Memo))
load_rows component state kept fits row p node at_place at_node is_load = (sym line.2 ∙ (λ i. place_at (id i) (alone i)), (at_key.0, key_row, sources_first ws row at_key.0 w key line.1 at_key.1 (ap is_computed says.2) refl, key_kind))
  where
    ws : List Written
    ws = written_in component state

    line : (w : Written) × (slice_get (rows_of ws) row ≡ Some w) × (place_of w ≡ p) × (node_of (is_keyed component) (places_of ws) w ≡ node)
    line = line_of component state row p node at_place at_node

    w : Written
    w = line.0

    proper : IsProper ws w
    proper = are_proper component state kept w (row_among ws row w line.1)

    says : (pairs : List (Code × Code)) × (arrived : Option Code) × (w.says ≡ loaded pairs arrived)
    says = proper.loads (ap (λ (n : PlanNode). n.kind) line.3 ∙ is_load)

    load : (w.scene.row ≡ None) × ((key : Expr) × Among ws (key_line w key))
    load = proper.load says.0 says.1 says.2

    alone : key_in w.scene ≡ None
    alone = ap (λ (r : Option RowAround). key_in (record { owner = w.scene.owner; row = r })) load.0

    id : w.id ≡ p.id
    id = ap (λ (q : Place). q.id) line.2

    key : Written
    key = key_line w load.1.0

    at_key : (r : ℕ) × (slice_get (rows_of ws) r ≡ Some key)
    at_key = among_row ws key load.1.1

    key_row : row_of (places_of ws) (outside (suc p.id)) ≡ Some at_key.0
    key_row = subst (λ q. row_of (places_of ws) q ≡ Some at_key.0) (λ i. place_at (suc (id i)) (alone i)) (are_apart ws (places_are_apart component state kept fits) at_key.0 (place_of key) (at_map place_of (rows_of ws) at_key.0 key at_key.1))

    key_kind : IsSomeAnd (slice_get (plan_of component state).nodes at_key.0) (λ n. n.kind ≡ kind.Memo)
    key_kind = subst (λ (o : Option PlanNode). IsSomeAnd o (λ n. n.kind ≡ kind.Memo)) (sym (at_map (node_of (is_keyed component) (places_of ws)) (rows_of ws) at_key.0 key at_key.1)) refl
