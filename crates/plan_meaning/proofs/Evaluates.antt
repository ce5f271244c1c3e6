-- A row of the plan evaluates as its place.
use Rattle.std.proofs.Common.{◌≡◌, ℕ, ◌<◌, if◌then◌else◌, Bool, true, false, List, map, length, slice_get, Option, Some, None, refl, sym, ap, ◌∙◌, arith}
use Rattle.std.proofs.lemmas.Option.{get_or_from_slice_get}
use Rattle.std.proofs.lemmas.List.{ext_get_or, length-map}
use Rattle.values.specs.declared.code.Code.{Code}
use Rattle.values.specs.declared.code.Code.TheVariants.{Empty}
use Rattle.values.specs.declared.plan.Kind.{Kind}
use Rattle.values.specs.declared.plan.PlanNode.{PlanNode}
use Rattle.values.specs.declared.expr.Expr.{Expr}
use Rattle.values.specs.Evaluation.{value_of}
use Rattle.values.specs.PlanValues.{is_derived, value_at, plan_values, SolvesPlan}
use Rattle.values.proofs.Evaluation.{value_of-Lit, value_of-Read}
use Rattle.values.proofs.PlanLemmas.{reads_named}
use Rattle.values.proofs.PlanValuesLemmas.{plan_value-alone, length-plan_values, lawful_back}
use Rattle.values.proofs.ReadsLemmas.{same_by_reads}
use Rattle.component_items.specs.declared.component.Component.{Component}
use Rattle.component_items.specs.Kept.{IsKept}
use Rattle.plain_evaluation.specs.Fits.{RowsFit}
use Rattle.plain_evaluation.specs.Keyed.{Stand, literal, place, stands_for, is_keyed}
use Rattle.plain_evaluation.specs.Place.{Place}
use Rattle.plain_evaluation.specs.Scratch.{Values, no_values, value_for, seen_from, value_said, values_in, scratch_in}
use Rattle.plain_evaluation.specs.Sound.{Among, IsSound}
use Rattle.plain_evaluation.specs.Written.{State, Says, given, loaded, derived, Written, place_of, written_in}
use Rattle.plain_evaluation.proofs.Makes.{makes_sense}
use Rattle.plain_evaluation.proofs.Solves.{framed, solves}
use Rattle.plan_meaning.specs.Layout.{is_computed, rows_of, places_of, row_of, read_row, read_by, expr_said, node_of, plan_of}
use Rattle.plan_meaning.specs.Values.{row_values}
use Rattle.plan_meaning.proofs.Back.{read_back}
use Rattle.plan_meaning.proofs.Lines.{are_proper}
use Rattle.plan_meaning.proofs.Owners.{lawful}
use Rattle.plan_meaning.proofs.Renamed.{replaced}
use Rattle.plan_meaning.proofs.Rows.{row_among, row_got, none_found, at_map, map_at}
use Rattle.plan_meaning.proofs.Told.{line_of}

abbrev final : (ℕ → Bool) → List Written → Values
final keyed ws = values_in keyed ws no_values

-- the value of each row of a text
abbrev values_of_rows : (ℕ → Bool) → List Written → ℕ → Code
values_of_rows keyed ws = value_at (map (final keyed ws) (places_of ws))

-- the value of a row is that of its place
pub value_of_row : (values : Values) (places : List Place) (row : ℕ) (p : Place) → slice_get places row ≡ Some p → value_at (map values places) row ≡ values p
value_of_row values places row p is = get_or_from_slice_get (map values places) row (values p) Empty (at_map values places row p is)

-- what a row reads for an id has the value of what the id stands for
read_value : (keyed : ℕ → Bool) (ws : List Written) (stand : Stand) → value_of (read_by (places_of ws) stand) (values_of_rows keyed ws) ≡ value_for (final keyed ws) stand
read_value keyed ws (literal code) = value_of-Lit code (values_of_rows keyed ws)
read_value keyed ws (place p) = at (row_of (places_of ws) p) refl
  where
    at : (o : Option ℕ) → row_of (places_of ws) p ≡ o → value_of (read_row o) (values_of_rows keyed ws) ≡ final keyed ws p
    at None found = value_of-Lit Empty (values_of_rows keyed ws) ∙ sym (framed keyed ws no_values p (none_found ws p found))
    at (Some r) found = value_of-Read r (values_of_rows keyed ws) ∙ value_of_row (final keyed ws) (places_of ws) r p (row_got (places_of ws) p r found)

evaluates : (keyed : ℕ → Bool) (ws : List Written) → IsSound keyed ws → (w : Written) (k : Kind) (e : Expr) → Among ws w → w.says ≡ derived k e → value_of (node_of keyed (places_of ws) w).expr (values_of_rows keyed ws) ≡ final keyed ws (place_of w)
evaluates keyed ws sound w k e among says =
    ap (λ s. value_of (expr_said s stand) (values_of_rows keyed ws)) says
    ∙ replaced e stand (values_of_rows keyed ws)
    ∙ (λ i. value_of e (λ n. read_value keyed ws (stands_for keyed w.scene n) i))
    ∙ ap (λ s. value_said s w.id (seen_from keyed (final keyed ws) w.scene)) (sym says)
    ∙ sym (solves keyed ws sound w among)
  where
    stand : ℕ → Expr
    stand id = read_by (places_of ws) (stands_for keyed w.scene id)

computed_says : (says : Says) → is_computed says ≡ true → (k : Kind) × (e : Expr) × (says ≡ derived k e)
computed_says (given k code) is = cc
computed_says (loaded pairs arrived) is = cc
computed_says (derived k e) is = (k, e, refl)

-- a derived row, over the values of the rows before it
pub row_evaluates : (component : Component) (state : State) → IsKept component → RowsFit component state → (row : ℕ) (p : Place) (node : PlanNode) → slice_get (places_of (written_in component state)) row ≡ Some p → slice_get (plan_of component state).nodes row ≡ Some node → is_derived node.kind ≡ true → (values : ℕ → Code) → ((source : ℕ) → source < row → values source ≡ value_at (row_values component state) source) → value_of node.expr values ≡ scratch_in component state p
row_evaluates component state kept fits row p node at_place at_node is_derived_kind values same =
    (same_by_reads node.expr values (value_at (row_values component state)) (λ q read. same q (read_back component state kept fits row node at_node q (reads_named node.expr values q read)).0)).0
    ∙ ap (λ (n : PlanNode). value_of n.expr (value_at (row_values component state))) (sym line.3)
    ∙ evaluates (is_keyed component) ws (makes_sense component state kept fits) w says.0 says.1 among says.2
    ∙ ap (scratch_in component state) line.2
  where
    ws : List Written
    ws = written_in component state

    line : (w : Written) × (slice_get (rows_of ws) row ≡ Some w) × (place_of w ≡ p) × (node_of (is_keyed component) (places_of ws) w ≡ node)
    line = line_of component state row p node at_place at_node

    w : Written
    w = line.0

    among : Among ws w
    among = row_among ws row w line.1

    says : (k : Kind) × (e : Expr) × (w.says ≡ derived k e)
    says = computed_says w.says (sym (are_proper component state kept w among).computed ∙ ap (λ (n : PlanNode). is_derived n.kind) line.3 ∙ is_derived_kind)

-- all rows, where the sources have the values of their places
pub rows_evaluate : (component : Component) (state : State) → IsKept component → RowsFit component state → plan_values (plan_of component state).nodes (value_at (row_values component state)) ≡ row_values component state
rows_evaluate component state kept fits =
    ext_get_or Empty (plan_values nodes values) (row_values component state) same_length (λ row below. sym (plan_value-alone nodes values values (lawful_back (plan_of component state) (lawful component state kept fits)) solves_plan row (let long = length-plan_values nodes values in omega arith)))
  where
    ws : List Written
    ws = written_in component state

    nodes : List PlanNode
    nodes = (plan_of component state).nodes

    values : ℕ → Code
    values = value_at (row_values component state)

    same_length : length (plan_values nodes values) ≡ length (row_values component state)
    same_length = length-plan_values nodes values ∙ length-map (rows_of ws) (node_of (is_keyed component) (places_of ws)) ∙ sym (length-map (rows_of ws) place_of) ∙ sym (length-map (places_of ws) (scratch_in component state))

    solves_plan : SolvesPlan nodes values values
    solves_plan = record { each = λ row node at_node. each row node at_node (is_derived node.kind) refl }
      where
        each : (row : ℕ) (node : PlanNode) → slice_get nodes row ≡ Some node → (b : Bool) → is_derived node.kind ≡ b → values row ≡ (if b then value_of node.expr values else values row)
        each row node at_node false is = refl
        each row node at_node true is =
            let one = map_at (node_of (is_keyed component) (places_of ws)) (rows_of ws) row node at_node in
            let at_place = at_map place_of (rows_of ws) row one.0 one.1 in
            value_of_row (scratch_in component state) (places_of ws) row (place_of one.0) at_place
            ∙ sym (row_evaluates component state kept fits row (place_of one.0) node at_place at_node is values (λ source below. refl))
