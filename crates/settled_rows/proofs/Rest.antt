-- Where the sources have their values by plain evaluation, and memos those of their expressions, all is plain evaluation,
-- and shows held state.
use Rattle.std.proofs.Common.{◌≡◌, ◌≢◌, ℕ, false, List, length, Some, slice_get, refl, sym, ap, subst, ◌∙◌}
use Rattle.std.proofs.lemmas.Option.{get_or_from_slice_get}
use Rattle.values.specs.declared.code.Code.{Code}
use Rattle.values.specs.declared.code.Code.TheVariants.{Empty}
use Rattle.values.specs.declared.plan.Kind.{Kind}
use Rattle.values.specs.declared.plan.Kind.TheVariants as kind
use Rattle.values.specs.declared.plan.Plan.{Plan}
use Rattle.values.specs.declared.plan.PlanNode.{PlanNode}
use Rattle.values.specs.Packing.{unpacked}
use Rattle.values.specs.PlanValues.{is_derived, value_at, plan_value, HaveSameSources}
use Rattle.values.proofs.PlanValuesLemmas.{plan_value-by_sources}
use Rattle.component_items.specs.declared.component.Component.{Component}
use Rattle.component_items.specs.Kept.{IsKept}
use Rattle.sources.specs.declared.opening.Opened as rows
use Rattle.sources.specs.Rows.{value_in}
use Rattle.plain_evaluation.specs.Fits.{RowsFit}
use Rattle.plain_evaluation.specs.Held.{Held}
use Rattle.plain_evaluation.specs.Keyed.{is_keyed}
use Rattle.plain_evaluation.specs.Scratch.{scratch_in}
use Rattle.plain_evaluation.specs.Written.{given, Says, kind_said, Written, place_of, state_of, written_in}
use Rattle.plan_meaning.specs.Layout.{rows_of, places_of, node_of, plan_of}
use Rattle.plan_meaning.specs.There.{AreNested}
use Rattle.plan_meaning.specs.Values.{row_values}
use Rattle.plan_meaning.proofs.Evaluates.{value_of_row, rows_evaluate}
use Rattle.plan_meaning.proofs.Rows.{row_among, map_at, at_map}
use Rattle.plan_meaning.proofs.Settled.{evaluation_settles}
use Rattle.held_rows.proofs.Given.{GivenSo, are_given}
use Rattle.load_polls.specs.Shown.{SourcesShow}
use Rattle.next_layout.proofs.Rows.{fellow, row_value}
use Rattle.phase_graph.specs.Graph.{GraphState}
use Rattle.settled_rows.specs.Rows.{KeysStand, HasPlainValues}
use Rattle.settled_rows.proofs.LoadRows.{plain_load}

module _ (component : Component) (held : Held) (kept : IsKept component) (fits : RowsFit component (state_of held)) where
  abbrev ws : List Written
  ws = written_in component (state_of held)

  abbrev values : List Code
  values = row_values component (state_of held)

  -- what the value of a row is, and that there is one
  row_at : (n : ℕ) (node : PlanNode) → slice_get (plan_of component (state_of held)).nodes n ≡ Some node → slice_get values n ≡ Some (value_at values n)
  row_at n node at_node =
      let one = map_at (node_of (is_keyed component) (places_of ws)) (rows_of ws) n node at_node in
      let at_place = at_map place_of (rows_of ws) n one.0 one.1 in
      at_map (scratch_in component (state_of held)) (places_of ws) n (place_of one.0) at_place
      ∙ ap (λ (code : Code). Some code) (sym (value_of_row (scratch_in component (state_of held)) (places_of ws) n (place_of one.0) at_place))

  -- ---- every memo is brought up to date

  module _ (old new : GraphState) (plan : old.plan ≡ plan_of component (state_of held)) (same : HaveSameSources old.plan.nodes (value_in old.rows) (value_at values))
      (memos : (n : ℕ) (node : PlanNode) (row : rows.Opened) → slice_get old.plan.nodes n ≡ Some node → slice_get new.rows n ≡ Some row → node.kind ≡ kind.Memo → unpacked row.code ≡ plan_value old.plan.nodes (value_in old.rows) n)
      (sources : (n : ℕ) (node : PlanNode) → slice_get old.plan.nodes n ≡ Some node → is_derived node.kind ≡ false → slice_get new.rows n ≡ slice_get old.rows n) (same_plan : new.plan ≡ old.plan) where
    brought : plan_value old.plan.nodes (value_in old.rows) ≡ value_at values
    brought =
        plan_value-by_sources old.plan.nodes (value_in old.rows) (value_at values) same
        ∙ ap (λ (q : Plan). plan_value q.nodes (value_at values)) plan
        ∙ ap value_at (rows_evaluate component (state_of held) kept fits)

    source_value : (n : ℕ) (node : PlanNode) (row : rows.Opened) → slice_get old.plan.nodes n ≡ Some node → slice_get new.rows n ≡ Some row → is_derived node.kind ≡ false → unpacked row.code ≡ value_at values n
    source_value n node row at_node at_row source = sym (row_value old.rows n row (sym (sources n node at_node source) ∙ at_row)) ∙ same.same n node at_node source

    has_value : (n : ℕ) (node : PlanNode) (row : rows.Opened) → slice_get old.plan.nodes n ≡ Some node → slice_get new.rows n ≡ Some row → (k : Kind) → node.kind ≡ k → k ≢ kind.Effect → unpacked row.code ≡ value_at values n
    has_value n node row at_node at_row kind.Signal is non = source_value n node row at_node at_row (ap is_derived is)
    has_value n node row at_node at_row kind.Field is non = source_value n node row at_node at_row (ap is_derived is)
    has_value n node row at_node at_row kind.Load is non = source_value n node row at_node at_row (ap is_derived is)
    has_value n node row at_node at_row kind.Memo is non = memos n node row at_node at_row is ∙ ap (λ (f : ℕ → Code). f n) brought
    has_value n node row at_node at_row kind.Effect is non = absurd (non refl)

    pub at_rest : HasPlainValues component held new
    at_rest n node row at_node at_row non =
        let there : slice_get old.plan.nodes n ≡ Some node = ap (λ (q : Plan). slice_get q.nodes n) (sym same_plan) ∙ at_node in
        row_at n node (ap (λ (q : Plan). slice_get q.nodes n) (sym plan) ∙ there)
        ∙ ap (λ (code : Code). Some code) (sym (has_value n node row there at_row node.kind refl non))

  -- ---- what is at rest shows held state

  module _ (nested : AreNested component (state_of held)) (stand : KeysStand component held) (graph : GraphState) (plan : graph.plan ≡ plan_of component (state_of held)) (paired : length graph.rows ≡ length graph.plan.nodes) (plain : HasPlainValues component held graph) where
    -- the row of a line that is no effect's
    line_value : (row : ℕ) (w : Written) → slice_get (rows_of ws) row ≡ Some w → kind_said w.says ≢ kind.Effect → value_in graph.rows row ≡ value_at values row
    line_value row w at non =
        let node : PlanNode = node_of (is_keyed component) (places_of ws) w in
        let at_node : slice_get graph.plan.nodes row ≡ Some node = ap (λ (q : Plan). slice_get q.nodes row) plan ∙ at_map (node_of (is_keyed component) (places_of ws)) (rows_of ws) row w at in
        let one = fellow graph.rows graph.plan.nodes paired row node at_node in
        row_value graph.rows row one.0 one.1
        ∙ sym (get_or_from_slice_get values row (unpacked one.0.code) Empty (plain row node one.0 at_node one.1 non))

    given_kind : (w : Written) (k : Kind) (code : Code) → GivenSo (state_of held) w.id w.scene.row (given k code) → k ≢ kind.Effect
    given_kind w kind.Signal code is = λ e. cc
    given_kind w kind.Field code is = λ e. cc
    given_kind w kind.Load code is = λ e. cc
    given_kind w kind.Memo code is = λ e. cc
    given_kind w kind.Effect code is = absurd is

    pub rest_shows : SourcesShow component (state_of held) graph.rows
    rest_shows = record {
      given_so = λ row w k code at says. (
          let non = given_kind w k code (subst_says w (given k code) says (are_given component (state_of held) kept w (row_among ws row w at))) in
          line_value row w at (λ e. non (sym (ap kind_said says) ∙ e))
          ∙ (evaluation_settles component (state_of held) kept fits).sources row w k code at says);
      loaded_so = λ row w pairs now at says. (
          line_value row w at (λ e. (let f : kind.Load ≡ kind.Effect = sym (ap kind_said says) ∙ e in cc))
          ∙ value_of_row (scratch_in component (state_of held)) (places_of ws) row (place_of w) (at_map place_of (rows_of ws) row w at)
          ∙ plain_load component held kept fits nested stand row w pairs now at says);
    }
      where
        subst_says : (w : Written) (says : Says) → w.says ≡ says → GivenSo (state_of held) w.id w.scene.row w.says → GivenSo (state_of held) w.id w.scene.row says
        subst_says w says is so = subst (GivenSo (state_of held) w.id w.scene.row) is so
