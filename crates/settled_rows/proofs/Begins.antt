-- The first rows.
use Rattle.std.proofs.Common.{◌≡◌, inl, ℕ, zero, suc, ◌+◌, ◌<◌, Bool, true, false, List, [], ◌∷◌, ◌++◌, map, take, length, Some, None, slice_get, refl, sym, ap, subst, ◌∙◌, arith}
use Rattle.std.specs.Prelude.{replicate, Result, Ok, Err, IfOk}
use Rattle.std.proofs.lemmas.List.{length-map}
use Rattle.values.specs.declared.code.Code.{Code}
use Rattle.values.specs.declared.plan.Kind.{Kind}
use Rattle.values.specs.declared.plan.Kind.TheVariants as kind
use Rattle.values.specs.declared.plan.Plan.{Plan}
use Rattle.values.specs.declared.plan.PlanNode.{PlanNode}
use Rattle.values.specs.Packing.{unpacked}
use Rattle.values.specs.PlanValues.{is_derived}
use Rattle.async_derived.specs.declared.loading.Loading.{Loading}
use Rattle.async_derived.specs.Loads.{first_load}
use Rattle.component_items.specs.declared.component.Component.{Component}
use Rattle.component_items.specs.Kept.{IsKept}
use Rattle.sources.specs.declared.opening.Opened as rows
use Rattle.sources.specs.Rows.{value_in}
use Rattle.store_fields.specs.declared.row.Row.{Row}
use Rattle.plain_evaluation.specs.Fits.{RowsFit}
use Rattle.plain_evaluation.specs.Held.{Held, value_in as held_value, value_held, first_held}
use Rattle.plain_evaluation.specs.Keyed.{is_keyed}
use Rattle.plain_evaluation.specs.Place.{Place, outside}
use Rattle.plain_evaluation.specs.Written.{State, state_of, given, Says, kind_said, Written, place_of, written}
use Rattle.plain_evaluation.proofs.Begins.{first_begins}
use Rattle.plain_evaluation.proofs.Fitting.{rows_of_held}
use Rattle.plan_meaning.specs.Layout.{rows_of, places_of, node_of, plan_of}
use Rattle.plan_meaning.proofs.Rows.{row_among, at_map}
use Rattle.held_rows.proofs.Given.{GivenSo, are_given}
use Rattle.held_state.specs.State.{IsOf, first_state}
use Rattle.held_state.proofs.OfComponent.{first_is_of}
use Rattle.load_table.specs.Loads.{LoadOf, loads_in}
use Rattle.load_meaning.specs.Polls.{AreInStep, first_loadings}
use Rattle.load_meaning.proofs.Live.{holds_key}
use Rattle.load_polls.specs.Shown.{load_code, SourcesShow}
use Rattle.next_layout.proofs.Rows.{fellow, row_value}
use Rattle.phase_graph.specs.Graph.{GraphState}
use Rattle.settled_rows.specs.Rows.{KeysStand, IsFirstGraph, IsFirst}
use Rattle.settled_rows.proofs.LoadRows.{line_of_load}
use Rattle.settled_rows.proofs.Owners.{live_at_first}

-- where no store has rows, what is given is a signal's
given_signal : (state : State) → ((id : ℕ) → state.rows id ≡ []) → (w : Written) (k : Kind) (code : Code) → GivenSo state w.id w.scene.row (given k code) → (k ≡ kind.Signal) × (code ≡ state.value (outside w.id))
given_signal state empty w kind.Signal code is = (refl, is.1)
given_signal state empty w kind.Field code is = absurd (no_field (state.rows is.store) (empty is.store) is.row_at)
  where
    no_field : (rows : List Row) → rows ≡ [] → slice_get rows is.place ≡ Some is.row → ⊥
    no_field [] e there = cc
    no_field (r ∷ rows) e there = cc
given_signal state empty w kind.Load code is = absurd is
given_signal state empty w kind.Memo code is = absurd is
given_signal state empty w kind.Effect code is = absurd is

-- no load was asked for yet
module _ (component : Component) (kept : IsKept component) where
  pub in_step_first : AreInStep component (record { held = first_held component; loadings = first_loadings component })
  in_step_first = record {
    paired = length-map (loads_in component) (λ (load : LoadOf). first_load);
    each = λ place load loading at_load at_loading live. (
        let is : Some first_load ≡ Some loading = sym (at_map (λ (l : LoadOf). first_load) (loads_in component) place load at_load) ∙ at_loading in
        let same : first_load ≡ loading = cc in
        record {
          arrived = (first_begins component kept).arrived load.id ∙ ap (λ (l : Loading). l.arrived) same;
          last = λ key has. (let e : None ≡ Some key = ap (λ (l : Loading). l.arrived) same ∙ has in cc);
        });
  }

  pub keys_first : KeysStand component (first_held component)
  keys_first place load at live = inl ((first_begins component kept).arrived load.id)

module _ (component : Component) (kept : IsKept component) (layout : Plan) (codes : List Code) (places : List Place) (graph : GraphState)
    (layout_is : layout ≡ plan_of component (state_of (first_held component)))
    (is_places : places ≡ places_of (written component (first_held component)))
    (codes_are : codes ≡ map (λ (p : Place). value_held (first_held component) p.id) places)
    (is : IsFirstGraph layout codes graph) where
  plan : graph.plan ≡ plan_of component (state_of (first_held component))
  plan = is.plan_is ∙ layout_is

  paired : length graph.rows ≡ length graph.plan.nodes
  paired = is.paired ∙ ap (λ (p : Plan). length p.nodes) (sym is.plan_is)

  sources : (n : ℕ) (node : PlanNode) (row : rows.Opened) → slice_get graph.plan.nodes n ≡ Some node → slice_get graph.rows n ≡ Some row → is_derived node.kind ≡ false → slice_get (map (λ (p : Place). value_held (first_held component) p.id) places) n ≡ Some (unpacked row.code)
  sources n node row at_node at_row source = ap (λ (cs : List Code). slice_get cs n) (sym codes_are) ∙ is.sources n node row (ap (λ (p : Plan). slice_get p.nodes n) (sym is.plan_is) ∙ at_node) at_row source

  abbrev held : Held
  held = first_held component

  abbrev ws : List Written
  ws = written component (first_held component)

  of : IsOf component (first_state component)
  of = first_is_of component kept

  fits : RowsFit component (state_of (first_held component))
  fits = rows_of_held component (first_held component) of.fits

  -- a source shows what is held for its id
  shows_held : (row : ℕ) (w : Written) → slice_get (rows_of ws) row ≡ Some w → is_derived (kind_said w.says) ≡ false → value_in graph.rows row ≡ value_held (first_held component) w.id
  shows_held row w at source =
      let node : PlanNode = node_of (is_keyed component) (places_of ws) w in
      let at_node : slice_get graph.plan.nodes row ≡ Some node = ap (λ (q : Plan). slice_get q.nodes row) plan ∙ at_map (node_of (is_keyed component) (places_of ws)) (rows_of ws) row w at in
      let at_place : slice_get places row ≡ Some (place_of w) = ap (λ (ps : List Place). slice_get ps row) is_places ∙ at_map place_of (rows_of ws) row w at in
      let one = fellow graph.rows graph.plan.nodes paired row node at_node in
      let same : Some (value_held (first_held component) w.id) ≡ Some (unpacked one.0.code) = sym (at_map (λ (p : Place). value_held (first_held component) p.id) places row (place_of w) at_place) ∙ sources row node one.0 at_node one.1 source in
      let code : value_held (first_held component) w.id ≡ unpacked one.0.code = cc in
      row_value graph.rows row one.0 one.1 ∙ sym code

  shows_first : SourcesShow component (state_of (first_held component)) graph.rows
  shows_first = record {
    given_so = λ row w k code at says. (
        let line = given_signal (state_of (first_held component)) (first_begins component kept).rows w k code (so w (given k code) says (are_given component (state_of (first_held component)) kept w (row_among ws row w at))) in
        shows_held row w at (ap is_derived (ap kind_said says ∙ line.0)) ∙ sym line.1);
    loaded_so = λ row w pairs now at says. (
        let line = line_of_load component (state_of (first_held component)) kept fits row w pairs now at says of.owners.areas in
        let same_id : w.id ≡ line.load.id = ap (λ (p : Place). p.id) line.place_is in
        let key = (first_begins component kept).arrived line.load.id in
        let holds = holds_key component (first_held component) kept of.holds line.place line.load line.at line.live in
        shows_held row w at (ap is_derived (ap kind_said says))
        ∙ ap (value_held (first_held component)) same_id
        ∙ ap held_value holds
        ∙ ap (load_code pairs) (sym (line.arrived_is ∙ key)));
  }
    where
      so : (w : Written) (says : Says) → w.says ≡ says → GivenSo (state_of (first_held component)) w.id w.scene.row w.says → GivenSo (state_of (first_held component)) w.id w.scene.row says
      so w says is has = subst (GivenSo (state_of (first_held component)) w.id w.scene.row) is has

  pub is_first : IsFirst component places graph
  is_first = record {
    named = is_places;
    plan = plan;
    live = is.live ∙ ap (λ (p : Plan). replicate (length p.owners) true) layout_is ∙ live_at_first component kept;
    closed = is.closed;
    ticks = is.ticks;
    shows = shows_first;
    fresh = is.fresh;
  }

-- a graph that was made for a plan, where one was
pub first_of_plan : {E : Type 0} (made : Result GraphState E) (plan : Plan) (live : List Bool) (codes : List Code) → live ≡ replicate (length plan.owners) true
    → IfOk made (λ graph. graph.plan ≡ plan) → IfOk made (λ graph. graph.live ≡ live) → IfOk made (λ graph. graph.is_open ≡ false) → IfOk made (λ graph. graph.base ≡ 0) → IfOk made (λ graph. graph.drawn ≡ 0)
    → IfOk made (λ graph. length graph.rows ≡ length plan.nodes)
    → IfOk made (λ graph. (n : ℕ) (node : PlanNode) (row : rows.Opened) → slice_get plan.nodes n ≡ Some node → slice_get graph.rows n ≡ Some row → is_derived node.kind ≡ false → slice_get codes n ≡ Some (unpacked row.code))
    → IfOk made (λ graph. (n : ℕ) (node : PlanNode) (row : rows.Opened) → slice_get plan.nodes n ≡ Some node → slice_get graph.rows n ≡ Some row → is_derived node.kind ≡ true → row.body.cause ≡ None)
    → IfOk made (IsFirstGraph plan codes)
first_of_plan (Ok graph) plan live codes all plan_is live_is closed base drawn paired sources derived = record {
  plan_is = plan_is;
  live = live_is ∙ all;
  closed = closed;
  ticks = omega (arith, base, drawn);
  paired = paired;
  sources = sources;
  fresh = λ n node row at_node at_row is_so. derived n node row (ap (λ (p : Plan). slice_get p.nodes n) (sym plan_is) ∙ at_node) at_row is_so;
}
first_of_plan (Err e) plan live codes all plan_is live_is closed base drawn paired sources derived = tt

-- the codes of one more row
pub codes_more : (f : Place → Code) (places : List Place) (k : ℕ) (code : Code) → k < length places → ((p : Place) → slice_get places k ≡ Some p → code ≡ f p) → map f (take k places) ++ code ∷ [] ≡ map f (take (k + 1) places)
codes_more f [] k code lt is = absurd (omega arith)
codes_more f (p ∷ places) zero code lt is = ap (λ c. c ∷ []) (is p refl)
codes_more f (p ∷ places) (suc k) code lt is =
    let next : suc (k + 1) ≡ suc k + 1 = omega arith in
    ap (λ cs. f p ∷ cs) (codes_more f places k code (omega arith) is) ∙ ap (λ (n : ℕ). map f (take n (p ∷ places))) next
