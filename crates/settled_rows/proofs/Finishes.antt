-- The loads are polled, and then every memo is brought up to date.
use Rattle.std.proofs.Common.{◌≡◌, ◌⊎◌, ℕ, ◌+◌, ◌≤◌, Bool, true, false, List, length, Option, Some, None, slice_get, sym, ap, subst, ◌∙◌, arith}
use Rattle.values.specs.declared.code.Code.{Code}
use Rattle.values.specs.declared.plan.Kind.TheVariants as kind
use Rattle.values.specs.declared.plan.Plan.{Plan}
use Rattle.values.specs.declared.plan.PlanNode.{PlanNode}
use Rattle.values.specs.Packing.{unpacked}
use Rattle.values.specs.PlanValues.{is_derived, value_at, plan_value, HaveSameSources}
use Rattle.component_items.specs.declared.component.Component.{Component}
use Rattle.outside.specs.Asks.{Ask}
use Rattle.outside.specs.declared.traits.Arrival.{Arrival}
use Rattle.sources.specs.declared.opening.Opened as rows
use Rattle.sources.specs.Rows.{value_in}
use Rattle.plain_evaluation.specs.Place.{Place}
use Rattle.plain_evaluation.specs.Written.{state_of, written}
use Rattle.plain_evaluation.proofs.Fitting.{rows_of_held}
use Rattle.plan_meaning.specs.Layout.{places_of, plan_of}
use Rattle.plan_meaning.specs.Values.{row_values}
use Rattle.plan_meaning.proofs.Owners.{lawful}
use Rattle.held_state.specs.State.{HeldState, IsOf, with_held}
use Rattle.load_meaning.specs.declared.late.Late.{Late}
use Rattle.load_table.specs.Loads.{loads_in}
use Rattle.load_meaning.specs.Polls.{key_of, AllPolled, AreInStep, all_promptly}
use Rattle.load_meaning.proofs.Steps.{arrived_or_not, arrivals, late_pending}
use Rattle.load_polls.specs.Loads.{LoadsState, HasMoved}
use Rattle.next_layout.proofs.Rows.{fellow}
use Rattle.phase_graph.specs.Graph.{GraphState}
use Rattle.settled_rows.specs.Finishing.{progress_at, IsReady, IsFinished}
use Rattle.settled_rows.proofs.Rest.{at_rest}

module _ {S : Type 0} (answers : S → Ask → Arrival → S → Type 0) (is_prompt : Bool) (component : Component) (places : List Place) (old new : HeldState) (graph polled later : GraphState) (loads polled_loads : LoadsState) (late : List (ℕ × Late)) (before after : S)
    (ready : IsReady component old places graph loads)
    (same_loads : polled_loads.loads ≡ loads.loads) (all : AllPolled answers component (progress_at old loads) (progress_at new polled_loads) late before after) (held : new ≡ with_held old new.held) (fits : IsOf component new)
    (in_step : AreInStep component (progress_at new polled_loads)) (named : places ≡ places_of (written component new.held)) (plan : polled.plan ≡ plan_of component (state_of new.held)) (moved : HasMoved graph polled 8192)
    (evaluated : HaveSameSources polled.plan.nodes (value_in polled.rows) (value_at (row_values component (state_of new.held)))) (prompt : is_prompt ≡ true → progress_at new polled_loads ≡ all_promptly component (progress_at old loads))
    (rest : later ≡ record polled { rows = later.rows; drawn = later.drawn }) (drawn : later.drawn ≤ polled.drawn + length polled.plan.nodes)
    (memos : (n : ℕ) (node : PlanNode) (row : rows.Opened) → slice_get polled.plan.nodes n ≡ Some node → slice_get later.rows n ≡ Some row → node.kind ≡ kind.Memo → unpacked row.code ≡ plan_value polled.plan.nodes (value_in polled.rows) n)
    (sources : (n : ℕ) (node : PlanNode) → slice_get polled.plan.nodes n ≡ Some node → is_derived node.kind ≡ false → slice_get later.rows n ≡ slice_get polled.rows n)
    (effects : (n : ℕ) (node : PlanNode) → slice_get polled.plan.nodes n ≡ Some node → node.kind ≡ kind.Effect → slice_get later.rows n ≡ slice_get polled.rows n) where
  same_plan : later.plan ≡ polled.plan
  same_plan = ap (λ (g : GraphState). g.plan) rest

  pub finishes : IsFinished answers is_prompt component places old new graph later loads polled_loads late before after
  finishes = record {
    state = held;
    fits = fits;
    named = named;
    rest = rest ∙ (λ i. record (moved.rest i) { rows = later.rows; drawn = later.drawn });
    plan = same_plan ∙ plan;
    drawn = (
        let few = moved.few in
        let most : length polled.plan.nodes ≤ 4096 = subst (λ (q : Plan). length q.nodes ≤ 4096) (sym plan) (lawful component (state_of new.held) ready.kept (rows_of_held component new.held fits.fits)).few_nodes in
        omega arith);
    values = at_rest component new.held ready.kept (rows_of_held component new.held fits.fits) polled later plan evaluated memos sources same_plan;
    effects = λ n node two at_node effect at_two. (
        let there : slice_get polled.plan.nodes n ≡ Some node = ap (λ (g : GraphState). slice_get g.plan.nodes n) moved.rest ∙ at_node in
        let at_polled : slice_get polled.rows n ≡ Some two = sym (effects n node there effect) ∙ at_two in
        let one = fellow graph.rows polled.rows (sym moved.long) n two at_polled in
        (one.0, one.1, moved.effects n node one.0 two at_node effect one.1 at_polled));
    loads_are = same_loads;
    polled = all;
    prompt = prompt;
    in_step = in_step;
    keys = λ place load at live. (
        let loading = fellow polled_loads.loadings (loads_in component) in_step.paired place load at in
        let step = in_step.each place load loading.0 at loading.1 live in
        subst (λ (o : Option Code). (o ≡ None) ⊎ (o ≡ Some (key_of component new.held load))) (sym step.arrived) (arrived_or_not answers component old (progress_at old loads) (progress_at new polled_loads) late before after ready.kept ready.fits all ready.in_step place load loading.0 at loading.1 live));
    arrived = arrivals answers component old (progress_at old loads) (progress_at new polled_loads) late before after ready.kept ready.fits all;
    waits = late_pending answers component old (progress_at old loads) (progress_at new polled_loads) late before after ready.kept ready.fits all;
  }
