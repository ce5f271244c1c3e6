-- Each way ends in one: the loads are polled, and all is brought up to date.
use Rattle.std.proofs.Common.{◌≡◌, ℕ, ◌+◌, ◌≤◌, Bool, true, List, [], ◌∷◌, ◌++◌, Some, slice_get, refl, sym, ap, subst, ◌∙◌, arith}
use Rattle.values.specs.declared.plan.Plan.{Plan}
use Rattle.values.specs.Packing.{unpacked}
use Rattle.sources.specs.declared.opening.Opened as rows
use Rattle.store_fields.specs.declared.edit.Verdict.{Verdict}
use Rattle.outside.specs.Asks.{Ask}
use Rattle.outside.specs.declared.traits.Arrival.{Arrival}
use Rattle.async_derived.specs.declared.loading.Loading.{Loading}
use Rattle.plain_evaluation.specs.Held.{Held}
use Rattle.plain_evaluation.specs.Place.{Place}
use Rattle.held_state.specs.State.{HeldState}
use Rattle.load_meaning.specs.declared.late.Late.{Late}
use Rattle.load_meaning.specs.Polls.{AllPolled, all_promptly}
use Rattle.load_polls.specs.Loads.{LoadsState}
use Rattle.run_meaning.specs.Phase.{Phase}
use Rattle.phase_graph.specs.Graph.{GraphState, ticks_of}
use Rattle.settled_rows.specs.Finishing.{IsReady, IsFinished}
use Rattle.still_graph.specs.Finishing.{midway, IsMidway, Settles}
use Rattle.still_graph.specs.Stands.{IsStill}
use Rattle.still_graph.specs.Still.{StillState, progress_of, HasRun}
use Rattle.still_graph.specs.declared.still.Stage.TheVariants.{Settled}

module _ {S : Type 0} (answers : S → Ask → Arrival → S → Type 0) (is_prompt : Bool) (x : StillState) (room : ℕ) (still : IsStill x room) (state : HeldState) (places : List Place) (before : GraphState) (verdicts : List (List Verdict)) (loads : LoadsState)
    (ready : IsReady x.component state places before loads) (same : loads.loadings ≡ x.loadings)
    (new : HeldState) (graph : GraphState) (polled : LoadsState) (late : List (ℕ × Late)) (first then : S) (finished : IsFinished answers is_prompt x.component places state new before graph loads polled late first then) where
  abbrev end : StillState
  end = record x { state = new; places = places; graph = graph; stage = Settled; verdicts = verdicts; loadings = polled.loadings }

  pub finished_still : IsStill end room
  finished_still = record {
    kept = ready.kept;
    fits = finished.fits;
    places = finished.named;
    plan = finished.plan;
    in_step = finished.in_step;
    keys = finished.keys;
    at_stage = record {
      closed = ap (λ (g : GraphState). g.is_open) finished.rest ∙ ready.closed;
      live = ap (λ (g : GraphState). g.live) finished.rest ∙ ready.live ∙ sym (ap (λ (h : Held). h.live) finished.arrived);
      values = finished.values;
    };
  }

  -- effects have not run since
  run_on : (past : List Phase) → HasRun past (midway x state places before verdicts) → HasRun past end
  run_on past ran n node row place at_node at_row at_place effect did =
      let there : slice_get before.plan.nodes n ≡ Some node = ap (λ (g : GraphState). slice_get g.plan.nodes n) (sym finished.rest) ∙ at_node in
      let one = finished.effects n node row there effect at_row in
      ran n node one.0 place there one.1 at_place effect (λ e. did (ap (λ (r : rows.Opened). r.body.cause) one.2 ∙ e))
      ∙ ap (λ (r : rows.Opened). Some (unpacked r.code)) (sym one.2)

  pub finished_settles : IsMidway x state places before verdicts → (y : StillState) → x ≡ y → Settles answers is_prompt y end late first then
  finished_settles way y is = subst (λ (z : StillState). Settles answers is_prompt z end late first then) is (record {
    component = refl;
    stage = refl;
    settling = record {
      middle = state.held;
      is_middle = way.middle;
      polled = subst (λ (ls : List Loading). AllPolled answers x.component (record { held = state.held; loadings = ls }) (progress_of end) late first then) same finished.polled;
      prompt = λ is. subst (λ (ls : List Loading). progress_of end ≡ all_promptly x.component (record { held = state.held; loadings = ls })) same (finished.prompt is);
    };
    arrived = finished.arrived;
    waits = finished.waits;
    first = λ is. (let one = way.first is in record { stage = refl; journal = one.0; ran = run_on [] one.1 });
    after_phase = λ past p ended. (let one = way.after_phase past p ended in (record { stage = refl; journal = ended.journal; ran = run_on (past ++ p ∷ []) one.0 }, one.1));
    again = λ is past settled. record { stage = refl; journal = settled.journal; ran = run_on past (way.again is past settled) };
    stay = way.stay;
    ticks_raised = (
        let base : graph.base ≡ before.base = ap (λ (g : GraphState). g.base) finished.rest in
        let was = way.base in
        let few = ready.drawn in
        let drawn = finished.drawn in
        omega arith);
  })
