-- The settling of a phase that leaves the rows that there are.
use Rattle.std.proofs.Common.{◌≡◌, ℕ, ◌<◌, ◌≤◌, ◌^◌, Bool, false, true, List, [], ◌∷◌, ◌++◌, length, slice_index_or, refl, sym, ap, subst, ◌∙◌, arith}
use Rattle.values.specs.declared.plan.Plan.{Plan}
use Rattle.store_fields.specs.declared.edit.Verdict.{Verdict}
use Rattle.sources.specs.Rows.{value_in}
use Rattle.async_derived.specs.declared.loading.Loading.{Loading}
use Rattle.plain_evaluation.specs.Held.{Held, is_live, arrived_held}
use Rattle.plain_evaluation.specs.Written.{state_of}
use Rattle.plan_meaning.specs.Told.{owner_of_id}
use Rattle.held_state.specs.State.{HeldState, IsOf, with_held}
use Rattle.held_rows.specs.Shown.{held_shown}
use Rattle.load_table.specs.Loads.{loads_in}
use Rattle.load_meaning.specs.Polls.{AreInStep}
use Rattle.load_polls.specs.Loads.{LoadsState}
use Rattle.run_items.specs.Journal.{JournalPhase}
use Rattle.run_meaning.proofs.Areas.{owners_long}
use Rattle.run_meaning.specs.Phase.{Phase}
use Rattle.next_layout.specs.Next.{IsLaidOut, LoadsStay}
use Rattle.next_layout.specs.Sources.{SourcesAreSaid}
use Rattle.next_layout.proofs.Shown.{same_arrived}
use Rattle.phase_graph.specs.Graph.{GraphState, ticks_of}
use Rattle.settled_rows.specs.Finishing.{IsReady}
use Rattle.still_graph.specs.Finishing.{IsMidway}
use Rattle.still_graph.specs.Settling.{all_keep_rows}
use Rattle.still_graph.specs.Still.{StillState, HasEnded}
use Rattle.still_graph.specs.Stands.{IsStill}
use Rattle.still_graph.specs.declared.still.Stage.TheVariants.{Made, Settled, Ended}
use Rattle.still_graph.proofs.After.{closed, live_still, keep_es, entries_are, written_is, loads_shown, ran_before}
use Rattle.still_graph.proofs.InStep.{stays_in_step, held_alone}
use Rattle.still_graph.proofs.Notes.{folded_writes, nothing_told}

module _ (x : StillState) (room : ℕ) (still : IsStill x room) (is : x.stage ≡ Ended) (paired : length x.graph.rows ≡ length x.graph.plan.nodes) (owned : length x.graph.live ≡ length x.graph.plan.owners)
    (state : HeldState) (held_is : state ≡ with_held x.state (held_shown x.places (value_in x.graph.rows) x.state.held)) (laid : IsLaidOut x.component state x.places x.graph)
    (said : SourcesAreSaid x.component (state_of state.held) x.graph.rows) (loads_stay : LoadsStay x.component (state_of x.state.held) (state_of state.held) x.graph x.graph)
    (keep : (earlier : List JournalPhase) (phase : JournalPhase) → x.journal ≡ earlier ++ phase ∷ [] → all_keep_rows phase.entries ≡ true)
    (graph : GraphState) (rebased : graph ≡ record x.graph { base = ticks_of x.graph; drawn = 0 }) where
  shown : state.held ≡ held_shown x.places (value_in x.graph.rows) x.state.held
  shown = ap (λ (s : HeldState). s.held) held_is

  same_live : state.held.live ≡ x.state.held.live
  same_live = ap (λ (h : Held). h.live) shown

  in_step : AreInStep x.component (record { held = state.held; loadings = x.loadings })
  in_step = stays_in_step x.component x.state.held state.held x.loadings
      (λ owner live. ap (λ (flags : List Bool). slice_index_or flags owner false) (sym same_live) ∙ live)
      (λ id live. ap (λ (h : Held). arrived_held h id) shown ∙ same_arrived x.places (value_in x.graph.rows) x.state.held id)
      still.in_step

  pub ready_in_place : (loads : LoadsState) → loads.loads ≡ loads_in x.component → loads.loadings ≡ x.loadings → ticks_of x.graph < 2 ^ 62 → IsReady x.component state x.places graph loads
  ready_in_place loads loads_are same ticks = subst (λ (g : GraphState). IsReady x.component state x.places g loads) (sym rebased) (record {
    kept = still.kept;
    fits = laid.fits;
    named = laid.named;
    plan = laid.plan;
    closed = closed x room still is;
    live = live_still x room still is keep same_length ∙ sym same_live;
    base = ticks;
    drawn = omega arith;
    shows = record {
      given_so = said;
      loaded_so = λ row w pairs now at says. (
          let one = loads_stay row w pairs now at says in
          sym one.value ∙ loads_shown x room still is paired one.row one.line pairs now one.at_line (one.says ∙ says));
    };
    loads_are = loads_are;
    in_step = subst (λ (ls : List Loading). AreInStep x.component (record { held = state.held; loadings = ls })) (sym same) in_step;
  })
    where
      same_length : length x.graph.live ≡ length x.state.held.live
      same_length = owned ∙ ap (λ (q : Plan). length q.owners) still.plan ∙ sym (owners_long x.component still.kept) ∙ sym (still.fits.holds.live_long)

  pub midway_in_place : (verdicts : List (List Verdict)) → verdicts ≡ [] → IsMidway x state x.places graph verdicts
  midway_in_place verdicts no_verdicts = subst (λ (g : GraphState). IsMidway x state x.places g verdicts) (sym rebased) (record {
    middle = record {
      made = λ e. (let f : Ended ≡ Made = sym is ∙ e in cc);
      settled = λ e. (let f : Ended ≡ Settled = sym is ∙ e in cc);
      ended = λ past p end. folded_writes x.component p state.held (keep_so past p end) (shown ∙ written_is x room still is paired past p end);
      fits = subst (IsOf x.component) (sym (held_alone x.state state (held_shown x.places (value_in x.graph.rows) x.state.held) held_is)) laid.fits;
      in_step = in_step;
    };
    base = refl;
    first = λ e. (let f : Ended ≡ Made = sym is ∙ e in cc);
    after_phase = λ past p end. (ran_before x room still is paired past p end, nothing_told p verdicts no_verdicts (keep_so past p end));
    again = λ e. (let f : Ended ≡ Settled = sym is ∙ e in cc);
    stay = λ e. (let f : Ended ≡ Settled = sym is ∙ e in cc);
  })
    where
      keep_so : (past : List Phase) (p : Phase) → HasEnded past p x → all_keep_rows p.entries ≡ true
      keep_so past p end = ap all_keep_rows (entries_are x room still is paired past p end) ∙ keep_es x room still is keep
