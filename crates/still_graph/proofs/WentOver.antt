-- The settling of a phase after which rows may have come or gone.
use Rattle.std.proofs.Common.{◌≡◌, ℕ, ◌<◌, ◌^◌, List, [], ◌∷◌, ◌++◌, length, Some, sym, ap, subst, ◌∙◌, arith}
use Rattle.values.specs.declared.plan.Noted.{Noted}
use Rattle.values.specs.Packing.{unpacked}
use Rattle.async_derived.specs.declared.loading.Loading.{Loading}
use Rattle.store_fields.specs.declared.edit.Verdict.{Verdict}
use Rattle.sources.specs.Rows.{value_in}
use Rattle.plain_evaluation.specs.Place.{Place}
use Rattle.held_state.specs.State.{HeldState, IsOf, with_held}
use Rattle.held_rows.specs.Shown.{held_shown}
use Rattle.load_table.specs.Loads.{loads_in}
use Rattle.load_meaning.specs.Polls.{AreInStep}
use Rattle.load_polls.specs.Loads.{LoadsState}
use Rattle.run_items.specs.Journal.{JournalPhase}
use Rattle.run_meaning.specs.Edits.{held_edited, held_written, edits_of}
use Rattle.run_meaning.specs.Entries.{disposed_in}
use Rattle.run_meaning.specs.Merge.{last_run}
use Rattle.run_meaning.specs.Phase.{Phase}
use Rattle.run_meaning.specs.Run.{held_disposed}
use Rattle.phase_graph.specs.Graph.{GraphState, ticks_of}
use Rattle.phase_edits.specs.Posts.{posted_edits, verdicts_by}
use Rattle.phase_edits.specs.Told.{AreTold}
use Rattle.phase_edits.proofs.Numbers.{are_told}
use Rattle.phase_edits.proofs.Posted.{same_edits}
use Rattle.next_layout.specs.Next.{NextState, IsFolded, IsNext, IsLaidOut, HasGoneOver}
use Rattle.settled_rows.specs.Finishing.{IsReady}
use Rattle.still_graph.specs.Finishing.{midway, IsMidway}
use Rattle.still_graph.specs.Settling.{held_folded}
use Rattle.still_graph.specs.Still.{StillState, HasRun, HasEnded}
use Rattle.still_graph.specs.Stands.{IsStill}
use Rattle.still_graph.specs.declared.still.Stage.TheVariants.{Made, Settled, Ended}
use Rattle.still_graph.proofs.After.{es, last_of, entries_are, written_is, loads_shown, ran_before}
use Rattle.still_graph.proofs.InStep.{stays_in_step, held_alone}

-- the graph is laid out
pub laid_out : (x : StillState) (room : ℕ) → IsStill x room → IsLaidOut x.component x.state x.places x.graph
laid_out x room still = record { kept = still.kept; fits = still.fits; named = still.places; plan = still.plan }

module _ (x : StillState) (room : ℕ) (still : IsStill x room) (is : x.stage ≡ Ended) (paired : length x.graph.rows ≡ length x.graph.plan.nodes)
    (next : NextState) (folds : (earlier : List JournalPhase) (phase : JournalPhase) → x.journal ≡ earlier ++ phase ∷ [] → IsFolded x.component x.state x.places x.graph phase.entries next.state next.verdicts)
    (is_next : IsNext x.component x.state x.places x.graph next)
    (state : HeldState) (state_is : state ≡ next.state) (places : List Place) (graph : GraphState) (over : HasGoneOver x.component x.state state x.places places x.graph graph)
    (verdicts : List (List Verdict)) (verdicts_are : verdicts ≡ next.verdicts) where
  folded : IsFolded x.component x.state x.places x.graph (es x room still is) state verdicts
  folded =
      subst (λ (s : HeldState). IsFolded x.component x.state x.places x.graph (es x room still is) s verdicts) (sym state_is)
      (subst (λ (vs : List (List Verdict)). IsFolded x.component x.state x.places x.graph (es x room still is) next.state vs) (sym verdicts_are)
      (subst (λ (noted : List Noted). IsFolded x.component x.state x.places x.graph noted next.state next.verdicts) (last_of x room still is).3 (folds (last_of x room still is).0 (last_of x room still is).1 (last_of x room still is).2)))

  in_step : AreInStep x.component (record { held = state.held; loadings = x.loadings })
  in_step = subst (λ (s : HeldState). AreInStep x.component (record { held = s.held; loadings = x.loadings })) (sym state_is) (stays_in_step x.component x.state.held next.state.held x.loadings is_next.lived is_next.arrived still.in_step)

  pub ready_over : (loads : LoadsState) → loads.loads ≡ loads_in x.component → loads.loadings ≡ x.loadings → ticks_of x.graph < 2 ^ 62 → IsReady x.component state places graph loads
  ready_over loads loads_are same ticks = record {
    kept = still.kept;
    fits = over.laid.fits;
    named = over.laid.named;
    plan = over.laid.plan;
    closed = over.closed;
    live = over.live;
    base = (let e = over.base in omega arith);
    drawn = over.drawn;
    shows = record {
      given_so = over.sources;
      loaded_so = λ row w pairs now at says. (
          let one = over.loads row w pairs now at says in
          sym one.value ∙ loads_shown x room still is paired one.row one.line pairs now one.at_line (one.says ∙ says));
    };
    loads_are = loads_are;
    in_step = subst (λ (ls : List Loading). AreInStep x.component (record { held = state.held; loadings = ls })) (sym same) in_step;
  }

  module _ (past : List Phase) (p : Phase) (end : HasEnded past p x) where
    has_run : HasRun (past ++ p ∷ []) (midway x state places graph verdicts)
    has_run n node row place at_node at_row at_place effect did =
        let gone = over.effects n node row place at_node at_row at_place effect did in
        ran_before x room still is paired past p end gone.row gone.node gone.before place gone.at_node gone.at_row gone.at_place gone.effect gone.ran
        ∙ ap (λ (code : ℕ). Some (unpacked code)) (sym gone.code)

    held_is : state.held ≡ held_folded x.component p
    held_is =
        ap (λ (s : HeldState). s.held) folded.held
        ∙ ap (λ (noted : List Noted). held_disposed x.component (disposed_in noted) (held_edited (posted_edits x.graph.edits noted) (held_shown x.places (value_in x.graph.rows) x.state.held))) (sym (entries_are x room still is paired past p end))
        ∙ (λ i. held_disposed x.component (disposed_in p.entries) (held_edited (sym (same_edits p.lanes x.graph.edits end.posts p.entries) i) (written_is x room still is paired past p end i)))

    told : AreTold p verdicts
    told = are_told p x.graph.edits verdicts end.posts end.way.numbered_so (omega (arith, folded.passes)) (λ pass told at.
        folded.told pass told at
        ∙ ap (λ (noted : List Noted). verdicts_by x.graph.edits pass noted (held_shown x.places (value_in x.graph.rows) x.state.held)) (sym (entries_are x room still is paired past p end))
        ∙ ap (verdicts_by x.graph.edits pass p.entries) (written_is x room still is paired past p end))

  pub midway_over : IsMidway x state places graph verdicts
  midway_over = record {
    middle = record {
      made = λ e. (let f : Ended ≡ Made = sym is ∙ e in cc);
      settled = λ e. (let f : Ended ≡ Settled = sym is ∙ e in cc);
      ended = held_is;
      fits = subst (IsOf x.component) (sym (held_alone x.state state _ folded.held)) over.laid.fits;
      in_step = in_step;
    };
    base = over.base;
    first = λ e. (let f : Ended ≡ Made = sym is ∙ e in cc);
    after_phase = λ past p end. (has_run past p end, told past p end);
    again = λ e. (let f : Ended ≡ Settled = sym is ∙ e in cc);
    stay = λ e. (let f : Ended ≡ Settled = sym is ∙ e in cc);
  }
