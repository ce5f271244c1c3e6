-- What a graph begins with.
use Rattle.std.proofs.Common.{◌≡◌, ℕ, List, [], sym, subst}
use Rattle.async_derived.specs.declared.loading.Loading.{Loading}
use Rattle.component_items.specs.declared.component.Component.{Component}
use Rattle.component_items.specs.Kept.{IsKept}
use Rattle.store_fields.specs.declared.edit.Verdict.{Verdict}
use Rattle.plain_evaluation.specs.Held.{first_held}
use Rattle.plain_evaluation.specs.Place.{Place}
use Rattle.held_state.specs.State.{HeldState, first_state}
use Rattle.held_state.proofs.OfComponent.{first_is_of}
use Rattle.load_meaning.specs.Polls.{AreInStep, first_loadings}
use Rattle.run_items.specs.Journal.{JournalPhase}
use Rattle.phase_graph.specs.Graph.{GraphState}
use Rattle.settled_rows.specs.Rows.{IsFirst}
use Rattle.still_graph.specs.Stands.{still_of, IsStill}
use Rattle.still_graph.specs.declared.still.Stage.TheVariants.{Made}
use Rattle.settled_rows.proofs.Begins.{in_step_first, keys_first}

pub begins : (component : Component) → IsKept component → (state : HeldState) (places : List Place) (graph : GraphState) (journal : List JournalPhase) (verdicts : List (List Verdict)) (room : ℕ) (loadings : List Loading) → state ≡ first_state component → IsFirst component places graph → journal ≡ [] → loadings ≡ first_loadings component
    → IsStill (still_of component state places graph journal Made verdicts loadings) room
begins component kept state places graph journal verdicts room loadings first is none unasked = subst (λ (s : HeldState). IsStill (still_of component s places graph journal Made verdicts loadings) room) (sym first) (record {
  kept = kept;
  fits = first_is_of component kept;
  places = is.named;
  plan = is.plan;
  in_step = subst (λ (ls : List Loading). AreInStep component (record { held = first_held component; loadings = ls })) (sym unasked) (in_step_first component kept);
  keys = keys_first component kept;
  at_stage = record {
    journal = none;
    closed = is.closed;
    live = is.live;
    shows = is.shows;
    fresh = is.fresh;
  };
})
