-- A settling with no phase that has ended.
use Rattle.std.proofs.Common.{◌≡◌, ◌≢◌, ℕ, ◌<◌, ◌≤◌, ◌^◌, false, List, length, refl, sym, ap, subst, ◌∙◌, arith}
use Rattle.values.specs.PlanValues.{is_derived}
use Rattle.async_derived.specs.declared.loading.Loading.{Loading}
use Rattle.plain_evaluation.specs.Written.{state_of}
use Rattle.load_table.specs.Loads.{loads_in}
use Rattle.load_meaning.specs.Polls.{AreInStep}
use Rattle.load_polls.specs.Loads.{LoadsState}
use Rattle.load_polls.specs.Shown.{SourcesShow}
use Rattle.phase_graph.specs.Graph.{GraphState, ticks_of}
use Rattle.settled_rows.specs.Finishing.{IsReady}
use Rattle.still_graph.specs.Finishing.{IsMidway}
use Rattle.still_graph.specs.Stands.{IsMade, IsAtRest, IsStill}
use Rattle.still_graph.specs.Still.{StillState}
use Rattle.still_graph.specs.declared.still.Stage.{Stage}
use Rattle.still_graph.specs.declared.still.Stage.TheVariants.{Made, Settled, Open, Ended}
use Rattle.still_graph.proofs.After.{fits_of}
use Rattle.settled_rows.proofs.Rest.{rest_shows}
use Rattle.still_graph.proofs.Stays.{stands}

record IsBetween (x : StillState) : Type 0 where
  closed : x.graph.is_open ≡ false
  live : x.graph.live ≡ x.state.held.live
  shows : SourcesShow x.component (state_of x.state.held) x.graph.rows

module _ (x : StillState) (room : ℕ) (still : IsStill x room) (paired : length x.graph.rows ≡ length x.graph.plan.nodes) (not_open : x.stage ≢ Open) (not_ended : x.stage ≢ Ended) where
  between : (stage : Stage) → x.stage ≡ stage → IsBetween x
  between Made is = let made : IsMade x = stands x room Made still is in record { closed = made.closed; live = made.live; shows = made.shows }
  between Settled is =
      let rest : IsAtRest x = stands x room Settled still is in
      record { closed = rest.closed; live = rest.live; shows = rest_shows x.component x.state.held still.kept (fits_of x room still) still.fits.owners.areas still.keys x.graph still.plan paired rest.values }
  between Open is = absurd (not_open is)
  between Ended is = absurd (not_ended is)

  pub closed_again : x.graph.is_open ≡ false
  closed_again = (between x.stage refl).closed

  module _ (graph : GraphState) (rebased : graph ≡ record x.graph { base = ticks_of x.graph; drawn = 0 }) where
    pub ready_again : (loads : LoadsState) → loads.loads ≡ loads_in x.component → loads.loadings ≡ x.loadings → ticks_of x.graph < 2 ^ 62 → IsReady x.component x.state x.places graph loads
    ready_again loads loads_are same ticks = subst (λ (g : GraphState). IsReady x.component x.state x.places g loads) (sym rebased) (record {
      kept = still.kept;
      fits = still.fits;
      named = still.places;
      plan = still.plan;
      closed = (between x.stage refl).closed;
      live = (between x.stage refl).live;
      base = ticks;
      drawn = omega arith;
      shows = (between x.stage refl).shows;
      loads_are = loads_are;
      in_step = subst (λ (ls : List Loading). AreInStep x.component (record { held = x.state.held; loadings = ls })) (sym same) still.in_step;
    })

    pub midway_again : IsMidway x x.state x.places graph x.verdicts
    midway_again = subst (λ (g : GraphState). IsMidway x x.state x.places g x.verdicts) (sym rebased) (record {
      middle = record {
        made = λ is. refl;
        settled = λ is. refl;
        ended = λ past p end. absurd (not_ended end.stage);
        fits = still.fits;
        in_step = still.in_step;
      };
      base = refl;
      first = λ is. (
          let made : IsMade x = stands x room Made still is in
          (made.journal, λ n node row place at_node at_row at_place effect did. absurd (did (made.fresh n node row at_node at_row (ap is_derived effect)))));
      after_phase = λ past p end. absurd (not_ended end.stage);
      again = λ is past settled. settled.ran;
      stay = λ is. refl;
    })
