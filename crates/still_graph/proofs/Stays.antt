-- What stays where a phase opens, in its calls, and where it ends.
use Rattle.std.proofs.Common.{◌≡◌, ℕ, ◌<◌, List, [], ◌∷◌, ◌++◌, refl, sym, ap, subst, slice_get, ◌∙◌}
use Rattle.values.specs.declared.plan.Noted.{Noted}
use Rattle.run_items.specs.Journal.{PassCounts, JournalPhase}
use Rattle.run_meaning.specs.Phase.{Phase}
use Rattle.run_history.specs.Going.{Start, Going, just_opened}
use Rattle.run_history.specs.Calls.{Call, Calls}
use Rattle.phase_graph.specs.Graph.{GraphState}
use Rattle.phase_graph.specs.Way.{IsOnWay, OpensWith}
use Rattle.still_graph.specs.Still.{StillState, opened_in, start_in, ended, IsSettledAfter, IsOpenAt}
use Rattle.still_graph.specs.Stands.{IsAtRest, IsInPhase, StandsAt, IsStill}
use Rattle.still_graph.specs.declared.still.Stage.{Stage}
use Rattle.still_graph.specs.declared.still.Stage.TheVariants.{Settled, Open, Ended}
use Rattle.still_graph.proofs.Steps.{CallsOn, goes_on, opens_after, opens_alone, runs_first}

pub stands : (x : StillState) (room : ℕ) (stage : Stage) → IsStill x room → x.stage ≡ stage → StandsAt stage x room
stands x room stage still is = subst (λ s. StandsAt s x room) is still.at_stage

-- another graph of the same plan, and another stage
pub moved : (x : StillState) (room more : ℕ) (graph : GraphState) (journal : List JournalPhase) (stage : Stage) → IsStill x room → graph.plan ≡ x.graph.plan
    → StandsAt stage (record x { graph = graph; journal = journal; stage = stage }) more → IsStill (record x { graph = graph; journal = journal; stage = stage }) more
moved x room more graph journal stage still plan at = record {
  kept = still.kept;
  fits = still.fits;
  places = still.places;
  plan = plan ∙ still.plan;
  in_step = still.in_step;
  keys = still.keys;
  at_stage = at;
}

-- ---- a phase opens

-- where it could not, all is as it was
pub stays_settled : (x : StillState) (room more : ℕ) (graph : GraphState) (journal : List JournalPhase) → IsStill x room → x.stage ≡ Settled → graph ≡ x.graph → journal ≡ x.journal → IsStill (record x { graph = graph; journal = journal }) more
stays_settled x room more graph journal still is same as_was =
    moved x room more graph journal x.stage still (ap (λ (g : GraphState). g.plan) same)
    (subst (λ s. StandsAt s (record x { graph = graph; journal = journal }) more) (sym is) (record {
      closed = ap (λ (g : GraphState). g.is_open) same ∙ rest.closed;
      live = ap (λ (g : GraphState). g.live) same ∙ rest.live;
      values = λ n node row at_node at_row other. rest.values n node row (ap (λ (g : GraphState). slice_get g.plan.nodes n) (sym same) ∙ at_node) (ap (λ (g : GraphState). slice_get g.rows n) (sym same) ∙ at_row) other;
    }))
  where
    rest : IsAtRest x
    rest = stands x room Settled still is

pub opens : (x : StillState) (room more : ℕ) (graph : GraphState) (journal : List JournalPhase) → IsStill x room → x.stage ≡ Settled → graph.plan ≡ x.graph.plan
    → ((s : Start) → OpensWith s x.graph → IsOnWay s just_opened graph) → 0 < more → IsStill (record x { graph = graph; journal = journal; stage = Open }) more
opens x room more graph journal still is plan way some =
    moved x room more graph journal Open still plan (record { runs = runs_first (opened_in x) _ graph (way _ (opens_alone x room still (stands x room Settled still is))); room_left = some })

pub opens_behind : (x y : StillState) (room : ℕ) (graph : GraphState) (journal : List JournalPhase) → IsStill x room → x.stage ≡ Settled → x ≡ y → journal ≡ x.journal
    → ((s : Start) → OpensWith s x.graph → IsOnWay s just_opened graph) → (past : List Phase) → IsSettledAfter past y → IsOpenAt past just_opened (record x { graph = graph; journal = journal; stage = Open })
opens_behind x y room graph journal still is same as_was way past settled =
    let here : IsSettledAfter past x = subst (IsSettledAfter past) (sym same) settled in record {
      stage = refl;
      journal = as_was ∙ here.journal;
      way = way (start_in past x) (opens_after past x room still (stands x room Settled still is) here);
    }

-- ---- calls

pub call_stays : (x : StillState) (room : ℕ) (graph : GraphState) (pass : ℕ) (call : Call) → IsStill x room → x.stage ≡ Open → graph.plan ≡ x.graph.plan → CallsOn (opened_in x) x.graph graph pass call → IsStill (record x { graph = graph }) room
call_stays x room graph pass call still is plan calls =
    moved x room room graph x.journal x.stage still plan (subst (λ s. StandsAt s (record x { graph = graph }) room) (sym is) (record { runs = goes_on (opened_in x) pass call x.graph graph calls here.runs; room_left = here.room_left }))
  where
    here : IsInPhase x room
    here = stands x room Open still is

pub call_made : (x y : StillState) (graph : GraphState) (pass : ℕ) (call : Call) → x ≡ y → CallsOn (opened_in x) x.graph graph pass call
    → (past : List Phase) (g : Going) → IsOpenAt past g y → (block : List Noted) × (h : Going) × Calls (start_in past y) g block h pass call × IsOpenAt past h (record x { graph = graph })
call_made x y graph pass call same calls past g at =
    let here : IsOpenAt past g x = subst (IsOpenAt past g) (sym same) at in
    let one = calls (start_in past x).ran g here.way in
    (one.0, one.1, subst (λ (z : StillState). Calls (start_in past z) g one.0 one.1 pass call) same one.2, record { stage = here.stage; journal = here.journal; way = one.3 })

-- ---- a phase ends

pub ends : (x : StillState) (room more : ℕ) (graph : GraphState) (journal : List JournalPhase) (base : ℕ) (entries : List Noted) (counts : List PassCounts) → IsStill x room → x.stage ≡ Open → graph ≡ ended x.graph
    → journal ≡ x.journal ++ record { base = base; entries = entries; counts = counts } ∷ [] → entries ≡ x.graph.entries → IsStill (record x { graph = graph; journal = journal; stage = Ended }) more
ends x room more graph journal base entries counts still is gone longer noted =
    let here = stands x room Open still is in
    moved x room more graph journal Ended still (ap (λ (g : GraphState). g.plan) gone) (record {
      before = x.graph;
      runs = here.runs;
      graph_is = gone;
      earlier = x.journal;
      phase = record { base = base; entries = entries; counts = counts };
      journal_is = longer;
      entries = noted ∙ here.runs.way.entries;
    })
