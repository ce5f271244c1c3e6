-- Calls that are stopped.
use Rattle.std.proofs.Common.{◌≡◌, ⊎_elim, ℕ, ◌+◌, ◌≤◌, ◌<◌, true, false, Some, List, [], refl, sym, ap, subst, arith}
use Rattle.values.specs.declared.plan.Noted.{Noted}
use Rattle.values.specs.declared.plan.Stop.TheVariants as stop
use Rattle.store_fields.specs.declared.edit.Edit.{Edit}
use Rattle.run_history.specs.Going.{Start, Going, IsLiveRow, Goes}
use Rattle.run_history.specs.Calls.{IsFull, RowStops}
use Rattle.run_history.proofs.Steps.{nothing_goes, draws_more}
use Rattle.phase_graph.specs.declared.table.Table.{Table}
use Rattle.phase_graph.specs.Table.{open_seen, HasOwner, IsFilled}
use Rattle.phase_graph.specs.Way.{IsOnWay}
use Rattle.phase_graph.specs.Graph.{GraphState}
use Rattle.phase_graph.proofs.Blocks.{numbered_higher}
use Rattle.phase_graph.proofs.Starts.{at_clock}

-- the row's owner is disposed
pub stops_dead : (s : Start) (g : Going) (x : GraphState) (most row owner : ℕ) → IsOnWay s g x → HasOwner s.plan.nodes x.live row owner false → RowStops s g [] g most row (stop.Disposed owner)
stops_dead s g x most row owner way has = (owner, (has.node, has.at, has.is_owner), (refl, way.dead owner has.is_live, (refl, refl)))

pub lives : (s : Start) (g : Going) (x : GraphState) (row owner : ℕ) → IsOnWay s g x → HasOwner s.plan.nodes x.live row owner true → IsLiveRow s g.entries row
lives s g x row owner way has = (owner, (has.node, has.at, has.is_owner), way.alive owner has.is_live)

-- the row's owner is live, and there is no number left
pub stops_full : (s : Start) (g : Going) (x : GraphState) (block : List Noted) (h : Going) (most row owner number : ℕ) → IsOnWay s g x → HasOwner s.plan.nodes x.live row owner true → IsFull g block h most number → RowStops s g block h most row (stop.Full number)
stops_full s g x block h most row owner number way has full = (owner, (has.node, has.at, has.is_owner), (way.alive owner has.is_live, full))

-- the number that is kept was drawn before
pub was_full : (g : Going) (most number : ℕ) → 65536 < number → number ≤ g.drawn → IsFull g [] g most number
was_full g most number above within = record { changes = refl; draws = omega arith; above = above; drawn = within }

-- ---- a number that comes to nothing

module _ (s : Start) (old new : Table) (number : ℕ) (edits : List (List Edit)) (room : ℕ) (filled : IsFilled old new number) where
  entries : new.clock.entries.list ≡ old.clock.entries.list
  entries = ap (λ (t : Table). t.clock.entries.list) filled.same

  pub fills : Goes s (at_clock old.clock) [] (at_clock new.clock)
  fills = ⊎_elim
      (λ (same : new.clock.drawn ≡ old.clock.drawn). subst (Goes s (at_clock old.clock) []) (λ i. record { drawn = sym same i; entries = sym entries i }) (nothing_goes s (at_clock old.clock)))
      (λ (more : new.clock.drawn ≡ old.clock.drawn + 1). subst (Goes s (at_clock old.clock) []) (λ i. record { drawn = sym more i; entries = sym entries i }) (draws_more s (at_clock old.clock) filled.past)) filled.drawn

  on_drawn : IsOnWay s (at_clock old.clock) (open_seen old edits room) → IsOnWay s (at_clock (record old.clock { drawn = new.clock.drawn })) (open_seen (record old { clock = record old.clock { drawn = new.clock.drawn }; full = Some number }) edits room)
  on_drawn way = record {
    plan = way.plan;
    is_open = way.is_open;
    drawn = refl;
    entries = refl;
    numbered_so = numbered_higher 0 old.clock.entries.list old.clock.drawn new.clock.drawn way.numbered_so (⊎_elim (λ (same : new.clock.drawn ≡ old.clock.drawn). let l : old.clock.drawn ≤ new.clock.drawn = omega arith in l) (λ (more : new.clock.drawn ≡ old.clock.drawn + 1). let l : old.clock.drawn ≤ new.clock.drawn = omega arith in l) filled.drawn) (λ q. filled.past);
    shown = way.shown;
    current = way.current;
    dead = way.dead;
    alive = way.alive;
    noted_edits = way.noted_edits;
  }

  pub on_filled : IsOnWay s (at_clock old.clock) (open_seen old edits room) → IsOnWay s (at_clock new.clock) (open_seen new edits room)
  on_filled way = subst (λ (t : Table). IsOnWay s (at_clock t.clock) (open_seen t edits room)) (sym filled.same) (on_drawn way)
