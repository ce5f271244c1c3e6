-- One owner is disposed.
use Rattle.std.proofs.Common.{◌≡◌, ◌⊎◌, inl, inr, ⊎_elim, ℕ, ◌+◌, ◌-◌, ◌≤◌, ◌<◌, Bool, true, false, Option, Some, List, [], ◌∷◌, ◌++◌, slice_get, set, length, length-set, refl, sym, ap, subst, ◌∙◌, arith}
use Rattle.values.specs.declared.plan.Fact.TheVariants as fact
use Rattle.values.specs.declared.plan.Noted.{Noted}
use Rattle.values.specs.declared.plan.Plan.{Plan}
use Rattle.values.specs.declared.plan.PlanNode.{PlanNode}
use Rattle.values.specs.Plan.{IsLawful}
use Rattle.values.specs.Reserved.{room_of}
use Rattle.values.specs.Packing.{unpacked}
use Rattle.store_fields.specs.declared.edit.Edit.{Edit}
use Rattle.sources.specs.declared.opening.Opened.{Opened}
use Rattle.sources.specs.Rows.{IsGood}
use Rattle.still_readers.specs.declared.readers.Readers.{Readers}
use Rattle.still_readers.proofs.Lists.{which, length_more}
use Rattle.still_rows.specs.declared.clock.Clock.{Clock}
use Rattle.still_rows.specs.Clock.{IsClock, IsNoted}
use Rattle.still_rows.specs.Works.{IsStill, IsWorkOf}
use Rattle.run_meaning.specs.Words.{In}
use Rattle.run_meaning.specs.Entries.{disposed_in}
use Rattle.run_meaning.specs.Told.{IsCurrent}
use Rattle.run_history.specs.Going.{Start, opened_at, note, Numbered, IsDead, edits_by, Goes}
use Rattle.run_history.proofs.Lists.{in_append, in_right}
use Rattle.run_history.proofs.Disposals.{disposed_append}
use Rattle.run_history.proofs.Steps.{one_goes}
use Rattle.carried_rows.specs.Named.{AreNamed}
use Rattle.phase_graph.specs.declared.table.Table.{Table}
use Rattle.phase_graph.specs.Table.{true_count, open_seen, most_drawn, IsFullAt, IsTable, IsTurnedNow}
use Rattle.phase_graph.specs.Way.{ShowsAs, IsOnWay}
use Rattle.phase_graph.proofs.Blocks.{numbered_append, edits_more}
use Rattle.phase_graph.proofs.Quiet.{IsQuiet, quiet_shown, quiet_current}
use Rattle.phase_graph.proofs.Starts.{at_clock, with_plan, dead_more}
use Rattle.phase_graph.proofs.Tables.{true_less, full_later, still_open}

-- the rows hold under a clock that is later
pub later_still : (nodes : List PlanNode) (rows : List Opened) (readers : Readers) (c c' : Clock) → IsStill nodes rows readers c → IsClock c' → c'.base ≡ c.base → c.drawn ≤ c'.drawn → IsStill nodes rows readers c'
later_still nodes rows readers c c' still clock base more = record {
  lawful = still.lawful;
  good = still.good;
  dated = record {
    held = (λ i row at. let h = still.dated.held i row at in omega arith);
    recorded = (λ i row at k x e. let h = still.dated.recorded i row at k x e in omega arith);
  };
  roomy = still.roomy;
  of_plan = still.of_plan;
  enrolled = still.enrolled;
  ticks = clock;
}

disposal_quiet : (owner : ℕ) → IsQuiet (fact.Disposed owner)
disposal_quiet owner = record { writes = (λ n. refl); changes = (λ n. refl); runs = (λ n. refl); numbers = (λ n k. refl) }

-- what a table is after one owner is disposed, from its parts
pub turned_table : (t t' : Table) (owner : ℕ) → IsTable t → t'.plan ≡ t.plan → t'.rows ≡ t.rows → t'.readers ≡ t.readers → t'.work ≡ t.work → t'.full ≡ t.full → slice_get t.live.items owner ≡ Some true → t'.live.items ≡ set t.live.items owner false → IsNoted t.clock t'.clock (fact.Disposed owner) → IsClock t'.clock → t.clock.in_phase ≡ true → IsTable t'
turned_table t t' owner table plan rows readers work full was is noted clock open' =
    let less : true_count t'.live.items + 1 ≡ true_count t.live.items = ap (λ (q : List Bool). true_count q + 1) is ∙ true_less t.live.items owner was in
    let drawn = noted.drawn in
    let long = ap length noted.entries ∙ length_more t.clock.entries.list (note (t.clock.drawn + 1) (fact.Disposed owner)) in
    let base = noted.base in
    record {
      lawful = subst IsLawful (sym plan) table.lawful;
      still = (λ b. subst (λ (q : Plan). IsStill q.nodes t'.rows.items t'.readers t'.clock) (sym plan)
          (subst (λ v. IsStill t.plan.nodes v.items t'.readers t'.clock) (sym rows)
          (subst (λ (q : Readers). IsStill t.plan.nodes t.rows.items q t'.clock) (sym readers)
          (later_still t.plan.nodes t.rows.items t.readers t.clock t'.clock (table.still (omega arith)) clock base (omega arith)))));
      early = (λ p. let e = table.early open' in omega arith);
      ticks = (let e = table.ticks in omega arith);
      good = subst (λ (q : Plan). IsGood q.nodes t'.rows.items) (sym plan) (subst (λ v. IsGood t.plan.nodes v.items) (sym rows) table.good);
      named = subst (λ (q : Plan). AreNamed q.nodes t'.rows.items) (sym plan) (subst (λ v. AreNamed t.plan.nodes v.items) (sym rows) table.named);
      fits = subst (λ (q : Plan). IsWorkOf q.nodes t'.work) (sym plan) (subst (IsWorkOf t.plan.nodes) (sym work) table.fits);
      owners = ap length is ∙ length-set t.live.items owner false ∙ table.owners ∙ ap (λ (q : Plan). length q.owners) (sym plan);
      is_full = subst (λ (f : Option ℕ). IsFullAt f t'.clock.drawn) (sym full) (full_later t.full t.clock.drawn t'.clock.drawn (omega arith) table.is_full);
      few = subst (λ (f : Option ℕ). t'.clock.drawn + true_count t'.live.items ≤ most_drawn f) (sym full) (let f = table.few in omega arith);
      spare = (λ p. let f = table.spare open' in omega arith);
    }

module _ (s : Start) (t t' : Table) (owner : ℕ) (edits : List (List Edit)) (room : ℕ) (within : owner < length t.plan.owners) (turned : IsTurnedNow t t' owner) (way : IsOnWay (with_plan s t.plan) (at_clock t.clock) (open_seen t edits room)) where
  abbrev block : List Noted
  block = note (t.clock.drawn + 1) (fact.Disposed owner) ∷ []

  pub turn_goes : Goes (with_plan s t.plan) (at_clock t.clock) block (at_clock t'.clock)
  turn_goes = subst (Goes (with_plan s t.plan) (at_clock t.clock) block) (λ i. record { drawn = sym turned.noted.drawn i; entries = sym turned.noted.entries i })
      (one_goes (with_plan s t.plan) (at_clock t.clock) (fact.Disposed owner) (inr refl) within tt tt)

  on_parts : IsOnWay (with_plan s t.plan) (at_clock t'.clock) (open_seen (record t { live = t'.live; clock = t'.clock }) edits room)
  on_parts = record {
    plan = refl;
    is_open = turned.noted.in_phase ∙ way.is_open;
    drawn = refl;
    entries = refl;
    numbered_so = subst (λ (l : List Noted). Numbered 0 l t'.clock.drawn) (sym turned.noted.entries) (numbered_append 0 t.clock.drawn t'.clock.drawn t.clock.entries.list block way.numbered_so turn_goes.numbered);
    shown = (λ n node row at w. subst (λ (l : List Noted). ShowsAs node.kind (with_plan s t.plan) l t'.clock.base n row) (sym turned.noted.entries) (subst (λ (b : ℕ). ShowsAs node.kind (with_plan s t.plan) (t.clock.entries.list ++ block) b n row) (sym turned.noted.base) (quiet_shown (with_plan s t.plan) t.rows.items t.clock t.live.items edits room (fact.Disposed owner) (disposal_quiet owner) way n node row at w)));
    current = (λ n node row at w k. subst (λ (l : List Noted). IsCurrent (opened_at (with_plan s t.plan)) l n (unpacked row.code) (row.version - t'.clock.base)) (sym turned.noted.entries) (subst (λ (b : ℕ). IsCurrent (opened_at (with_plan s t.plan)) (t.clock.entries.list ++ block) n (unpacked row.code) (row.version - b)) (sym turned.noted.base) (quiet_current (with_plan s t.plan) t.rows.items t.clock t.live.items edits room (fact.Disposed owner) (disposal_quiet owner) way n node row at w k)));
    dead = (λ n l. subst (λ (q : List Noted). IsDead (with_plan s t.plan) q n) (sym turned.noted.entries) (now_dead n (which t.live.items owner true false n false turned.was (ap (λ (q : List Bool). slice_get q n) (sym turned.live) ∙ l))));
    alive = (λ n l d. still_alive n (which t.live.items owner true false n true turned.was (ap (λ (q : List Bool). slice_get q n) (sym turned.live) ∙ l)) (subst (λ (q : List Noted). IsDead (with_plan s t.plan) q n) turned.noted.entries d));
    noted_edits = (λ pass list l. way.noted_edits pass list l ∙ sym (ap (edits_by pass) turned.noted.entries ∙ edits_more pass t.clock.entries.list block refl));
  }
    where
      now_dead : (n : ℕ) → ((n ≡ owner) × (false ≡ false)) ⊎ ((n ≡ owner → ⊥) × (slice_get t.live.items n ≡ Some false)) → IsDead (with_plan s t.plan) (t.clock.entries.list ++ block) n
      now_dead n (inl p) = inr (subst (In n) (sym (disposed_append t.clock.entries.list block)) (in_right (disposed_in t.clock.entries.list) (owner ∷ []) n (inl (sym p.0))))
      now_dead n (inr p) = dead_more (with_plan s t.plan) t.clock.entries.list block n (way.dead n p.1)

      still_alive : (n : ℕ) → ((n ≡ owner) × (true ≡ false)) ⊎ ((n ≡ owner → ⊥) × (slice_get t.live.items n ≡ Some true)) → IsDead (with_plan s t.plan) (t.clock.entries.list ++ block) n → ⊥
      still_alive n (inl p) d = let never = p.1 in cc
      still_alive n (inr p) (inl d) = way.alive n p.1 (inl d)
      still_alive n (inr p) (inr d) = ⊎_elim
          (λ (a : In n (disposed_in t.clock.entries.list)). way.alive n p.1 (inr a))
          (λ a. ⊎_elim (λ (e : owner ≡ n). p.0 (sym e)) (λ z. absurd z) a)
          (in_append (disposed_in t.clock.entries.list) (owner ∷ []) n (subst (In n) (disposed_append t.clock.entries.list block) d))

  pub turn_on : IsOnWay (with_plan s t.plan) (at_clock t'.clock) (open_seen t' edits room)
  turn_on = subst (λ (q : Table). IsOnWay (with_plan s t.plan) (at_clock t'.clock) (open_seen q edits room)) (sym turned.rest) on_parts

-- an owner that is live has room to be noted
pub room_for : (t : Table) (owner : ℕ) → IsTable t → t.clock.in_phase ≡ true → slice_get t.live.items owner ≡ Some true → length t.clock.entries.list < room_of t.clock.entries
room_for t owner table open' live =
    let less = true_less t.live.items owner live in
    let s = table.spare open' in
    let r = (still_open t table open').ticks.room open' in
    omega arith
