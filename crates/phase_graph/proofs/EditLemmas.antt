-- An edit leaves a phase on its way.
use Rattle.std.proofs.Common.{◌≡◌, ◌⊎◌, inl, inr, ⊎_elim, ℕ, zero, suc, ◌+◌, ◌-◌, ◌≤◌, ◌<◌, cond, Bool, true, false, Ok, Err, Option, Some, List, [], ◌∷◌, ◌++◌, slice_get, set, length, refl, sym, ap, subst, ◌∙◌, arith}
use Rattle.std.specs.Prelude.{nat_eq, unwrap_or}
use Rattle.values.specs.declared.plan.Fact.TheVariants as fact
use Rattle.values.specs.declared.plan.Noted.{Noted}
use Rattle.values.specs.declared.plan.Stop.TheVariants as stop
use Rattle.values.specs.Packing.{unpacked}
use Rattle.script_items.specs.Script.{numbered}
use Rattle.store_fields.specs.declared.edit.Edit.{Edit}
use Rattle.still_readers.proofs.Lists.{which, length_more}
use Rattle.still_rows.specs.Clock.{IsClock, IsTicked}
use Rattle.run_meaning.specs.Told.{IsCurrent}
use Rattle.run_history.specs.Going.{Start, Going, opened_at, note, Numbered, IsDead, edits_by, Goes}
use Rattle.run_history.specs.Calls.{Call, edit, Calls}
use Rattle.run_history.proofs.Cut.{is_yes, is_no}
use Rattle.run_history.proofs.Steps.{nothing_goes, one_goes}
use Rattle.phase_graph.specs.declared.table.Table.{Table}
use Rattle.phase_graph.specs.Graph.{edits_with}
use Rattle.phase_graph.specs.Table.{open_seen, IsTable, IsFilled, MakesEdit}
use Rattle.phase_graph.specs.Way.{ShowsAs, IsOnWay}
use Rattle.phase_graph.proofs.Blocks.{numbered_append, edits_append}
use Rattle.phase_graph.proofs.Quiet.{IsQuiet, quiet_shown, quiet_current}
use Rattle.phase_graph.proofs.Starts.{at_clock, with_plan, from_here, dead_more, dead_same}
use Rattle.phase_graph.proofs.Stops.{was_full, fills, on_filled}
use Rattle.phase_graph.proofs.Tables.{still_open, owners_few, most_above, full_later}
use Rattle.phase_graph.proofs.Turns.{later_still}

edit_quiet : (pass index : ℕ) → IsQuiet (fact.Edit pass index)
edit_quiet pass index = record { writes = (λ n. refl); changes = (λ n. refl); runs = (λ n. refl); numbers = (λ n k. refl) }

one_edit : (p pass index k : ℕ) → edits_by p (note k (fact.Edit pass index) ∷ []) ≡ cond (nat_eq p pass) 1 0
one_edit p pass index k = omega arith

-- what the lists of edits have where one was accepted
with_one : (lists : List (List Edit)) (pass p : ℕ) (asked : Edit) (n : ℕ) (old list : List Edit) (block : ℕ) → numbered lists pass ≡ Some old → numbered (edits_with lists pass asked (Ok n)) p ≡ Some list → block ≡ cond (nat_eq p pass) 1 0 → (l : List Edit) × (numbered lists p ≡ Some l) × (length list ≡ length l + block)
with_one lists zero p asked n old list block here at b = cc
with_one lists (suc pass) zero asked n old list block here at b = cc
with_one lists (suc pass) (suc p) asked n old list block here at b = by (which lists pass old (unwrap_or (slice_get lists pass) [] ++ asked ∷ []) p list here (place ∙ at))
  where
    place : slice_get (set lists pass (unwrap_or (slice_get lists pass) [] ++ asked ∷ [])) p ≡ slice_get (set lists (suc pass - 1) (unwrap_or (slice_get lists pass) [] ++ asked ∷ [])) p
    place = let e : pass ≡ suc pass - 1 = omega arith in ap (λ (k : ℕ). slice_get (set lists k (unwrap_or (slice_get lists pass) [] ++ asked ∷ [])) p) e

    by : ((p ≡ pass) × (list ≡ unwrap_or (slice_get lists pass) [] ++ asked ∷ [])) ⊎ ((p ≡ pass → ⊥) × (slice_get lists p ≡ Some list)) → (l : List Edit) × (slice_get lists p ≡ Some l) × (length list ≡ length l + block)
    by (inl q) =
        let is : list ≡ old ++ asked ∷ [] = q.1 ∙ ap (λ (o : Option (List Edit)). unwrap_or o [] ++ asked ∷ []) here in
        let l = ap length is ∙ length_more old asked in
        let one = b ∙ ap (λ (c : Bool). cond c 1 0) (is_yes (suc p) (suc pass) (ap suc q.0)) in
        (old, ap (slice_get lists) q.0 ∙ here, (omega arith))
    by (inr q) =
        let none = b ∙ ap (λ (c : Bool). cond c 1 0) (is_no (suc p) (suc pass) (λ e. q.0 (let f = e in omega arith))) in
        (list, q.1, (omega arith))

-- what a table is after a number was drawn and noted for an edit
pub ticked_table : (t t' : Table) (pass index : ℕ) → IsTable t → t.clock.in_phase ≡ true → t' ≡ record t { clock = t'.clock } → IsTicked t.clock t'.clock (fact.Edit pass index) → IsClock t'.clock → IsTable t'
ticked_table t t' pass index table open' same tick clock = subst IsTable (sym same) parts
  where
    parts : IsTable (record t { clock = t'.clock })
    parts =
        let base = tick.base in let drawn = tick.drawn in let low = tick.few in
        record {
          lawful = table.lawful;
          still = (λ b. later_still t.plan.nodes t.rows.items t.readers t.clock t'.clock (still_open t table open') clock base (omega arith));
          early = (λ p. let e = table.early open' in omega arith);
          ticks = (let e = table.ticks in omega arith);
          good = table.good;
          named = table.named;
          fits = table.fits;
          owners = table.owners;
          is_full = full_later t.full t.clock.drawn t'.clock.drawn (omega arith) table.is_full;
          few = (let a = owners_few t table in let m = most_above t.full in omega arith);
          spare = (λ p. let a = owners_few t table in let n = clock.noted p low in omega arith);
        }

-- what a call of an edit gives
abbrev GivesEdit : Table → List (List Edit) → ℕ → ℕ → Call → Start → Going → Type 0
GivesEdit t lists room pass call s g = (block : List Noted) × (h : Going) × Calls s g block h pass call × IsOnWay s h (open_seen t lists room)

module _ (t t' : Table) (pass owner index : ℕ) (asked : Edit) where
  pub edit_dead : slice_get t.live.items owner ≡ Some false → MakesEdit t t pass owner index asked (Err (stop.Disposed owner))
  edit_dead gone = (λ s g lists room way list at long. ([], g, (nothing_goes s g, ((refl, way.dead owner gone, (refl, refl)), refl)), way))

  pub edit_still_full : (number : ℕ) → slice_get t.live.items owner ≡ Some true → 65536 < number → number ≤ t.clock.drawn → MakesEdit t t pass owner index asked (Err (stop.Full number))
  edit_still_full number live above within = (λ s g lists room way list at long. ([], g, (nothing_goes s g, ((way.alive owner live, was_full g 1 number above (let d = way.drawn in omega arith)), refl)), way))

  pub edit_full : (number : ℕ) → slice_get t.live.items owner ≡ Some true → IsFilled t t' number → MakesEdit t t' pass owner index asked (Err (stop.Full number))
  edit_full number live filled = (λ s g lists room way list at long. from_here s g (open_seen t lists room) (GivesEdit t' lists room pass (edit owner asked (Err (stop.Full number)))) way (λ on.
      let start = with_plan s t.plan in
      let most : t'.clock.drawn ≤ t.clock.drawn + 1 = drawn in
      ([], at_clock t'.clock, (fills start t t' number lists room filled, ((on.alive owner live, record { changes = refl; draws = most; above = filled.above; drawn = filled.within }), refl)), on_filled start t t' number lists room filled on)))
    where
      drawn : t'.clock.drawn ≤ t.clock.drawn + 1
      drawn = ⊎_elim (λ (e : t'.clock.drawn ≡ t.clock.drawn). let l : t'.clock.drawn ≤ t.clock.drawn + 1 = omega arith in l) (λ (e : t'.clock.drawn ≡ t.clock.drawn + 1). let l : t'.clock.drawn ≤ t.clock.drawn + 1 = omega arith in l) filled.drawn

  module _ (number : ℕ) (live : slice_get t.live.items owner ≡ Some true) (same : t' ≡ record t { clock = t'.clock }) (tick : IsTicked t.clock t'.clock (fact.Edit pass index)) (is : number ≡ t'.clock.drawn) where
    module _ (s : Start) (lists : List (List Edit)) (room : ℕ) (list : List Edit) (at : numbered lists pass ≡ Some list) (long : length list ≡ index) (way : IsOnWay (with_plan s t.plan) (at_clock t.clock) (open_seen t lists room)) where
      abbrev block : List Noted
      block = note (t.clock.drawn + 1) (fact.Edit pass index) ∷ []

      entries : t'.clock.entries.list ≡ t.clock.entries.list ++ block
      entries = tick.noted way.is_open

      goes : Goes (with_plan s t.plan) (at_clock t.clock) block (at_clock t'.clock)
      goes = subst (Goes (with_plan s t.plan) (at_clock t.clock) block) (λ i. record { drawn = sym tick.drawn i; entries = sym entries i })
          (one_goes (with_plan s t.plan) (at_clock t.clock) (fact.Edit pass index) (inl (let a = tick.drawn in let b = tick.few in omega arith)) tt tt tt)

      noted : (p : ℕ) (l : List Edit) → numbered (edits_with lists pass asked (Ok number)) p ≡ Some l → length l ≡ edits_by p t'.clock.entries.list
      noted p l w =
          let r = with_one lists pass p asked number list l (edits_by p block) at w (one_edit p pass index (t.clock.drawn + 1)) in
          let a = way.noted_edits p r.0 r.1 in
          let b = edits_append p t.clock.entries.list block in
          let e = ap (edits_by p) entries in
          let c = r.2 in
          c ∙ ap (λ (k : ℕ). k + edits_by p block) a ∙ sym b ∙ sym e

      on_parts : IsOnWay (with_plan s t.plan) (at_clock t'.clock) (open_seen (record t { clock = t'.clock }) (edits_with lists pass asked (Ok number)) room)
      on_parts = record {
        plan = refl;
        is_open = tick.in_phase ∙ way.is_open;
        drawn = refl;
        entries = refl;
        numbered_so = subst (λ (q : List Noted). Numbered 0 q t'.clock.drawn) (sym entries) (numbered_append 0 t.clock.drawn t'.clock.drawn t.clock.entries.list block way.numbered_so goes.numbered);
        shown = (λ n node row a w. subst (λ (q : List Noted). ShowsAs node.kind (with_plan s t.plan) q t'.clock.base n row) (sym entries) (subst (λ (b : ℕ). ShowsAs node.kind (with_plan s t.plan) (t.clock.entries.list ++ block) b n row) (sym tick.base) (quiet_shown (with_plan s t.plan) t.rows.items t.clock t.live.items lists room (fact.Edit pass index) (edit_quiet pass index) way n node row a w)));
        current = (λ n node row a w k. subst (λ (q : List Noted). IsCurrent (opened_at (with_plan s t.plan)) q n (unpacked row.code) (row.version - t'.clock.base)) (sym entries) (subst (λ (b : ℕ). IsCurrent (opened_at (with_plan s t.plan)) (t.clock.entries.list ++ block) n (unpacked row.code) (row.version - b)) (sym tick.base) (quiet_current (with_plan s t.plan) t.rows.items t.clock t.live.items lists room (fact.Edit pass index) (edit_quiet pass index) way n node row a w k)));
        dead = (λ n l. subst (λ (q : List Noted). IsDead (with_plan s t.plan) q n) (sym entries) (dead_more (with_plan s t.plan) t.clock.entries.list block n (way.dead n l)));
        alive = (λ n l d. way.alive n l (dead_same (with_plan s t.plan) t.clock.entries.list block n refl (subst (λ (q : List Noted). IsDead (with_plan s t.plan) q n) entries d)));
        noted_edits = noted;
      }

      on : IsOnWay (with_plan s t.plan) (at_clock t'.clock) (open_seen t' (edits_with lists pass asked (Ok number)) room)
      on = subst (λ (q : Table). IsOnWay (with_plan s t.plan) (at_clock t'.clock) (open_seen q (edits_with lists pass asked (Ok number)) room)) (sym same) on_parts

    pub edit_ok : MakesEdit t t' pass owner index asked (Ok number)
    edit_ok s g lists room way list at long = from_here s g (open_seen t lists room) (GivesEdit t' (edits_with lists pass asked (Ok number)) room pass (edit owner asked (Ok number))) way (λ start_on.
        let counted : index ≡ edits_by pass t.clock.entries.list = sym long ∙ start_on.noted_edits pass list at in
        let one = is ∙ tick.drawn in (
          note (t.clock.drawn + 1) (fact.Edit pass index) ∷ [],
          at_clock t'.clock,
          (goes s lists room list at long start_on, (start_on.alive owner live, record { number = one; drawn = sym is; block_is = (λ i. note (sym one i) (fact.Edit pass (counted i)) ∷ []) })),
          on s lists room list at long start_on,
        ))
