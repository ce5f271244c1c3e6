-- The owners of an area are disposed, the last one first.
use Rattle.std.proofs.Common.{◌≡◌, ◌⊎◌, inl, inr, ⊎_elim, ℕ, zero, suc, ◌+◌, ◌-◌, ◌≤◌, ◌<◌, cond, Bool, true, false, Some, List, [], ◌∷◌, ◌++◌, slice_get, length, refl, sym, ap, subst, ◌∙◌, arith}
use Rattle.std.specs.Prelude.{filter, nat_lt}
use Rattle.std.specs.List.{range_with_len}
use Rattle.std.proofs.lemmas.Bool.Decides.{nat_tests}
use Rattle.values.specs.declared.plan.Disposal.{Disposal}
use Rattle.values.specs.declared.plan.Fact.TheVariants as fact
use Rattle.values.specs.declared.plan.Noted.{Noted}
use Rattle.values.specs.declared.plan.Plan.{Plan}
use Rattle.store_fields.specs.declared.edit.Edit.{Edit}
use Rattle.still_readers.proofs.Lists.{within_at, set_here, either, not_both, length_more}
use Rattle.run_meaning.specs.Words.{In}
use Rattle.run_meaning.specs.Opened.{is_inside, area_of}
use Rattle.run_meaning.proofs.Bounds.{in_range}
use Rattle.run_meaning.specs.Entries.{is_disposal, disposed_in}
use Rattle.run_history.specs.Going.{Start, Going, opened_at, note, all_are, IsDead, Goes}
use Rattle.run_history.specs.Calls.{dispose, FallsFrom}
use Rattle.run_history.proofs.Lists.{in_append}
use Rattle.run_history.proofs.Disposals.{disposed_append}
use Rattle.run_history.proofs.Steps.{nothing_goes, goes_on}
use Rattle.phase_graph.specs.declared.table.Table.{Table}
use Rattle.phase_graph.specs.Table.{open_seen, is_within, IsTable, IsKept, IsTurned, IsTurnedNow, MakesCall}
use Rattle.phase_graph.specs.Way.{IsOnWay}
use Rattle.phase_graph.proofs.Areas.{AreBelow, within_below}
use Rattle.phase_graph.proofs.Blocks.{all_append}
use Rattle.phase_graph.proofs.Lists.{filter_in, in_filter, range_in}
use Rattle.phase_graph.proofs.Starts.{at_clock, with_plan, dead_more}
use Rattle.phase_graph.proofs.Steps.{makes}
use Rattle.phase_graph.proofs.Turns.{turn_goes, turn_on}

-- how many owners there are
abbrev count_of : Start → ℕ
count_of s = length s.plan.owners

-- the owners of the area from a number on are disposed
pub record IsDisposing (s : Start) (g : Going) (block : List Noted) (h : Going) (area at : ℕ) (done : Disposal) : Type 0 where
  pub goes : Goes s g block h
  pub disposals : all_are is_disposal block ≡ true
  pub draws : h.drawn ≡ g.drawn + done.now
  pub long : length block ≡ done.now
  pub all : (m : ℕ) → at + m ≡ count_of s → done.now + done.before ≡ length (filter (is_inside (opened_at s) area) (range_with_len at m))
  pub falls : FallsFrom (count_of s) (disposed_in block)
  pub low : (n : ℕ) → In n (disposed_in block) → at ≤ n
  pub of_area : (n : ℕ) → In n (disposed_in block) → In n (area_of (opened_at s) area) × (IsDead s g.entries n → ⊥)
  pub dead : (n : ℕ) → In n (area_of (opened_at s) area) → at ≤ n → IsDead s h.entries n

-- what holds of a table while an area of it is disposed
pub record AreDisposed (t t' : Table) (area at : ℕ) (done : Disposal) : Type 0 where
  pub kept : IsKept t t'
  pub count : done.now + done.before + at ≤ length t.plan.owners
  pub within : at ≤ length t.plan.owners
  pub way : (s : Start) (edits : List (List Edit)) (room : ℕ) → IsOnWay (with_plan s t.plan) (at_clock t.clock) (open_seen t edits room) → (block : List Noted) × IsDisposing (with_plan s t.plan) (at_clock t.clock) block (at_clock t'.clock) area at done × IsOnWay (with_plan s t.plan) (at_clock t'.clock) (open_seen t' edits room)

-- ---- lists

falls_more : (high n : ℕ) (ns : List ℕ) → n < high → FallsFrom high ns → ((m : ℕ) → In m ns → n < m) → FallsFrom high (ns ++ n ∷ [])
falls_more high n [] l f above = (l, tt)
falls_more high n (m ∷ ms) l f above = (f.0, falls_more m n ms (above m (inl refl)) f.1 (λ k i. above k (inr i)))

filter_yes : (test : ℕ → Bool) (n m : ℕ) → test n ≡ true → length (filter test (range_with_len n (suc m))) ≡ suc (length (filter test (range_with_len (n + 1) m)))
filter_yes test n m e = ap (λ (b : Bool). length (cond b (n ∷ filter test (range_with_len (n + 1) m)) (filter test (range_with_len (n + 1) m)))) e

filter_no : (test : ℕ → Bool) (n m : ℕ) → test n ≡ false → length (filter test (range_with_len n (suc m))) ≡ length (filter test (range_with_len (n + 1) m))
filter_no test n m e = ap (λ (b : Bool). length (cond b (n ∷ filter test (range_with_len (n + 1) m)) (filter test (range_with_len (n + 1) m)))) e

-- numbers that do not pass come first
filter_front : (test : ℕ → Bool) (j low m : ℕ) → ((n : ℕ) → low ≤ n → n < low + j → test n ≡ false) → length (filter test (range_with_len low (j + m))) ≡ length (filter test (range_with_len (low + j) m))
filter_front test zero low m none = λ i. length (filter test (range_with_len ((let e : low ≡ low + 0 = omega arith in e) i) ((let e : 0 + m ≡ m = omega arith in e) i)))
filter_front test (suc j) low m none =
    let first = filter_no test low (j + m) (none low (omega arith) (omega arith)) in
    let rest = filter_front test j (low + 1) m (λ n a b. none n (omega arith) (omega arith)) in
    let e : suc j + m ≡ suc (j + m) = omega arith in
    let f : low + 1 + j ≡ low + suc j = omega arith in
    ap (λ (k : ℕ). length (filter test (range_with_len low k))) e ∙ first ∙ rest ∙ ap (λ (k : ℕ). length (filter test (range_with_len k m))) f

-- ---- it begins, goes on, and ends

pub begins : (t : Table) (area : ℕ) → IsTable t → AreDisposed t t area (length t.plan.owners) (record { now = 0; before = 0 })
begins t area table = record {
  kept = record { table = table; plan = refl; base = refl; in_phase = refl };
  count = omega arith;
  within = omega arith;
  way = (λ s edits room way. (
    [],
    record {
      goes = nothing_goes (with_plan s t.plan) (at_clock t.clock);
      disposals = refl;
      draws = omega arith;
      long = refl;
      all = (λ m e. none m (omega arith));
      falls = tt;
      low = (λ n i. absurd i);
      of_area = (λ n i. absurd i);
      dead = (λ n i l. let r = in_filter (is_inside (opened_at (with_plan s t.plan)) area) (range_with_len 0 (length t.plan.owners)) n i in let u = in_range 0 (length t.plan.owners) n r.0 in absurd (omega arith));
    },
    way,
  ));
}
  where
    none : (m : ℕ) → m ≡ 0 → 0 ≡ length (filter (is_within t.plan.owners area) (range_with_len (length t.plan.owners) m))
    none zero e = refl
    none (suc m) e = absurd (omega arith)

pub kept_on : (t0 t t' : Table) → IsKept t0 t → IsKept t t' → IsKept t0 t'
kept_on t0 t t' a b = record { table = b.table; plan = b.plan ∙ a.plan; base = b.base ∙ a.base; in_phase = b.in_phase ∙ a.in_phase }

-- an owner that is not in the area
pub passes_by : (t0 t : Table) (area at : ℕ) (done : Disposal) → AreDisposed t0 t area (at + 1) done → is_within t0.plan.owners area at ≡ false → AreDisposed t0 t area at done
passes_by t0 t area at done is out = record {
  kept = is.kept;
  count = (let c = is.count in omega arith);
  within = (let c = is.within in omega arith);
  way = (λ s edits room way. let r = is.way s edits room way in let d = r.1 in (
    r.0,
    record {
      goes = d.goes;
      disposals = d.disposals;
      draws = d.draws;
      long = d.long;
      all = (λ m e. counts s m e d.all);
      falls = d.falls;
      low = (λ n i. let l = d.low n i in omega arith);
      of_area = d.of_area;
      dead = (λ n i l. either at n _ (λ e. absurd (not_both (is_within t0.plan.owners area n) (in_filter (is_within t0.plan.owners area) (range_with_len 0 (length t0.plan.owners)) n i).1 (ap (is_within t0.plan.owners area) (sym e) ∙ out))) (λ other. d.dead n i (omega arith)));
    },
    r.2,
  ));
}
  where
    counts : (s : Start) (m : ℕ) → at + m ≡ length t0.plan.owners → ((k : ℕ) → at + 1 + k ≡ length t0.plan.owners → done.now + done.before ≡ length (filter (is_within t0.plan.owners area) (range_with_len (at + 1) k))) → done.now + done.before ≡ length (filter (is_within t0.plan.owners area) (range_with_len at m))
    counts s zero e all = let w = is.within in absurd (omega arith)
    counts s (suc m) e all = all m (omega arith) ∙ sym (filter_no (is_within t0.plan.owners area) at m out)

module _ (t0 t t' : Table) (area at : ℕ) (done done' : Disposal) (is : AreDisposed t0 t area (at + 1) done) (inside : is_within t0.plan.owners area at ≡ true) (turned : IsTurned t t' at done done') where
  counts : done'.now + done'.before ≡ suc (done.now + done.before) → (m : ℕ) → at + m ≡ length t0.plan.owners → ((k : ℕ) → at + 1 + k ≡ length t0.plan.owners → done.now + done.before ≡ length (filter (is_within t0.plan.owners area) (range_with_len (at + 1) k))) → done'.now + done'.before ≡ length (filter (is_within t0.plan.owners area) (range_with_len at m))
  counts more zero e all = let w = is.within in absurd (omega arith)
  counts more (suc m) e all = more ∙ ap suc (all m (omega arith)) ∙ sym (filter_yes (is_within t0.plan.owners area) at m inside)

  in_area : (s : Start) → In at (area_of (opened_at (with_plan s t0.plan)) area)
  in_area s = filter_in (is_within t0.plan.owners area) (range_with_len 0 (length t0.plan.owners)) at (range_in 0 (length t0.plan.owners) at (omega arith) (let w = is.within in omega arith)) inside

  module _ (s : Start) (edits : List (List Edit)) (room : ℕ) (way : IsOnWay (with_plan s t0.plan) (at_clock t0.clock) (open_seen t0 edits room)) (block : List Noted) (d : IsDisposing (with_plan s t0.plan) (at_clock t0.clock) block (at_clock t.clock) area (at + 1) done) (on : IsOnWay (with_plan s t0.plan) (at_clock t.clock) (open_seen t edits room)) where
    -- it was disposed before
    was : slice_get t.live.items at ≡ Some false → t' ≡ t → done' ≡ record done { before = done.before + 1 } → (b : List Noted) × IsDisposing (with_plan s t0.plan) (at_clock t0.clock) b (at_clock t'.clock) area at done' × IsOnWay (with_plan s t0.plan) (at_clock t'.clock) (open_seen t' edits room)
    was gone same one = subst (λ (q : Table). (b : List Noted) × IsDisposing (with_plan s t0.plan) (at_clock t0.clock) b (at_clock q.clock) area at done' × IsOnWay (with_plan s t0.plan) (at_clock q.clock) (open_seen q edits room)) (sym same) (
      block,
      record {
        goes = d.goes;
        disposals = d.disposals;
        draws = (let x = d.draws in let n = ap (λ (q : Disposal). q.now) one in omega arith);
        long = (let x = d.long in let n = ap (λ (q : Disposal). q.now) one in omega arith);
        all = (λ m e. counts (let n = ap (λ (q : Disposal). q.now) one in let b = ap (λ (q : Disposal). q.before) one in omega arith) m e d.all);
        falls = d.falls;
        low = (λ n i. let l = d.low n i in omega arith);
        of_area = d.of_area;
        dead = (λ n i l. either at n _ (λ e. subst (IsDead (with_plan s t0.plan) t.clock.entries.list) e (on.dead at gone)) (λ other. d.dead n i (omega arith)));
      },
      on,
    )

    -- it is disposed now
    now : IsTurnedNow t t' at → done' ≡ record done { now = done.now + 1 } → (b : List Noted) × IsDisposing (with_plan s t0.plan) (at_clock t0.clock) b (at_clock t'.clock) area at done' × IsOnWay (with_plan s t0.plan) (at_clock t'.clock) (open_seen t' edits room)
    now turn one = (
      block ++ entry ∷ [],
      record {
        goes = goes_on (with_plan s t0.plan) (at_clock t0.clock) block (at_clock t.clock) (entry ∷ []) (at_clock t'.clock) d.goes here.0 refl;
        disposals = all_append is_disposal block (entry ∷ []) d.disposals refl;
        draws = (let x = d.draws in let y = turn.noted.drawn in let n = ap (λ (q : Disposal). q.now) one in omega arith);
        long = (let x = d.long in let y = length_more block entry in let n = ap (λ (q : Disposal). q.now) one in omega arith);
        all = (λ m e. counts (let n = ap (λ (q : Disposal). q.now) one in let b = ap (λ (q : Disposal). q.before) one in omega arith) m e d.all);
        falls = subst (FallsFrom (length t0.plan.owners)) (sym (disposed_append block (entry ∷ []))) (falls_more (length t0.plan.owners) at (disposed_in block) (let w = is.within in omega arith) d.falls (λ m i. let l = d.low m i in omega arith));
        low = (λ n i. ⊎_elim (λ (a : In n (disposed_in block)). let l = d.low n a in let r : at ≤ n = omega arith in r) (λ a. ⊎_elim (λ (e : at ≡ n). let r : at ≤ n = omega arith in r) (λ z. absurd z) a) (parts n i));
        of_area = (λ n i. ⊎_elim (λ (a : In n (disposed_in block)). d.of_area n a) (λ a. ⊎_elim (λ (e : at ≡ n). subst (λ (q : ℕ). In q (area_of (opened_at (with_plan s t0.plan)) area) × (IsDead (with_plan s t0.plan) t0.clock.entries.list q → ⊥)) e (in_area s, was_alive)) (λ z. absurd z) a) (parts n i));
        dead = (λ n i l. either at n _ (λ e. subst (IsDead (with_plan s t0.plan) t'.clock.entries.list) e (here.1.dead at gone)) (λ other. subst (λ (q : List Noted). IsDead (with_plan s t0.plan) q n) (sym turn.noted.entries) (dead_more (with_plan s t0.plan) t.clock.entries.list (entry ∷ []) n (d.dead n i (omega arith)))));
      },
      here.1,
    )
      where
        entry : Noted
        entry = note (t.clock.drawn + 1) (fact.Disposed at)

        here : Goes (with_plan s t0.plan) (at_clock t.clock) (note (t.clock.drawn + 1) (fact.Disposed at) ∷ []) (at_clock t'.clock) × IsOnWay (with_plan s t0.plan) (at_clock t'.clock) (open_seen t' edits room)
        here =
            let w = is.within in let e = ap (λ (q : Plan). length q.owners) is.kept.plan in
            let on' = subst (λ (q : Plan). IsOnWay (with_plan s q) (at_clock t.clock) (open_seen t edits room)) (sym is.kept.plan) on in
            subst (λ (q : Plan). Goes (with_plan s q) (at_clock t.clock) (note (t.clock.drawn + 1) (fact.Disposed at) ∷ []) (at_clock t'.clock) × IsOnWay (with_plan s q) (at_clock t'.clock) (open_seen t' edits room)) is.kept.plan
            (turn_goes s t t' at edits room (omega arith) turn on', turn_on s t t' at edits room (omega arith) turn on')

        parts : (n : ℕ) → In n (disposed_in (block ++ note (t.clock.drawn + 1) (fact.Disposed at) ∷ [])) → In n (disposed_in block) ⊎ In n (at ∷ [])
        parts n i = in_append (disposed_in block) (at ∷ []) n (subst (In n) (disposed_append block (note (t.clock.drawn + 1) (fact.Disposed at) ∷ [])) i)

        gone : slice_get t'.live.items at ≡ Some false
        gone = ap (λ (q : List Bool). slice_get q at) turn.live ∙ set_here t.live.items at true false turn.was

        was_alive : IsDead (with_plan s t0.plan) t0.clock.entries.list at → ⊥
        was_alive dead = on.alive at turn.was (subst (λ (q : List Noted). IsDead (with_plan s t0.plan) q at) (sym d.goes.entries) (dead_more (with_plan s t0.plan) t0.clock.entries.list block at dead))

  pub turns : AreDisposed t0 t' area at done'
  turns = record {
    kept = kept_on t0 t t' is.kept turned.kept;
    count = (let c = is.count in more);
    within = (let w = is.within in omega arith);
    way = (λ s edits room way. let r = is.way s edits room way in elim turned.what [
      | inl q ↦ was s edits room way r.0 r.1 r.2 q.0 q.1 q.2
      | inr q ↦ now s edits room way r.0 r.1 r.2 q.0 q.1
    ]);
  }
    where
      more : done'.now + done'.before + at ≤ length t0.plan.owners
      more = elim turned.what [
        | inl q ↦ (let c = is.count in let n = ap (λ (q : Disposal). q.now) q.2 in let b = ap (λ (q : Disposal). q.before) q.2 in omega arith)
        | inr q ↦ (let c = is.count in let n = ap (λ (q : Disposal). q.now) q.1 in let b = ap (λ (q : Disposal). q.before) q.1 in omega arith)
      ]

pub ends : (t t' : Table) (pass area : ℕ) (done : Disposal) → AreBelow t.plan.owners → area ≤ length t.plan.owners → AreDisposed t t' area area done → MakesCall t t' pass (dispose area done)
ends t t' pass area done below within is = makes t t' pass (dispose area done) (λ s edits room way.
    let r = is.way s edits room way in
    let d = r.1 in (
      r.0,
      at_clock t'.clock,
      (
        d.goes,
        record {
          disposals = d.disposals;
          draws = d.draws;
          now = d.long;
          all = d.all (length t.plan.owners - area) (omega arith) ∙ sym whole;
          falls = d.falls;
          of_area = d.of_area;
          dead = (λ n i. d.dead n i (from_on n i));
        },
      ),
      r.2,
    ))
  where
    out : (n : ℕ) → n < area → is_within t.plan.owners area n ≡ false
    out n l = let o = within_at t.plan.owners n (omega arith) in within_below t.plan.owners area n o.0 below l o.1

    whole : length (filter (is_within t.plan.owners area) (range_with_len 0 (length t.plan.owners))) ≡ length (filter (is_within t.plan.owners area) (range_with_len area (length t.plan.owners - area)))
    whole =
        let e : length t.plan.owners ≡ area + (length t.plan.owners - area) = omega arith in
        let f : 0 + area ≡ area = omega arith in
        ap (λ (k : ℕ). length (filter (is_within t.plan.owners area) (range_with_len 0 k))) e ∙ filter_front (is_within t.plan.owners area) area 0 (length t.plan.owners - area) (λ n a b. out n (omega arith)) ∙ ap (λ (k : ℕ). length (filter (is_within t.plan.owners area) (range_with_len k (length t.plan.owners - area)))) f

    from_on : (n : ℕ) → In n (filter (is_within t.plan.owners area) (range_with_len 0 (length t.plan.owners))) → area ≤ n
    from_on n i = by (nat_lt n area) refl
      where
        by : (b : Bool) → nat_lt n area ≡ b → area ≤ n
        by true e = absurd (not_both (is_within t.plan.owners area n) (in_filter (is_within t.plan.owners area) (range_with_len 0 (length t.plan.owners)) n i).1 (out n (grind (arith, nat_tests))))
        by false e = grind (arith, nat_tests)

-- one owner more, where it is in the area and where it is not
pub passes : (t0 t t' : Table) (area at : ℕ) (inside : Bool) (done done' : Disposal) → AreDisposed t0 t area (at + 1) done → is_within t0.plan.owners area at ≡ inside → (inside ≡ true → IsTurned t t' at done done') → (inside ≡ false → t' ≡ t) → (inside ≡ false → done' ≡ done) → AreDisposed t0 t' area at done'
passes t0 t t' area at true done done' is e turned same stays = turns t0 t t' area at done done' is e (turned refl)
passes t0 t t' area at false done done' is e turned same stays = subst (λ (q : Table). AreDisposed t0 q area at done') (sym (same refl)) (subst (λ (q : Disposal). AreDisposed t0 t area at q) (sym (stays refl)) (passes_by t0 t area at done is e))
