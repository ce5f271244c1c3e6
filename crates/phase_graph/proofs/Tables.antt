-- What holds of a table is kept.
use Rattle.std.proofs.Common.{◌≡◌, ◌⊎◌, inl, inr, ℕ, zero, suc, ◌+◌, ◌≤◌, ◌<◌, ◌^◌, Bool, true, false, Option, Some, None, List, [], ◌∷◌, slice_get, get_or, set, length, refl, sym, ap, subst, ◌∙◌, arith}
use Rattle.std.specs.Prelude.{nat_lt}
use Rattle.std.proofs.lemmas.Bool.Decides.{nat_tests}
use Rattle.std.proofs.lemmas.Option.{get_or_from_slice_get}
use Rattle.values.specs.declared.code.Code.{Code}
use Rattle.values.specs.declared.plan.Plan.{Plan}
use Rattle.values.specs.declared.plan.PlanNode.{PlanNode}
use Rattle.values.specs.Packing.{packed, unpacked}
use Rattle.values.specs.Plan.{IsLawful}
use Rattle.sources.specs.declared.opening.Opened.{Opened}
use Rattle.sources.specs.Rows.{IsGood}
use Rattle.still_readers.specs.declared.readers.Readers.{Readers}
use Rattle.still_readers.proofs.Lists.{within_at}
use Rattle.still_rows.specs.declared.calls.Work.{Work}
use Rattle.still_rows.specs.declared.clock.Clock.{Clock}
use Rattle.still_rows.specs.Clock.{now_of}
use Rattle.still_rows.specs.Since.{IsSince}
use Rattle.still_rows.specs.Works.{IsStill, IsStepped, IsWorkOf}
use Rattle.carried_rows.specs.Named.{AreNamed}
use Rattle.phase_graph.specs.declared.table.Table.{Table}
use Rattle.phase_graph.specs.Table.{true_count, IsFullAt, most_drawn, IsTable, HasOwner, IsStirred, IsWrittenIn, IsAsBefore, IsFilled, IsKept}
use Rattle.phase_graph.proofs.Naming.{stepped_named, written_named}

pub true_few : (bs : List Bool) → true_count bs ≤ length bs
unfolding true_count
true_few [] = omega arith
true_few (true ∷ bs) = let r = true_few bs in omega arith
true_few (false ∷ bs) = let r = true_few bs in omega arith

-- one less is true
pub true_less : (bs : List Bool) (i : ℕ) → slice_get bs i ≡ Some true → true_count (set bs i false) + 1 ≡ true_count bs
unfolding true_count
true_less [] i e = cc
true_less (b ∷ bs) zero e = let same : b ≡ true = cc in rw same (omega arith)
true_less (b ∷ bs) (suc i) e = let r = true_less bs i e in omega arith

pub most_above : (f : Option ℕ) → 66560 ≤ most_drawn f
most_above None = omega arith
most_above (Some n) = omega arith

pub full_later : (f : Option ℕ) (drawn drawn' : ℕ) → drawn ≤ drawn' → IsFullAt f drawn → IsFullAt f drawn'
full_later None drawn drawn' l h = tt
full_later (Some n) drawn drawn' l h = let b = h.1 in (h.0, (omega arith))

pub owners_few : (t : Table) → IsTable t → true_count t.live.items ≤ 1024
owners_few t is = let a = true_few t.live.items in let b = is.owners in let c = is.lawful.few_owners in omega arith

-- a call that draws nothing notes nothing
pub long_same : (rows rows' : List Opened) (c c' : Clock) → IsSince rows rows' c c' → c'.drawn ≡ c.drawn → length c'.entries.list ≡ length c.entries.list
long_same rows rows' c c' since same = by (nat_lt (length c.entries.list) (length c'.entries.list)) refl
  where
    by : (b : Bool) → nat_lt (length c.entries.list) (length c'.entries.list) ≡ b → length c'.entries.list ≡ length c.entries.list
    by true e =
        let x = within_at c'.entries.list (length c.entries.list) (grind (arith, nat_tests)) in
        let q = since.news (length c.entries.list) x.0 (omega arith) x.1 in
        elim (since.each q.row q.old q.new q.was q.is).value [
          | inl h ↦ absurd (q.other (ap unpacked h.0))
          | inr h ↦ (let a = h.from_on in let b = h.below in absurd (omega arith))
        ]
    by false e = let l = since.long in grind (arith, nat_tests)

-- a call that draws numbers draws none above the last of a phase
pub drawn_few : (rows rows' : List Opened) (c c' : Clock) → IsSince rows rows' c c' → (c'.drawn ≤ 65536) ⊎ (c'.drawn ≡ c.drawn)
drawn_few rows rows' c c' since = by (nat_lt c.drawn c'.drawn) refl
  where
    by : (b : Bool) → nat_lt c.drawn c'.drawn ≡ b → (c'.drawn ≤ 65536) ⊎ (c'.drawn ≡ c.drawn)
    by true e = inl (since.few (grind (arith, nat_tests)))
    by false e = let d = since.drawn in let same : c'.drawn ≡ c.drawn = grind (arith, nat_tests) in inr same

pub still_open : (t : Table) → IsTable t → t.clock.in_phase ≡ true → IsStill t.plan.nodes t.rows.items t.readers t.clock
still_open t table open' = table.still (table.early open')

-- the same of parts that are equal
pub still_parts : (t : Table) → IsTable t → t.clock.in_phase ≡ true → (nodes : List PlanNode) → nodes ≡ t.plan.nodes → (rows : List Opened) → rows ≡ t.rows.items → IsStill nodes rows t.readers t.clock
still_parts t table open' nodes n rows r = subst (λ (q : List PlanNode). IsStill q rows t.readers t.clock) (sym n) (subst (λ (q : List Opened). IsStill t.plan.nodes q t.readers t.clock) (sym r) (still_open t table open'))

pub step_parts : (nodes nodes' : List PlanNode) (rows0 rows1 rows0' rows1' : List Opened) (readers readers' : Readers) (c c' : Clock) → nodes ≡ nodes' → rows0 ≡ rows0' → rows1 ≡ rows1' → IsStepped nodes rows0 rows1 readers readers' c c' → IsStepped nodes' rows0' rows1' readers readers' c c'
step_parts nodes nodes' rows0 rows1 rows0' rows1' readers readers' c c' n a b step =
    subst (λ (q : List PlanNode). IsStepped q rows0' rows1' readers readers' c c') n
    (subst (λ (q : List Opened). IsStepped nodes q rows1' readers readers' c c') a
    (subst (λ (q : List Opened). IsStepped nodes rows0 q readers readers' c c') b step))

-- the owner of a row is there
pub has_owner : (t : Table) → IsTable t → (nodes : List PlanNode) → nodes ≡ t.plan.nodes → (row : ℕ) → row < length t.plan.nodes → (d : PlanNode) (b v : Bool) → b ≡ get_or t.live.items (get_or nodes row d).owner b → b ≡ v → HasOwner t.plan.nodes t.live.items row (get_or nodes row d).owner v
has_owner t table nodes same row l d b v is e =
    let n = within_at t.plan.nodes row l in
    let at : get_or nodes row d ≡ n.0 = ap (λ (q : List PlanNode). get_or q row d) same ∙ get_or_from_slice_get t.plan.nodes row n.0 d n.1 in
    let o = ap (λ (z : PlanNode). z.owner) at in
    let w = table.lawful.owned row n.0 n.1 in
    let a = table.owners in
    let x = within_at t.live.items (get_or nodes row d).owner (omega arith) in
    let g = get_or_from_slice_get t.live.items (get_or nodes row d).owner x.0 b x.1 in
    record { node = n.0; at = n.1; is_owner = sym o; is_live = x.1 ∙ ap (λ (z : Bool). Some z) (sym g ∙ sym is ∙ e) }

-- ---- a call on the rows that writes nothing

module _ (t t' : Table) (table : IsTable t) (st : IsStirred t t') where
  live_same : true_count t'.live.items ≡ true_count t.live.items
  live_same = ap (λ (q : List Bool). true_count q) (ap (λ v. v.items) st.live)

  few : (t'.clock.drawn ≤ 65536) ⊎ (t'.clock.drawn ≡ t.clock.drawn) → t'.clock.drawn + true_count t'.live.items ≤ most_drawn t'.full
  few (inl low) = let a = owners_few t table in let b = live_same in let m = most_above t'.full in omega arith
  few (inr same) = subst (λ (f : Option ℕ). t'.clock.drawn + true_count t'.live.items ≤ most_drawn f) (sym st.full) (let b = live_same in let f = table.few in omega arith)

  spare : (t'.clock.drawn ≤ 65536) ⊎ (t'.clock.drawn ≡ t.clock.drawn) → t'.clock.in_phase ≡ true → length t'.clock.entries.list + true_count t'.live.items ≤ 66560
  spare (inl low) p = let a = owners_few t table in let b = live_same in let n = st.step.still.ticks.noted p low in omega arith
  spare (inr same) p = let b = live_same in let l = long_same t.rows.items t'.rows.items t.clock t'.clock st.step.since same in let f = table.spare (sym st.step.since.in_phase ∙ p) in omega arith

  pub stirred_table : IsTable t'
  stirred_table = record {
    lawful = subst IsLawful (sym st.plan) table.lawful;
    still = (λ b. subst (λ (q : Plan). IsStill q.nodes t'.rows.items t'.readers t'.clock) (sym st.plan) st.step.still);
    early = (λ p. let b = st.step.since.base in let e = table.early (sym st.step.since.in_phase ∙ p) in omega arith);
    ticks = (let b = st.step.since.base in let e = table.ticks in omega arith);
    good = subst (λ (q : Plan). IsGood q.nodes t'.rows.items) (sym st.plan) st.step.still.good;
    named = subst (λ (q : Plan). AreNamed q.nodes t'.rows.items) (sym st.plan) (stepped_named t.plan.nodes t.rows.items t'.rows.items t.readers t'.readers t.clock t'.clock table.good st.step table.named);
    fits = subst (λ (q : Plan). IsWorkOf q.nodes t'.work) (sym st.plan) st.fits;
    owners = ap (λ v. length v.items) st.live ∙ table.owners ∙ ap (λ (q : Plan). length q.owners) (sym st.plan);
    is_full = subst (λ (f : Option ℕ). IsFullAt f t'.clock.drawn) (sym st.full) (full_later t.full t.clock.drawn t'.clock.drawn st.step.since.drawn table.is_full);
    few = few (drawn_few t.rows.items t'.rows.items t.clock t'.clock st.step.since);
    spare = spare (drawn_few t.rows.items t'.rows.items t.clock t'.clock st.step.since);
  }

  pub stirred_kept : IsKept t t'
  stirred_kept = record { table = stirred_table; plan = st.plan; base = st.step.since.base; in_phase = st.step.since.in_phase }

-- ---- a write

module _ (t t' : Table) (table : IsTable t) (is_early : t.clock.base < 2 ^ 62) (signal : ℕ) (code : Code) (number : ℕ) (w : IsWrittenIn t t' signal code number) where
  pub written_table : IsTable t'
  written_table = record {
    lawful = subst IsLawful (sym w.plan) table.lawful;
    still = (λ b. subst (λ (q : Plan). IsStill q.nodes t'.rows.items t'.readers t'.clock) (sym w.plan) w.still);
    early = (λ p. let b = w.ticked.base in omega arith);
    ticks = (let b = w.ticked.base in let e = table.ticks in omega arith);
    good = subst (λ (q : Plan). IsGood q.nodes t'.rows.items) (sym w.plan) w.still.good;
    named = subst (λ (q : Plan). AreNamed q.nodes t'.rows.items) (sym w.plan) (written_named t.plan.nodes t.rows.items t'.rows.items signal w.was (packed code) (now_of t'.clock) w.at (w.written w.was w.at) table.named);
    fits = subst (λ (q : Plan). IsWorkOf q.nodes t'.work) (sym w.plan) w.fits;
    owners = ap (λ v. length v.items) w.live ∙ table.owners ∙ ap (λ (q : Plan). length q.owners) (sym w.plan);
    is_full = subst (λ (f : Option ℕ). IsFullAt f t'.clock.drawn) (sym w.full) (full_later t.full t.clock.drawn t'.clock.drawn (let d = w.ticked.drawn in omega arith) table.is_full);
    few = (let l = ap (λ (q : List Bool). true_count q) (ap (λ v. v.items) w.live) in let a = owners_few t table in let m = most_above t'.full in let f = w.ticked.few in omega arith);
    spare = (λ p. let l = ap (λ (q : List Bool). true_count q) (ap (λ v. v.items) w.live) in let a = owners_few t table in let n = w.still.ticks.noted p w.ticked.few in let f = w.ticked.few in omega arith);
  }

  pub written_kept : IsKept t t'
  written_kept = record { table = written_table; plan = w.plan; base = w.ticked.base; in_phase = w.ticked.in_phase }

module _ (t t' : Table) (table : IsTable t) (b : IsAsBefore t t') where
  pub before_table : IsTable t'
  before_table = record {
    lawful = subst IsLawful (sym b.plan) table.lawful;
    still = (λ l. subst (λ (q : Plan). IsStill q.nodes t'.rows.items t'.readers t'.clock) (sym b.plan)
        (subst (λ (q : List Opened). IsStill t.plan.nodes q t'.readers t'.clock) (sym b.rows)
        (subst (λ (q : Readers). IsStill t.plan.nodes t.rows.items q t'.clock) (sym b.readers)
        (subst (λ (q : Clock). IsStill t.plan.nodes t.rows.items t.readers q) (sym b.clock) (table.still (let e = ap (λ (q : Clock). q.base) b.clock in omega arith))))));
    early = (λ p. let e = ap (λ (q : Clock). q.base) b.clock in let h = table.early (ap (λ (q : Clock). q.in_phase) (sym b.clock) ∙ p) in omega arith);
    ticks = (let e = ap (λ (q : Clock). q.base) b.clock in let h = table.ticks in omega arith);
    good = subst (λ (q : Plan). IsGood q.nodes t'.rows.items) (sym b.plan) (subst (IsGood t.plan.nodes) (sym b.rows) table.good);
    named = subst (λ (q : Plan). AreNamed q.nodes t'.rows.items) (sym b.plan) (subst (AreNamed t.plan.nodes) (sym b.rows) table.named);
    fits = subst (λ (q : Plan). IsWorkOf q.nodes t'.work) (sym b.plan) b.fits;
    owners = ap (λ v. length v.items) b.live ∙ table.owners ∙ ap (λ (q : Plan). length q.owners) (sym b.plan);
    is_full = subst (λ (f : Option ℕ). IsFullAt f t'.clock.drawn) (sym b.full) (subst (λ (q : Clock). IsFullAt t.full q.drawn) (sym b.clock) table.is_full);
    few = subst (λ (f : Option ℕ). t'.clock.drawn + true_count t'.live.items ≤ most_drawn f) (sym b.full) (let l = ap (λ (q : List Bool). true_count q) (ap (λ v. v.items) b.live) in let e = ap (λ (q : Clock). q.drawn) b.clock in let h = table.few in omega arith);
    spare = (λ p. let l = ap (λ (q : List Bool). true_count q) (ap (λ v. v.items) b.live) in let e = ap (λ (q : Clock). length q.entries.list) b.clock in let h = table.spare (ap (λ (q : Clock). q.in_phase) (sym b.clock) ∙ p) in omega arith);
  }

-- ---- a number that comes to nothing

module _ (t t' : Table) (number : ℕ) (f : IsFilled t t' number) where
  pub filled_plan : t'.plan ≡ t.plan
  filled_plan = ap (λ (q : Table). q.plan) f.same

  pub filled_base : t'.clock.base ≡ t.clock.base
  filled_base = ap (λ (q : Table). q.clock.base) f.same

  pub filled_phase : t'.clock.in_phase ≡ t.clock.in_phase
  filled_phase = ap (λ (q : Table). q.clock.in_phase) f.same

pub still_at : (t : Table) → IsTable t → t.clock.base < 2 ^ 62 → (nodes : List PlanNode) → nodes ≡ t.plan.nodes → (rows : List Opened) → rows ≡ t.rows.items → IsStill nodes rows t.readers t.clock
still_at t table early nodes n rows r = subst (λ (q : List PlanNode). IsStill q rows t.readers t.clock) (sym n) (subst (λ (q : List Opened). IsStill t.plan.nodes q t.readers t.clock) (sym r) (table.still early))

pub fits_parts : (nodes nodes' : List PlanNode) (work : Work) → nodes ≡ nodes' → IsWorkOf nodes work → IsWorkOf nodes' work
fits_parts nodes nodes' work same fits = subst (λ (q : List PlanNode). IsWorkOf q work) same fits
