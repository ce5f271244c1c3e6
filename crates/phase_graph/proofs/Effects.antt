-- The call on one effect, of a table.
use Rattle.std.proofs.Common.{◌≡◌, ◌≢◌, ◌⊎◌, inl, inr, ⊎_elim, ℕ, ◌+◌, ◌≤◌, ◌<◌, true, false, Result, Ok, Err, IfOk, OnOk, OnErr, Option, Some, None, List, slice_get, set, length, refl, sym, ap, subst, ◌∙◌, arith}
use Rattle.values.specs.declared.plan.Kind.TheVariants as kind
use Rattle.values.specs.declared.plan.Plan.{Plan}
use Rattle.values.specs.declared.plan.PlanNode.{PlanNode}
use Rattle.values.specs.Packing.{unpacked}
use Rattle.values.specs.Plan.{IsLawful}
use Rattle.values.specs.PlanValues.{plan_value}
use Rattle.sources.specs.declared.opening.Opened.{Opened}
use Rattle.sources.specs.Colours.{is_clean}
use Rattle.sources.specs.Rows.{IsGood, value_in}
use Rattle.still_readers.specs.declared.readers.Readers.{Readers}
use Rattle.still_readers.proofs.Lists.{at_within, within_at, set_other, one_at}
use Rattle.still_rows.specs.declared.clock.Clock.{Clock}
use Rattle.still_rows.specs.declared.clock.Full.{Full}
use Rattle.still_rows.specs.Since.{kept_row}
use Rattle.still_rows.specs.Works.{IsStill, IsStepped, IsWorkOf, unclean_count}
use Rattle.still_rows.proofs.WorksLemmas.{unclean_less, some_unclean}
use Rattle.still_effects.specs.declared.effect.Effect.{Effect}
use Rattle.still_effects.specs.declared.effect.Effect.TheVariants as effect
use Rattle.still_effects.specs.Effects.{IsEffect, EndedAs, FullAs}
use Rattle.still_effects.proofs.EffectLemmas.{effect_row}
use Rattle.carried_rows.specs.Named.{AreNamed}
use Rattle.phase_graph.specs.declared.table.Table.{Table}
use Rattle.phase_graph.specs.Table.{true_count, most_drawn, IsFullAt, IsTable, IsKept}
use Rattle.phase_graph.specs.Pumping.{IsTried, IsDone, IsShort, IsLeft, CameTo}
use Rattle.phase_graph.proofs.Naming.{ended_named, full_named}
use Rattle.phase_graph.proofs.Tables.{most_above, full_later, owners_few, long_same, drawn_few}

-- ---- what a call on the rows ensures, of the table

pub record IsAnswer (old new : Table) (row : ℕ) (r : Result Effect Full) (nodes : List PlanNode) (rows rows' : List Opened) : Type 0 where
  pub still : IsStill nodes rows' new.readers new.clock
  pub fits : IsWorkOf nodes new.work
  pub base : new.clock.base ≡ old.clock.base
  pub in_phase : new.clock.in_phase ≡ true
  pub ended : IfOk r (λ came. EndedAs nodes rows rows' old.readers new.readers old.clock new.clock row came)
  pub stopped : OnErr r (FullAs nodes rows rows' old.readers new.readers old.clock new.clock row)
  pub clean : OnOk r ((opened : Opened) → slice_get rows' row ≡ Some opened → (is_clean opened.colour ≡ true) × (unpacked opened.code ≡ plan_value nodes (value_in rows) row))
  pub unclean : OnErr r ((opened : Opened) → slice_get rows' row ≡ Some opened → is_clean opened.colour ≡ false)
  pub others : (i : ℕ) (node : PlanNode) → slice_get nodes i ≡ Some node → node.kind ≡ kind.Effect → i ≢ row → slice_get rows' i ≡ slice_get rows i
  pub spent : OnOk r (new.clock.drawn + unclean_count rows' ≤ old.clock.drawn + unclean_count rows)
  pub full : OnErr r (65536 ≤ new.clock.drawn)

answer_at : (old new : Table) (row : ℕ) (r : Result Effect Full) (nodes : List PlanNode) (rows rows' : List Opened) → nodes ≡ old.plan.nodes → rows ≡ old.rows.items → rows' ≡ new.rows.items → IsAnswer old new row r nodes rows rows' → IsAnswer old new row r old.plan.nodes old.rows.items new.rows.items
answer_at old new row r nodes rows rows' n o w a =
    subst (λ (q : List PlanNode). IsAnswer old new row r q old.rows.items new.rows.items) n
    (subst (λ (q : List Opened). IsAnswer old new row r nodes q new.rows.items) o
    (subst (λ (q : List Opened). IsAnswer old new row r nodes rows q) w a))

tried_of : (old new : Table) (row : ℕ) (r : Result Effect Full) → new.plan ≡ old.plan → new.live ≡ old.live → new.full ≡ old.full → IsAnswer old new row r old.plan.nodes old.rows.items new.rows.items → IsTried old new row
tried_of old new row r plan live full a = record { plan = plan; live = live; full = full; still = a.still; fits = a.fits; base = a.base; in_phase = a.in_phase; others = a.others }

came_at : (old new : Table) (row : ℕ) (r : Result Effect Full) → new.plan ≡ old.plan → new.live ≡ old.live → new.full ≡ old.full → IsAnswer old new row r old.plan.nodes old.rows.items new.rows.items → CameTo old new row r
came_at old new row (Ok came) plan live full a = record { tried = tried_of old new row (Ok came) plan live full a; ended = a.ended; clean = (λ opened at. (a.clean opened at).0); spent = a.spent }
came_at old new row (Err why) plan live full a = record { tried = tried_of old new row (Err why) plan live full a; stopped = a.stopped; unclean = a.unclean; full = a.full }

pub came_of : (old new : Table) (row : ℕ) (r : Result Effect Full) (nodes : List PlanNode) (rows rows' : List Opened) → nodes ≡ old.plan.nodes → rows ≡ old.rows.items → rows' ≡ new.rows.items → new.plan ≡ old.plan → new.live ≡ old.live → new.full ≡ old.full → IsAnswer old new row r nodes rows rows' → CameTo old new row r
came_of old new row r nodes rows rows' n o w plan live full a = came_at old new row r plan live full (answer_at old new row r nodes rows rows' n o w a)

-- ---- the numbers that were drawn

-- no number above the last was drawn, or none at all, and nothing is noted
pub record IsDrawn (c c' : Clock) : Type 0 where
  pub grows : c.drawn ≤ c'.drawn
  pub few : (c'.drawn ≤ 65536) ⊎ ((c'.drawn ≡ c.drawn) × (length c'.entries.list ≡ length c.entries.list))

stepped_drawn : (nodes : List PlanNode) (rows rows' : List Opened) (readers readers' : Readers) (c c' : Clock) → IsStepped nodes rows rows' readers readers' c c' → IsDrawn c c'
stepped_drawn nodes rows rows' readers readers' c c' step = record {
  grows = step.since.drawn;
  few = ⊎_elim (λ (l : c'.drawn ≤ 65536). inl l) (λ (same : c'.drawn ≡ c.drawn). inr (same, long_same rows rows' c c' step.since same)) (drawn_few rows rows' c c' step.since);
}

low : (c c' : Clock) → c.drawn ≤ 65536 → IsDrawn c c' → c'.drawn ≤ 65536
low c c' l d = ⊎_elim (λ (a : c'.drawn ≤ 65536). a) (λ a. let same = a.0 in let r : c'.drawn ≤ 65536 = omega arith in r) d.few

ended_drawn : (nodes : List PlanNode) (rows rows' : List Opened) (readers readers' : Readers) (c c' : Clock) (i : ℕ) (came : Effect) → EndedAs nodes rows rows' readers readers' c c' i came → IsDrawn c c'
ended_drawn nodes rows rows' readers readers' c c' i effect.Same h = stepped_drawn nodes rows h.sourced readers readers' c c' h.stepped
ended_drawn nodes rows rows' readers readers' c c' i (effect.Ran code) h =
    let a = h.found.since.drawn in
    let b = h.ticked.drawn in
    let r = stepped_drawn nodes h.found_rows h.run.sourced h.found_readers h.run.enrolled h.drawn h.noted h.run.stepped in
    let g = r.grows in
    let l = low h.drawn h.noted h.ticked.few r in
    let e = ap (λ (q : Clock). q.drawn) h.after_is in
    let few : c'.drawn ≤ 65536 = omega arith in
    record { grows = omega arith; few = inl few }

full_drawn : (nodes : List PlanNode) (rows rows' : List Opened) (readers readers' : Readers) (c c' : Clock) (i : ℕ) → FullAs nodes rows rows' readers readers' c c' i → IsDrawn c c'
full_drawn nodes rows rows' readers readers' c c' i (inl h) = stepped_drawn nodes rows rows' readers readers' c c' h
full_drawn nodes rows rows' readers readers' c c' i (inr h) =
    let a = h.found.since.drawn in
    let b = h.ticked.drawn in
    let r = stepped_drawn nodes h.found_rows rows' h.found_readers readers' h.drawn c' h.stepped in
    let g = r.grows in
    let l = low h.drawn c' h.ticked.few r in
    record { grows = omega arith; few = inl l }

pub done_drawn : (t t' : Table) (row : ℕ) (came : Effect) → IsDone t t' row came → IsDrawn t.clock t'.clock
done_drawn t t' row came h = ended_drawn t.plan.nodes t.rows.items t'.rows.items t.readers t'.readers t.clock t'.clock row came h.ended

pub short_drawn : (t t' : Table) (row : ℕ) → IsShort t t' row → IsDrawn t.clock t'.clock
short_drawn t t' row h = full_drawn t.plan.nodes t.rows.items t'.rows.items t.readers t'.readers t.clock t'.clock row h.stopped

-- ---- what holds of a table is kept

module _ (t t' : Table) (row : ℕ) (table : IsTable t) (is_open : t.clock.in_phase ≡ true) (h : IsTried t t' row) (d : IsDrawn t.clock t'.clock) (named : AreNamed t.plan.nodes t'.rows.items) where
  live_same : true_count t'.live.items ≡ true_count t.live.items
  live_same = ap (λ v. true_count v.items) h.live

  tried_table : IsTable t'
  tried_table = record {
    lawful = subst IsLawful (sym h.plan) table.lawful;
    still = (λ b. subst (λ (q : Plan). IsStill q.nodes t'.rows.items t'.readers t'.clock) (sym h.plan) h.still);
    early = (λ p. let b = h.base in let e = table.early is_open in omega arith);
    ticks = (let b = h.base in let e = table.ticks in omega arith);
    good = subst (λ (q : Plan). IsGood q.nodes t'.rows.items) (sym h.plan) h.still.good;
    named = subst (λ (q : Plan). AreNamed q.nodes t'.rows.items) (sym h.plan) named;
    fits = subst (λ (q : Plan). IsWorkOf q.nodes t'.work) (sym h.plan) h.fits;
    owners = ap (λ v. length v.items) h.live ∙ table.owners ∙ ap (λ (q : Plan). length q.owners) (sym h.plan);
    is_full = subst (λ (f : Option ℕ). IsFullAt f t'.clock.drawn) (sym h.full) (full_later t.full t.clock.drawn t'.clock.drawn d.grows table.is_full);
    few = subst (λ (f : Option ℕ). t'.clock.drawn + true_count t'.live.items ≤ most_drawn f) (sym h.full) (elim d.few [
      | inl l ↦ (let a = owners_few t table in let b = live_same in let m = most_above t.full in omega arith)
      | inr e ↦ (let same = e.0 in let b = live_same in let f = table.few in omega arith)
    ]);
    spare = (λ p. elim d.few [
      | inl l ↦ (let a = owners_few t table in let b = live_same in let n = h.still.ticks.noted p l in omega arith)
      | inr e ↦ (let same = e.1 in let b = live_same in let f = table.spare is_open in omega arith)
    ]);
  }

  tried_kept : IsKept t t'
  tried_kept = record { table = tried_table; plan = h.plan; base = h.base; in_phase = h.in_phase ∙ sym is_open }

pub came_kept : (t t' : Table) (row : ℕ) (r : Result Effect Full) → IsTable t → t.clock.in_phase ≡ true → CameTo t t' row r → IsKept t t'
came_kept t t' row (Ok came) table is_open h = tried_kept t t' row table is_open h.tried (done_drawn t t' row came h) (ended_named t.plan.nodes t.rows.items t'.rows.items t.readers t'.readers t.clock t'.clock row came table.good h.ended table.named)
came_kept t t' row (Err why) table is_open h = tried_kept t t' row table is_open h.tried (short_drawn t t' row h) (full_named t.plan.nodes t.rows.items t'.rows.items t.readers t'.readers t.clock t'.clock row table.good h.stopped table.named)

-- ---- how many numbers are drawn

-- two rows that are not clean
two_unclean : (rows : List Opened) (i j : ℕ) (y z : Opened) → slice_get rows i ≡ Some y → is_clean y.colour ≡ false → (j ≡ i → ⊥) → slice_get rows j ≡ Some z → is_clean z.colour ≡ false → 1 < unclean_count rows
two_unclean rows i j y z a u other b v =
    let l = unclean_less rows i y (kept_row y) a u refl in
    let s = some_unclean (set rows i (kept_row y)) j z (set_other rows i j (kept_row y) other ∙ b) v in
    omega arith

memo_is_other : (nodes : List PlanNode) (i j : ℕ) (node : PlanNode) → slice_get nodes j ≡ Some node → node.kind ≡ kind.Memo → (is : IsEffect nodes i) → j ≡ i → ⊥
memo_is_other nodes i j node at memo is same =
    let e = ap (λ (z : PlanNode). z.kind) (one_at node is.node at (ap (slice_get nodes) same ∙ is.at)) in
    let k : kind.Memo ≡ kind.Effect = sym memo ∙ e ∙ is.is in
    cc

-- one number more is not above so many as rows were not clean
module _ (t m : Table) (row most : ℕ) (is : IsEffect t.plan.nodes row) (h : IsShort t m row) (before : t.clock.drawn + unclean_count t.rows.items ≤ most) where
  here : (y : Opened) × (slice_get m.rows.items row ≡ Some y)
  here = effect_row t.plan.nodes m.rows.items row h.tried.still.good is

  one_more : FullAs t.plan.nodes t.rows.items m.rows.items t.readers m.readers t.clock m.clock row → m.clock.drawn + 1 ≤ most
  one_more (inl s) =
      let a = s.spent in
      let b = some_unclean m.rows.items row here.0 here.1 (h.unclean here.0 here.1) in
      omega arith
  one_more (inr s) =
      let a = s.found.spent in
      let b = s.ticked.drawn in
      let c = s.stepped.spent in
      let l = s.left in
      let n = within_at t.plan.nodes l.row (let w = at_within m.rows.items l.row l.opened l.at in let p = h.tried.still.good.paired in omega arith) in
      let two = two_unclean m.rows.items row l.row here.0 l.opened here.1 (h.unclean here.0 here.1) (memo_is_other t.plan.nodes row l.row n.0 n.1 (l.memo.each n.0 n.1) is) l.at l.unclean in
      omega arith

-- no more numbers are drawn than so many, and where none above the last was, as many are left as rows are not clean
pub record DrawsMost (t : Table) (most : ℕ) : Type 0 where
  pub drawn : t.clock.drawn ≤ most
  pub left : t.full ≡ None → t.clock.drawn + unclean_count t.rows.items ≤ most

-- where a number above the last was drawn, no more are
stays_drawn : (t t' : Table) (number : ℕ) → IsTable t → t.full ≡ Some number → IsDrawn t.clock t'.clock → t'.clock.drawn ≡ t.clock.drawn
stays_drawn t t' number table full d =
    let f = subst (λ (o : Option ℕ). IsFullAt o t.clock.drawn) full table.is_full in
    let a = f.0 in let b = f.1 in let g = d.grows in
    ⊎_elim (λ (l : t'.clock.drawn ≤ 65536). absurd (omega arith)) (λ e. e.0) d.few

pub done_draws : (t t' : Table) (row most : ℕ) (came : Effect) → IsTable t → IsDone t t' row came → DrawsMost t most → DrawsMost t' most
done_draws t t' row most came table h w = by t.full refl
  where
    by : (f : Option ℕ) → t.full ≡ f → DrawsMost t' most
    by None e = let a = w.left e in let b = h.spent in record { drawn = omega arith; left = (λ n. omega arith) }
    by (Some number) e =
        let same = stays_drawn t t' number table e (done_drawn t t' row came h) in
        let a = w.drawn in
        record { drawn = omega arith; left = (λ n. let no : Some number ≡ None = sym e ∙ sym h.tried.full ∙ n in cc) }

pub left_draws : (t t' : Table) (row number most : ℕ) → IsTable t → IsEffect t.plan.nodes row → IsLeft t t' row number → DrawsMost t most → DrawsMost t' most
left_draws t t' row number most table is h w = by t.full refl
  where
    kept : t'.full ≡ Some number
    kept = ap (λ (q : Table). q.full) h.filled.same

    never : t'.full ≡ None → t'.clock.drawn + unclean_count t'.rows.items ≤ most
    never n = let no : Some number ≡ None = sym kept ∙ n in cc

    by : (f : Option ℕ) → t.full ≡ f → DrawsMost t' most
    by None e =
        let a = one_more t h.short row most is h.stopped (w.left e) h.stopped.stopped in
        let c : h.dirty.clock.drawn ≡ h.short.clock.drawn = ap (λ (q : Table). q.clock.drawn) h.dirtied.rest in
        let b : t'.clock.drawn ≤ h.dirty.clock.drawn + 1 = ⊎_elim (λ (q : t'.clock.drawn ≡ h.dirty.clock.drawn). let l : t'.clock.drawn ≤ h.dirty.clock.drawn + 1 = omega arith in l) (λ (q : t'.clock.drawn ≡ h.dirty.clock.drawn + 1). let l : t'.clock.drawn ≤ h.dirty.clock.drawn + 1 = omega arith in l) h.filled.drawn in
        record { drawn = omega arith; left = never }
    by (Some n) e =
        let same = stays_drawn t h.short n table e (short_drawn t h.short row h.stopped) in
        let once : t'.clock.drawn ≡ h.short.clock.drawn = ap (λ (q : Table). q.clock.drawn) (h.once n e ∙ h.dirtied.rest) in
        let a = w.drawn in
        record { drawn = omega arith; left = never }
