-- What lanes got, and the values of runs and changes, are explained.
use Rattle.std.proofs.Common.{◌≡◌, ℕ, ◌<◌, ◌≤◌, List, [], ◌++◌, sym, subst, inl, inr, ⊎_elim, arith, Option, Some, None}
use Rattle.values.specs.declared.code.Code.{Code}
use Rattle.values.specs.declared.plan.PlanNode.{PlanNode}
use Rattle.values.specs.declared.plan.Noted.{Noted}
use Rattle.values.specs.declared.plan.Fact.{Fact}
use Rattle.values.specs.declared.plan.Fact.TheVariants as fact
use Rattle.values.specs.Plan.{IsLawful}
use Rattle.run_items.specs.declared.answer.Reply.{Reply}
use Rattle.run_items.specs.declared.answer.Reply.TheVariants as reply
use Rattle.run_meaning.specs.Words.{In, Below}
use Rattle.run_meaning.specs.Opened.{Opened, opening_code, node_at}
use Rattle.run_meaning.specs.Lane.{Done, numbers, sets_of, own, next}
use Rattle.run_meaning.specs.Entries.{fact_at}
use Rattle.run_meaning.specs.Explained.{Explained, opening, written, loaded, run}
use Rattle.run_meaning.specs.Phase.{Phase, IsJournal}
use Rattle.run_meaning.specs.Told.{IsCurrent, GotAs, GotExplained, EntriesExplained}
use Rattle.run_history.specs.Going.{start_of, Going, just_opened, note, writes_of, latest, plain_code}
use Rattle.run_history.specs.Calls.{IsGot}
use Rattle.run_history.specs.History.{Made, Says, Follows, phase_of}
use Rattle.run_history.proofs.Lists.{greatest_above, greatest_below, least_above}
use Rattle.run_history.proofs.Journal.{all_more, nothing_yet, one_more}
use Rattle.run_history.proofs.Cut.{fact_at_more, fact_at_in, noted_in, rest_of, Place, place, said, Origin, origin}
use Rattle.run_history.proofs.Totals.{everywhere}
use Rattle.run_history.proofs.Plain.{plain_explained}
use Rattle.run_history.proofs.Numbers.{numbers_between, writes_left, own_written}

-- ---- what is explained stays so, with lower lower bounds, and below a bound that is above all that was noted

pub lifts : (o : Opened) (es rest : List Noted) (low less : ℕ → ℕ) (high : Option ℕ) → ((n : ℕ) → less n ≤ low n) → ((k : ℕ) (f : Fact) → fact_at k es ≡ Some f → Below high k)
    → {n : ℕ} {v : Code} → Explained o es low None n v → Explained o (es ++ rest) less high n v
lifts o es rest low less high lower above {n} {v} (opening w z e) = opening w (let l = lower n in omega arith) e
lifts o es rest low less high lower above {n} {v} (written k w e l b) = written k w (fact_at_more k es rest (fact.Write n v) e) (let m = lower n in omega arith) (above k (fact.Write n v) e)
lifts o es rest low less high lower above {n} {v} (loaded w e) = loaded w e
lifts o es rest low less high lower above {n} {v} (run node reads is e each) = run node reads is e (λ s c i. lifts o es rest low less high lower above (each s c i))

-- ---- at an operation of a lane

module _ (past : List Phase) (o : Opened) (pass : ℕ) (h : List Made) (k : Going) (before : List Done) (d : Done) (later : List Done) (t : Place past o pass h k before d later) where
  -- the journal when it was made
  pub journal_then : IsJournal o t.end.drawn t.end.entries
  journal_then = one_more past o t.start t.there.made t.end t.does (all_more past o just_opened t.there.front t.start t.first (nothing_yet o))

  -- the lane's own writes are among the latest
  pub own_below : (n : ℕ) → own o before n ≤ latest t.end.entries n
  own_below n = greatest_below (sets_of o n before) (latest t.end.entries n) (λ y i.
      greatest_above (writes_of n t.end.entries) y (subst (λ (u : List Noted). In y (writes_of n u)) (sym t.does.goes.entries)
      (writes_left n t.start.entries t.there.made.block y (own_written past o pass just_opened t.there.front t.start t.first n y (subst (λ (u : List Done). In y (sets_of o n u)) (sym t.there.earlier) i)))))

  -- its later numbers are above all that was noted
  next_above : (y : ℕ) (f : Fact) → fact_at y t.end.entries ≡ Some f → Below (next later) y
  next_above y f q = let most = journal_then.drawn_all y (fact_at_in y t.end.entries f q) in
      least_above (numbers later) y (λ z i. let l = numbers_between past o pass t.end t.there.back k t.rest z (subst (λ (u : List Done). In z (numbers u)) (sym t.there.behind) i) in let g : y < z = omega arith in g)

  -- the value by plain evaluation, of each row, is explained by what is noted in the end
  pub plain_then : IsLawful o.plan → (n : ℕ) (node : PlanNode) → node_at o n ≡ Some node → Explained o k.entries (own o before) (next later) n (plain_code (start_of past o) t.end.entries n)
  plain_then lawful n node e = let r = rest_of past o t.end t.there.back k t.rest in
      subst (λ (u : List Noted). Explained o u (own o before) (next later) n (plain_code (start_of past o) t.end.entries n)) (sym r.1)
      (lifts o t.end.entries r.0 (latest t.end.entries) (own o before) (next later) own_below next_above (plain_explained past o t.end.entries t.end.drawn lawful journal_then n node e))

  pub plain_stays : IsLawful o.plan → (n : ℕ) (node : PlanNode) → node_at o n ≡ Some node → Explained o k.entries (own o before) None n (plain_code (start_of past o) t.end.entries n)
  plain_stays lawful n node e = let r = rest_of past o t.end t.there.back k t.rest in
      subst (λ (u : List Noted). Explained o u (own o before) None n (plain_code (start_of past o) t.end.entries n)) (sym r.1)
      (lifts o t.end.entries r.0 (latest t.end.entries) (own o before) None own_below (λ y f q. tt) (plain_explained past o t.end.entries t.end.drawn lawful journal_then n node e))

-- ---- what a lane got

current_more : (o : Opened) (es rest : List Noted) (row : ℕ) (v : Code) (n : ℕ) → IsCurrent o es row v n → IsCurrent o (es ++ rest) row v n
current_more o es rest row v n c = ⊎_elim (λ (a : (n ≡ 0) × (opening_code o row ≡ v)). inl a) (λ t. inr (⊎_elim (λ (a : fact_at n es ≡ Some (fact.Write row v)). inl (fact_at_more n es rest (fact.Write row v) a)) (λ (a : fact_at n es ≡ Some (fact.Change row v)). inr (fact_at_more n es rest (fact.Change row v) a)) t)) c

module _ (past : List Phase) (o : Opened) (base count pass : ℕ) (h : List Made) (k : Going) (before : List Done) (d : Done) (later : List Done) (t : Place past o pass h k before d later) (lawful : IsLawful o.plan) where
  got_as : (r : Reply) → Says past o t.start t.there.made.block t.end pass d.op r → GotAs (phase_of o base count h k) before later d.op r
  got_as (reply.Got v n) s =
      let got : IsGot (start_of past o) t.start t.there.made.block t.end s.0 v n = s.2 in
      let r = rest_of past o t.end t.there.back k t.rest in (
        s.0,
        s.1,
        subst (λ (c : Code). Explained o k.entries (own o before) (next later) s.0 c) (sym got.plain) (plain_then past o pass h k before d later t lawful s.0 got.live.1.0 got.live.1.1),
        subst (λ (u : List Noted). IsCurrent o u s.0 v n) (sym r.1) (current_more o t.end.entries r.0 s.0 v n got.current),
      )
  got_as (reply.Set n) s = tt
  got_as (reply.Edited n w) s = tt
  got_as (reply.Pumped x) s = tt
  got_as (reply.Disposal x) s = tt
  got_as reply.NoRow s = tt
  got_as (reply.Busy x) s = tt
  got_as (reply.Again x) s = tt
  got_as (reply.Disposed x) s = tt
  got_as (reply.Full x) s = tt

pub got_explained : (past : List Phase) (o : Opened) (base count : ℕ) (h : List Made) (k : Going) → Follows past o just_opened h k → IsLawful o.plan → GotExplained (phase_of o base count h k)
got_explained past o base count h k f lawful = everywhere (λ pass before d later. GotAs (phase_of o base count h k) before later d.op d.reply) h count
    (λ pass before d later e. let t = place past o pass h k before d later f e in got_as past o base count pass h k before d later t lawful d.reply (said past o pass h k before d later t))

-- ---- runs and changes

pub of_origin : (past : List Phase) (o : Opened) (h : List Made) (k : Going) (n : ℕ) (f : Fact) → Follows past o just_opened h k → fact_at n k.entries ≡ Some f → Origin past o just_opened h k (note n f)
of_origin past o h k n f follows e = ⊎_elim (λ (z : In (note n f) []). absurd z) (λ (x : Origin past o just_opened h k (note n f)). x) (origin past o just_opened h k (note n f) follows (noted_in n k.entries f e))

-- the value by plain evaluation when it was noted is explained in the end
plain_noted : (past : List Phase) (o : Opened) (h : List Made) (k : Going) (e : Noted) (x : Origin past o just_opened h k e) → IsLawful o.plan → (n : ℕ) (node : PlanNode) → node_at o n ≡ Some node → Explained o k.entries (λ y. 0) None n (plain_code (start_of past o) x.end.entries n)
plain_noted past o h k e x lawful n node is =
    let journal : IsJournal o x.end.drawn x.end.entries = one_more past o x.start x.made x.end x.does (all_more past o just_opened x.front x.start x.before (nothing_yet o)) in
    let r = rest_of past o x.end x.back k x.after in
    subst (λ (u : List Noted). Explained o u (λ y. 0) None n (plain_code (start_of past o) x.end.entries n)) (sym r.1)
    (lifts o x.end.entries r.0 (latest x.end.entries) (λ y. 0) None (λ y. omega arith) (λ y f q. tt) (plain_explained past o x.end.entries x.end.drawn lawful journal n node is))

pub entries_explained : (past : List Phase) (o : Opened) (base count : ℕ) (h : List Made) (k : Going) → Follows past o just_opened h k → IsLawful o.plan → EntriesExplained (phase_of o base count h k)
entries_explained past o base count h k f lawful n row v c = ⊎_elim
    (λ (e : fact_at n k.entries ≡ Some (fact.Ran row v)). let x : Origin past o just_opened h k (note n (fact.Ran row v)) = of_origin past o h k n (fact.Ran row v) f e in
    let node = x.does.goes.of_plan (note n (fact.Ran row v)) x.here in let fits = x.does.goes.fit (note n (fact.Ran row v)) x.here in
    subst (λ (u : Code). Explained o k.entries (λ y. 0) None row u) (sym fits.0) (plain_noted past o h k (note n (fact.Ran row v)) x lawful row node.0 node.1))
    (λ (e : fact_at n k.entries ≡ Some (fact.Change row v)). let x : Origin past o just_opened h k (note n (fact.Change row v)) = of_origin past o h k n (fact.Change row v) f e in
    let node = x.does.goes.of_plan (note n (fact.Change row v)) x.here in let fits = x.does.goes.fit (note n (fact.Change row v)) x.here in
    subst (λ (u : Code). Explained o k.entries (λ y. 0) None row u) (sym fits) (plain_noted past o h k (note n (fact.Change row v)) x lawful row node.0 node.1)) c
