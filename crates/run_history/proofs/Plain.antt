-- Plain evaluation over the latest writes explains.
use Rattle.std.proofs.Common.{◌≡◌, ◌⊎◌, ℕ, zero, suc, ◌<◌, true, false, cond, List, [], ◌∷◌, length, get_or, sym, refl, ap, ◌∙◌, subst, inl, inr, ⊎_elim, arith, Option, Some, None}
use Rattle.std.specs.Prelude.{◌≢◌, IsSomeAnd, nat_eq, map, max, Contains, unwrap_or, filter_map}
use Rattle.std.specs.List.{last_or, cons_option}
use Rattle.std.proofs.lemmas.Bool.{true≢false}
use Rattle.std.proofs.lemmas.Bool.Decides.{nat_tests}
use Rattle.values.specs.declared.code.Code.{Code}
use Rattle.values.specs.declared.code.Code.TheVariants.{Empty}
use Rattle.values.specs.declared.expr.Expr.{Expr}
use Rattle.values.specs.declared.plan.Kind.{Kind}
use Rattle.values.specs.declared.plan.Kind.TheVariants as kind
use Rattle.values.specs.declared.plan.PlanNode.{PlanNode}
use Rattle.values.specs.declared.plan.Noted.{Noted}
use Rattle.values.specs.declared.plan.Fact.{Fact}
use Rattle.values.specs.declared.plan.Fact.TheVariants as fact
use Rattle.values.specs.Attempt.{known_value, known_by}
use Rattle.values.specs.Evaluation.{value_of, reads_of}
use Rattle.values.specs.Plan.{IsLawful, rows_in}
use Rattle.values.specs.PlanValues.{is_derived, ReadsBack}
use Rattle.values.proofs.ReadsLemmas.{same_by_reads}
use Rattle.values.proofs.PlanLemmas.{reads_named}
use Rattle.values.proofs.PlanValuesLemmas.{plan_value-source, plan_value-derived, lawful_back}
use Rattle.run_meaning.specs.Words.{In, GrowsFrom, greatest}
use Rattle.run_meaning.specs.Opened.{Opened, IsKind, opening_code, node_at}
use Rattle.run_meaning.specs.Entries.{fact_at, written_of, last_write}
use Rattle.run_meaning.specs.Explained.{Explained, opening, written, loaded, run, Evaluates, value_among, IsWritten}
use Rattle.run_meaning.specs.Phase.{Phase, IsJournal, entry_numbers}
use Rattle.run_history.specs.Going.{start_of, write_of, writes_of, latest, latest_code, plain_code}
use Rattle.run_history.proofs.Lists.{grows_above}
use Rattle.run_history.proofs.Cut.{is_yes, is_no, some_same, noted_in, fact_at_in}

-- ---- the write of a row with the greatest number

-- a fact is no write of the row, or one
write_or_not : (n : ℕ) (f : Fact) (k : ℕ) → ((written_of n f ≡ None) × (write_of n f k ≡ None)) ⊎ ((code : Code) × (f ≡ fact.Write n code) × (written_of n f ≡ Some code) × (write_of n f k ≡ Some k))
write_or_not n (fact.Write row code) k = elim (nat_eq n row) as (λ b. (nat_eq n row ≡ b) → ((cond b (Some code) None ≡ None) × (cond b (Some k) None ≡ None)) ⊎ ((c : Code) × (fact.Write row code ≡ fact.Write n c) × (cond b (Some code) None ≡ Some c) × (cond b (Some k) None ≡ Some k))) [
  | true ↦ λ q. let e : row ≡ n = grind (arith, nat_tests) in inr (code, ap (λ (r : ℕ). fact.Write r code) e, refl, refl)
  | false ↦ λ q. inl (refl, refl)
] refl
write_or_not n (fact.Change row code) k = inl (refl, refl)
write_or_not n (fact.Ran row code) k = inl (refl, refl)
write_or_not n (fact.Void row) k = inl (refl, refl)
write_or_not n (fact.Disposed owner) k = inl (refl, refl)
write_or_not n (fact.Edit pass index) k = inl (refl, refl)

-- a last write: its value, its number, and what is noted under it
pub record LastWrite (n : ℕ) (es : List Noted) (last : Option Code) (numbers : List ℕ) : Type 0 where
  pub code : Code
  pub is_last : last ≡ Some code
  pub noted : fact_at (greatest numbers) es ≡ Some (fact.Write n code)

last_from : (n low : ℕ) (es : List Noted) (r : Option Code) → GrowsFrom low (entry_numbers es)
    → ((last_or r (filter_map (λ e. written_of n e.fact) es) ≡ r) × (writes_of n es ≡ [])) ⊎ LastWrite n es (last_or r (filter_map (λ e. written_of n e.fact) es)) (writes_of n es)
last_from n low [] r g = inl (refl, refl)
last_from n low (e ∷ es) r g = ⊎_elim
    (λ (c : (written_of n e.fact ≡ None) × (write_of n e.fact e.number ≡ None)).
    let lasts : last_or r (cons_option (written_of n e.fact) (filter_map (λ x. written_of n x.fact) es)) ≡ last_or r (filter_map (λ x. written_of n x.fact) es) = ap (λ (t : Option Code). last_or r (cons_option t (filter_map (λ x. written_of n x.fact) es))) c.0 in
    let alls : cons_option (write_of n e.fact e.number) (writes_of n es) ≡ writes_of n es = ap (λ (t : Option ℕ). cons_option t (writes_of n es)) c.1 in
    ⊎_elim
    (λ (a : (last_or r (filter_map (λ x. written_of n x.fact) es) ≡ r) × (writes_of n es ≡ [])). inl (lasts ∙ a.0, alls ∙ a.1))
    (λ (a : LastWrite n es (last_or r (filter_map (λ x. written_of n x.fact) es)) (writes_of n es)). inr (record { code = a.code; is_last = lasts ∙ a.is_last; noted = ap (λ (t : List ℕ). fact_at (greatest t) (e ∷ es)) alls ∙ later (greatest (writes_of n es)) (fact.Write n a.code) a.noted }))
    (last_from n e.number es r g.1))
    (λ (c : (code : Code) × (e.fact ≡ fact.Write n code) × (written_of n e.fact ≡ Some code) × (write_of n e.fact e.number ≡ Some e.number)).
    let lasts : last_or r (cons_option (written_of n e.fact) (filter_map (λ x. written_of n x.fact) es)) ≡ last_or (Some c.0) (filter_map (λ x. written_of n x.fact) es) = ap (λ (t : Option Code). last_or r (cons_option t (filter_map (λ x. written_of n x.fact) es))) c.2 in
    let alls : cons_option (write_of n e.fact e.number) (writes_of n es) ≡ e.number ∷ writes_of n es = ap (λ (t : Option ℕ). cons_option t (writes_of n es)) c.3 in
    ⊎_elim
    (λ (a : (last_or (Some c.0) (filter_map (λ x. written_of n x.fact) es) ≡ Some c.0) × (writes_of n es ≡ [])).
    let most : greatest (cons_option (write_of n e.fact e.number) (writes_of n es)) ≡ e.number = ap greatest (alls ∙ ap (λ (t : List ℕ). e.number ∷ t) a.1) ∙ alone e.number in
    inr (record { code = c.0; is_last = lasts ∙ a.0; noted = ap (λ (k : ℕ). fact_at k (e ∷ es)) most ∙ (here ∙ ap (λ (f : Fact). Some f) c.1) }))
    (λ (a : LastWrite n es (last_or (Some c.0) (filter_map (λ x. written_of n x.fact) es)) (writes_of n es)).
    let l = grows_above e.number (entry_numbers es) (greatest (writes_of n es)) g.1 (fact_at_in (greatest (writes_of n es)) es (fact.Write n a.code) a.noted) in
    let most : greatest (cons_option (write_of n e.fact e.number) (writes_of n es)) ≡ greatest (writes_of n es) = ap greatest alls ∙ over e.number (greatest (writes_of n es)) l in
    inr (record { code = a.code; is_last = lasts ∙ a.is_last; noted = ap (λ (k : ℕ). fact_at k (e ∷ es)) most ∙ later (greatest (writes_of n es)) (fact.Write n a.code) a.noted }))
    (last_from n e.number es (Some c.0) g.1))
    (write_or_not n e.fact e.number)
  where
    later : (k : ℕ) (f : Fact) → fact_at k es ≡ Some f → fact_at k (e ∷ es) ≡ Some f
    later k f q = let l = grows_above e.number (entry_numbers es) k g.1 (fact_at_in k es f q) in ap (λ (b : _). cond b (Some e.fact) (fact_at k es)) (is_no k e.number (λ s. absurd (omega arith))) ∙ q

    here : fact_at e.number (e ∷ es) ≡ Some e.fact
    here = ap (λ (b : _). cond b (Some e.fact) (fact_at e.number es)) (is_yes e.number e.number refl)

    alone : (k : ℕ) → max k 0 ≡ k
    alone k = omega arith

    over : (a b : ℕ) → a < b → max a b ≡ b
    over a b l = omega arith

pub last_is : (n : ℕ) (es : List Noted) → GrowsFrom 0 (entry_numbers es) → ((last_write es n ≡ None) × (latest es n ≡ 0)) ⊎ LastWrite n es (last_write es n) (writes_of n es)
last_is n es g = ⊎_elim (λ (a : (last_write es n ≡ None) × (writes_of n es ≡ [])). inl (a.0, ap greatest a.1)) (λ (a : LastWrite n es (last_write es n) (writes_of n es)). inr a) (last_from n 0 es None g)

-- ---- reads with their values

known_at : (values : ℕ → Code) (rows : List ℕ) (r : ℕ) → Contains rows r → value_among (known_by values rows) r ≡ values r
known_at values [] r c = absurd (let l = c.1 in omega arith)
known_at values (x ∷ rows) r c = elim (nat_eq x r) as (λ b. (nat_eq x r ≡ b) → unwrap_or (cond b (Some (values x)) (known_value (known_by values rows) r)) Empty ≡ values r) [
  | true ↦ λ q. ap values (let e : x ≡ r = grind (arith, nat_tests) in e)
  | false ↦ λ q. known_at values rows r (later c.0 c.1 c.2 (λ e. true_no (sym (is_yes x r e) ∙ q)))
] refl
  where
    true_no : true ≡ false → ⊥
    true_no e = true≢false e

    later : (k : ℕ) → k < length (x ∷ rows) → get_or (x ∷ rows) k r ≡ r → (x ≡ r → ⊥) → Contains rows r
    later zero l e ne = absurd (ne e)
    later (suc k) l e ne = (k, omega arith, e)

rows_of : (values : ℕ → Code) (rows : List ℕ) → map (λ (p : ℕ × Code). p.0) (known_by values rows) ≡ rows
rows_of values [] = refl
rows_of values (x ∷ rows) = ap (λ (t : List ℕ). x ∷ t) (rows_of values rows)

abbrev pair : ℕ → Code → ℕ × Code
pair n v = (n, v)

known_in : (values : ℕ → Code) (rows : List ℕ) (r : ℕ) (v : Code) → In (pair r v) (known_by values rows) → Contains rows r × (values r ≡ v)
known_in values [] r v i = absurd i
known_in values (x ∷ rows) r v i = ⊎_elim (λ (e : pair x (values x) ≡ pair r v). let same : x ≡ r = ap (λ (p : ℕ × Code). p.0) e in ((0, omega arith, same), ap values (sym same) ∙ ap (λ (p : ℕ × Code). p.1) e))
    (λ t. let k = known_in values rows r v t in ((suc k.0.0, (let l = k.0.1 in omega arith), k.0.2), k.1)) i

evaluates_known : (e : Expr) (values : ℕ → Code) → Evaluates e (known_by values (reads_of e values)) (value_of e values)
evaluates_known e values =
    let rows : List ℕ = reads_of e values in
    let s = same_by_reads e values (value_among (known_by values rows)) (λ r c. sym (known_at values rows r c)) in
    (sym s.1 ∙ sym (rows_of values rows), sym s.0)

-- ---- each row of the plan

module _ (past : List Phase) (o : Opened) (es : List Noted) (drawn : ℕ) (lawful : IsLawful o.plan) (journal : IsJournal o drawn es) where
  back : ReadsBack o.plan.nodes
  back = lawful_back o.plan lawful

  abbrev plain : ℕ → Code
  plain = plain_code (start_of past o) es

  -- a row that is not computed has the value of its last write
  source_is : (n : ℕ) (node : PlanNode) → node_at o n ≡ Some node → is_derived node.kind ≡ false → plain n ≡ latest_code (start_of past o) es n
  source_is n node e d = plan_value-source o.plan.nodes (latest_code (start_of past o) es) back n node e d

  of_written : (n : ℕ) → IsWritten o n → plain n ≡ latest_code (start_of past o) es n → Explained o es (latest es) None n (plain n)
  of_written n w is = ⊎_elim
      (λ (a : (last_write es n ≡ None) × (latest es n ≡ 0)). opening w a.1 (sym (is ∙ ap (λ (t : Option Code). unwrap_or t (opening_code o n)) a.0)))
      (λ (a : LastWrite n es (last_write es n) (writes_of n es)).
      let v : a.code ≡ plain n = sym (is ∙ ap (λ (t : Option Code). unwrap_or t (opening_code o n)) a.is_last) in
      written (latest es n) w (a.noted ∙ ap (λ (c : Code). Some (fact.Write n c)) v) (omega arith) tt)
      (last_is n es journal.in_order)

  abbrev is_load : Kind → ℕ
  is_load kind.Signal = 0
  is_load kind.Field = 0
  is_load kind.Load = 1
  is_load kind.Memo = 0
  is_load kind.Effect = 0

  -- a load is not written
  not_written : (n : ℕ) (node : PlanNode) → node_at o n ≡ Some node → node.kind ≡ kind.Load → IsWritten o n → ⊥
  not_written n node e is w = ⊎_elim (λ (a : IsKind o n kind.Signal). clash a.0 a.1 kind.Signal a.2 refl) (λ (a : IsKind o n kind.Field). clash a.0 a.1 kind.Field a.2 refl) w
    where
      clash : (other : PlanNode) → node_at o n ≡ Some other → (k : Kind) → other.kind ≡ k → is_load k ≡ 0 → ⊥
      clash other q k r z = let same : other ≡ node = some_same other node (sym q ∙ e) in let l : is_load k ≡ 1 = ap is_load (sym r ∙ (ap (λ (x : PlanNode). x.kind) same ∙ is)) in absurd (omega arith)

  of_load : (n : ℕ) (node : PlanNode) → node_at o n ≡ Some node → node.kind ≡ kind.Load → plain n ≡ latest_code (start_of past o) es n → Explained o es (latest es) None n (plain n)
  of_load n node e is v = ⊎_elim
      (λ (a : (last_write es n ≡ None) × (latest es n ≡ 0)). loaded (node, e, is) (sym (v ∙ ap (λ (t : Option Code). unwrap_or t (opening_code o n)) a.0)))
      (λ (a : LastWrite n es (last_write es n) (writes_of n es)). absurd (not_written n node e is (journal.of_plan (record { number = latest es n; fact = fact.Write n a.code }) (noted_in (latest es n) es (fact.Write n a.code) a.noted))))
      (last_is n es journal.in_order)

  -- what a computed row reads is there
  reads_there : (n : ℕ) (node : PlanNode) → node_at o n ≡ Some node → (r : ℕ) → Contains (rows_in node.expr) r → (r < n) × ((m : PlanNode) × (node_at o r ≡ Some m))
  reads_there n node e r c = let may = lawful.reads_back n node e r c in (may.0, there (node_at o r) may.1)
    where
      there : (found : Option PlanNode) → IsSomeAnd found (λ m. m.kind ≢ kind.Effect) → (m : PlanNode) × (found ≡ Some m)
      there None h = absurd h
      there (Some m) h = (m, refl)

  of_computed : (n : ℕ) (node : PlanNode) → node_at o n ≡ Some node → is_derived node.kind ≡ true → ((r : ℕ) (m : PlanNode) → r < n → node_at o r ≡ Some m → Explained o es (latest es) None r (plain r)) → Explained o es (latest es) None n (plain n)
  of_computed n node e d below = subst (λ (v : Code). Explained o es (latest es) None n v) (sym (plan_value-derived o.plan.nodes (latest_code (start_of past o) es) back n node e d))
      (run node (known_by plain (reads_of node.expr plain)) (e, d) (evaluates_known node.expr plain)
      (λ s v i. let q = known_in plain (reads_of node.expr plain) s v i in let b = reads_there n node e s (reads_named node.expr plain s q.0) in subst (λ (c : Code). Explained o es (latest es) None s c) q.1 (below s b.1.0 b.0 b.1.1)))

  plain_below : (bound n : ℕ) (node : PlanNode) → n < bound → node_at o n ≡ Some node → Explained o es (latest es) None n (plain n)
  plain_below zero n node l e = absurd (omega arith)
  plain_below (suc bound) n node l e = by (λ r m b g. plain_below bound r m (omega arith) g) node.kind refl
    where
      by : ((r : ℕ) (m : PlanNode) → r < n → node_at o r ≡ Some m → Explained o es (latest es) None r (plain r)) → (k : Kind) → node.kind ≡ k → Explained o es (latest es) None n (plain n)
      by go kind.Signal q = of_written n (inl (node, e, q)) (source_is n node e (ap is_derived q))
      by go kind.Field q = of_written n (inr (node, e, q)) (source_is n node e (ap is_derived q))
      by go kind.Load q = of_load n node e q (source_is n node e (ap is_derived q))
      by go kind.Memo q = of_computed n node e (ap is_derived q) go
      by go kind.Effect q = of_computed n node e (ap is_derived q) go

  pub plain_explained : (n : ℕ) (node : PlanNode) → node_at o n ≡ Some node → Explained o es (latest es) None n (plain_code (start_of past o) es n)
  plain_explained n node e = plain_below (suc n) n node (omega arith) e
