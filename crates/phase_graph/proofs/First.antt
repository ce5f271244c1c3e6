-- Rows before anything ran.
use Rattle.std.proofs.Common.{◌≡◌, ◌⊎◌, inl, inr, ℕ, ◌+◌, ◌<◌, false, Option, Some, None, List, [], slice_get, set, length, length-set, refl, sym, ap, subst, ◌∙◌, arith}
use Rattle.values.specs.declared.code.Code.{Code}
use Rattle.values.specs.declared.plan.PlanNode.{PlanNode}
use Rattle.values.specs.Plan.{IsLawful}
use Rattle.values.specs.PlanValues.{is_derived}
use Rattle.sources.specs.declared.body.Cause.TheVariants.{Changed}
use Rattle.sources.specs.declared.body.Read.{Read}
use Rattle.sources.specs.declared.opening.Opened.{Opened}
use Rattle.sources.specs.Rows.{IsGood, IsDated, IsRoomy, IsRowGood}
use Rattle.sources.specs.Colours.{is_clean}
use Rattle.still_readers.specs.declared.readers.Readers.{Readers}
use Rattle.still_readers.specs.Readers.{IsReadersOf}
use Rattle.still_readers.proofs.Lists.{at_within, within_at, set_other, one_at, which, not_both}
use Rattle.still_rows.specs.Fresh.{AreFreshRows}
use Rattle.still_rows.specs.Works.{IsWorkOf}
use Rattle.phase_graph.specs.declared.table.Table.{Table}
use Rattle.phase_graph.specs.Table.{IsFullAt, IsTable, IsGivenRow, AreGiven, AreFirstRows}
use Rattle.phase_graph.proofs.Tables.{true_few, most_above}

pub none_given : (nodes : List PlanNode) (codes : List Code) (rows : List Opened) → AreGiven nodes codes 0 rows rows
none_given nodes codes rows = record { paired = refl; each = (λ i node code was is l n c o w. absurd (omega arith)); others = (λ i l. refl) }

pub given_more : (nodes : List PlanNode) (codes : List Code) (old mid : List Opened) (at : ℕ) (node : PlanNode) (code : Code) (row row' : Opened) → AreGiven nodes codes at old mid → slice_get nodes at ≡ Some node → slice_get codes at ≡ Some code → slice_get mid at ≡ Some row → IsGivenRow (is_derived node.kind) code row row' → AreGiven nodes codes (at + 1) old (set mid at row')
given_more nodes codes old mid at node code row row' given n c here new = record {
  paired = length-set mid at row' ∙ given.paired;
  each = (λ i node' code' was is l n' c' o w. by i node' code' was is l n' c' o (which mid at row row' i is here w));
  others = (λ i l. set_other mid at i row' (λ e. absurd (omega arith)) ∙ given.others i (omega arith));
}
  where
    by : (i : ℕ) (node' : PlanNode) (code' : Code) (was is : Opened) → i < at + 1 → slice_get nodes i ≡ Some node' → slice_get codes i ≡ Some code' → slice_get old i ≡ Some was → ((i ≡ at) × (is ≡ row')) ⊎ ((i ≡ at → ⊥) × (slice_get mid i ≡ Some is)) → IsGivenRow (is_derived node'.kind) code' was is
    by i node' code' was is l n' c' o (inr p) = let q = p.0 in given.each i node' code' was is (omega arith) n' c' o p.1
    by i node' code' was is l n' c' o (inl p) =
        let a = one_at node node' n (ap (slice_get nodes) (sym p.0) ∙ n') in
        let b = one_at code code' c (ap (slice_get codes) (sym p.0) ∙ c') in
        let d = one_at row was here (given.others at (omega arith) ∙ (ap (slice_get old) (sym p.0) ∙ o)) in
        subst (λ (q : PlanNode). IsGivenRow (is_derived q.kind) code' was is) a
        (subst (λ (q : Code). IsGivenRow (is_derived node.kind) q was is) b
        (subst (λ (q : Opened). IsGivenRow (is_derived node.kind) code q is) d
        (subst (λ (q : Opened). IsGivenRow (is_derived node.kind) code row q) (sym p.1) new)))

module _ (nodes : List PlanNode) (codes : List Code) (rows rows' : List Opened) (readers : Readers) (counted : length codes ≡ length nodes) (good : IsGood nodes rows) (dated : IsDated rows 0) (roomy : IsRoomy nodes rows) (fresh : AreFreshRows nodes (length nodes) rows) (given : AreGiven nodes codes (length nodes) rows rows') (of_plan : IsReadersOf nodes readers) where
  -- a row, with what it was
  old_at : (i : ℕ) (row : Opened) → slice_get rows' i ≡ Some row → (was : Opened) × (slice_get rows i ≡ Some was)
  old_at i row at = let w = at_within rows' i row at in let p = given.paired in within_at rows i (omega arith)

  code_at : (i : ℕ) (row : Opened) → slice_get rows' i ≡ Some row → (code : Code) × (slice_get codes i ≡ Some code)
  code_at i row at = let w = at_within rows' i row at in let p = given.paired in let q = good.paired in within_at codes i (omega arith)

  node_at : (i : ℕ) (row : Opened) → slice_get rows' i ≡ Some row → (node : PlanNode) × (slice_get nodes i ≡ Some node)
  node_at i row at = let w = at_within rows' i row at in let p = given.paired in let q = good.paired in within_at nodes i (omega arith)

  new_row : (i : ℕ) (node : PlanNode) (was row : Opened) → slice_get nodes i ≡ Some node → slice_get rows i ≡ Some was → (w : slice_get rows' i ≡ Some row) → IsGivenRow (is_derived node.kind) (code_at i row w).0 was row
  new_row i node was row n o w = let l = at_within nodes i node n in let c = code_at i row w in given.each i node c.0 was row l n c.1 o w

  no_reads : (i : ℕ) (node : PlanNode) (row : Opened) → slice_get nodes i ≡ Some node → slice_get rows' i ≡ Some row → row.body.reads.list ≡ []
  no_reads i node row n w = let o = old_at i row w in ap (λ (q : Opened). q.body.reads.list) (new_row i node o.0 row n o.1 w).same ∙ (fresh.each i node o.0 n o.1).reads

  no_cause : (i : ℕ) (node : PlanNode) (row : Opened) → slice_get nodes i ≡ Some node → slice_get rows' i ≡ Some row → row.body.cause ≡ None
  no_cause i node row n w = let o = old_at i row w in ap (λ (q : Opened). q.body.cause) (new_row i node o.0 row n o.1 w).same ∙ (fresh.each i node o.0 n o.1).cause

  never_read : (i : ℕ) (node : PlanNode) (row : Opened) → slice_get nodes i ≡ Some node → slice_get rows' i ≡ Some row → (k : ℕ) (x : Read) → slice_get row.body.reads.list k ≡ Some x → ⊥
  never_read i node row n w k x e = let none : None ≡ Some x = ap (λ (q : List Read). slice_get q k) (sym (no_reads i node row n w)) ∙ e in cc

  good_row : (i : ℕ) (node : PlanNode) (row : Opened) → slice_get nodes i ≡ Some node → slice_get rows' i ≡ Some row → IsRowGood rows' i node row
  good_row i node row n w =
      let o = old_at i row w in
      let g = good.each i node o.0 n o.1 in
      let new = new_row i node o.0 row n o.1 w in
      let colour = ap (λ (q : Opened). q.colour) new.same in
      record {
        is_packed = new.is_packed g.is_packed;
        source = (λ d. ap is_clean colour ∙ g.source d);
        derived = (λ d. record {
          fresh = (λ none. colour ∙ (g.derived d).fresh (ap (λ (q : Opened). q.body.cause) (sym new.same) ∙ none));
          right = (λ ran. absurd (ran (no_cause i node row n w)));
          known = (λ k x e. absurd (never_read i node row n w k x e));
          clean = (λ c k x e. absurd (never_read i node row n w k x e));
        });
      }

  pub first_rows : AreFirstRows nodes codes rows' readers
  first_rows = record {
    good = record { paired = given.paired ∙ good.paired; each = good_row };
    dated = record {
      held = (λ i row w. let o = old_at i row w in let n = node_at i row w in let d = dated.held i o.0 o.1 in let v = ap (λ (q : Opened). q.version) (new_row i n.0 o.0 row n.1 o.1 w).same in omega arith);
      recorded = (λ i row w k x e. let n = node_at i row w in absurd (never_read i n.0 row n.1 w k x e));
    };
    roomy = record { each = (λ i node row n w d. let o = old_at i row w in rw (new_row i node o.0 row n o.1 w).same (roomy.each i node o.0 n o.1 d)) };
    of_plan = of_plan;
    enrolled = record { each = (λ i node row n w d ran k x e. absurd (never_read i node row n w k x e)) };
    named = (λ i node row n w d. record {
      unread = (λ none. no_reads i node row n w);
      caused = (λ source a b e. let no : None ≡ Some (Changed source a b) = sym (no_cause i node row n w) ∙ e in cc);
    });
    given = (λ i node row n w d. let o = old_at i row w in let c = code_at i row w in c.1 ∙ ap (λ (q : Code). Some q) (sym ((new_row i node o.0 row n o.1 w).takes d)));
    never = (λ i node row n w d. no_cause i node row n w);
  }

pub made_table : (t : Table) (codes : List Code) → IsLawful t.plan → length t.live.items ≡ length t.plan.owners → AreFirstRows t.plan.nodes codes t.rows.items t.readers → IsWorkOf t.plan.nodes t.work → t.clock.base ≡ 0 → t.clock.drawn ≡ 0 → t.clock.in_phase ≡ false → t.full ≡ None → IsTable t
made_table t codes lawful owners rows fits base drawn closed full = record {
  lawful = lawful;
  still = (λ b. record {
    lawful = record { few = lawful.few_nodes; reads = lawful.reads_back };
    good = rows.good;
    dated = (let same : 0 ≡ t.clock.base + t.clock.drawn = omega arith in subst (IsDated t.rows.items) same rows.dated);
    roomy = rows.roomy;
    of_plan = rows.of_plan;
    enrolled = rows.enrolled;
    ticks = record { base = b; few = omega arith; noted = (λ p. absurd (not_both t.clock.in_phase p closed)); short = (λ p. absurd (not_both t.clock.in_phase p closed)); room = (λ p. absurd (not_both t.clock.in_phase p closed)) };
  });
  early = (λ p. absurd (not_both t.clock.in_phase p closed));
  ticks = omega arith;
  good = rows.good;
  named = rows.named;
  fits = fits;
  owners = owners;
  is_full = subst (λ (f : Option ℕ). IsFullAt f t.clock.drawn) (sym full) tt;
  few = (let a = true_few t.live.items in let b = lawful.few_owners in let m = most_above t.full in omega arith);
  spare = (λ p. absurd (not_both t.clock.in_phase p closed));
}
