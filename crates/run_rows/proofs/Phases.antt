-- What is asked of a phase, from what holds of each of its entries.
use Rattle.std.proofs.Common.{◌≡◌, ℕ, zero, suc, ◌+◌, ◌≤◌, Some, None, List, [], ◌∷◌, inl, inr, sym, ap, subst, ⊎_elim, arith}
use Rattle.std.specs.List.{AllByRecursion, range_with_len}
use Rattle.values.specs.declared.plan.Fact.{Fact}
use Rattle.values.specs.declared.plan.Fact.TheVariants as fact
use Rattle.values.specs.declared.plan.Kind.TheVariants as kind
use Rattle.values.specs.declared.plan.Noted.{Noted}
use Rattle.values.specs.declared.plan.PlanNode.{PlanNode}
use Rattle.run_items.specs.declared.limits.TheConstants.{LAST_NUMBER}
use Rattle.run_meaning.specs.Words.{In, GrowsFrom}
use Rattle.run_meaning.specs.Opened.{Opened, node_at}
use Rattle.run_meaning.specs.Entries.{fact_at}
use Rattle.run_meaning.specs.Explained.{Explained}
use Rattle.run_meaning.specs.Phase.{Phase, IsOfPlan, IsJournal, entry_numbers}
use Rattle.run_meaning.specs.Told.{EntriesExplained, IsLive, NoRunAfter}
use Rattle.run_meaning.proofs.Bounds.{number_in, in_range}
use Rattle.run_rows.proofs.Cases.{all_in, fact_in}

-- ---- journals whose numbers are 1, 2, 3 and so on

grows : (low len : ℕ) → GrowsFrom low (range_with_len (low + 1) len)
grows low zero = tt
grows low (suc len) = (omega arith, grows (low + 1) len)

number_of : (es : List Noted) (e : Noted) → In e es → In e.number (entry_numbers es)
number_of [] e i = absurd i
number_of (x ∷ xs) e i = ⊎_elim (λ (q : x ≡ e). inl (ap (λ (y : Noted). y.number) q)) (λ j. inr (number_of xs e j)) i

pub is_journal : (o : Opened) (k : ℕ) (es : List Noted) → entry_numbers es ≡ range_with_len 1 k → k ≤ LAST_NUMBER → AllByRecursion (λ e. IsOfPlan o e.fact) es → IsJournal o k es
is_journal o k es e l a = record {
  in_order = subst (GrowsFrom 0) (sym e) (grows 0 k);
  drawn_all = λ n i. let h = in_range 1 k n (subst (In n) e i) in omega arith;
  complete = λ n a u. subst (In n) (sym e) (number_in 1 k n (omega arith) (omega arith));
  late = λ x i u. let h = in_range 1 k x.number (subst (In x.number) e (number_of es x i)) in absurd (omega arith);
  of_plan = all_in (λ x. IsOfPlan o x.fact) es a;
}

-- ---- entries

abbrev pub IsGood : Opened → List Noted → Fact → Type 0
IsGood o es (fact.Write row code) = Unit {0}
IsGood o es (fact.Change row code) = Explained o es (λ n. 0) None row code
IsGood o es (fact.Ran row code) = Explained o es (λ n. 0) None row code
IsGood o es (fact.Void row) = Unit {0}
IsGood o es (fact.Disposed owner) = Unit {0}
IsGood o es (fact.Edit pass index) = Unit {0}

pub entries_explained : (p : Phase) → AllByRecursion (λ e. IsGood p.opened p.entries e.fact) p.entries → EntriesExplained p
entries_explained p a k row v e =
    ⊎_elim (λ (r : fact_at k p.entries ≡ Some (fact.Ran row v)). fact_in (λ n f. IsGood p.opened p.entries f) p.entries a k _ r)
    (λ (r : fact_at k p.entries ≡ Some (fact.Change row v)). fact_in (λ n f. IsGood p.opened p.entries f) p.entries a k _ r) e

abbrev pub RunsLive : List Phase → Phase → ℕ → Fact → Type 0
RunsLive past p k (fact.Write row code) = Unit {0}
RunsLive past p k (fact.Change row code) = Unit {0}
RunsLive past p k (fact.Ran row code) = (node : PlanNode) × (node_at p.opened row ≡ Some node) × (node.kind ≡ kind.Effect) × IsLive past p k node.owner
RunsLive past p k (fact.Void row) = Unit {0}
RunsLive past p k (fact.Disposed owner) = Unit {0}
RunsLive past p k (fact.Edit pass index) = Unit {0}

pub no_run_after : (past : List Phase) (p : Phase) → AllByRecursion (λ e. RunsLive past p e.number e.fact) p.entries → NoRunAfter past p
no_run_after past p a k row v e = fact_in (RunsLive past p) p.entries a k _ e
