-- A call step by step: nothing is noted, or one entry, and then more.
use Rattle.std.proofs.Common.{◌≡◌, ◌⊎◌, ℕ, ◌+◌, ◌<◌, ◌≤◌, true, false, List, [], ◌∷◌, ◌++◌, sym, refl, ap, ◌∙◌, subst, inl, inr, ⊎_elim, arith, None}
use Rattle.std.specs.Prelude.{nat_lt, unwrap_or, filter_map}
use Rattle.std.specs.List.{last_or}
use Rattle.std.proofs.lemmas.Bool.{true≢false}
use Rattle.std.proofs.lemmas.Bool.Decides.{nat_tests}
use Rattle.std.proofs.lemmas.List.Elements.{filter_map-append}
use Rattle.values.specs.declared.code.Code.{Code}
use Rattle.values.specs.declared.plan.Noted.{Noted}
use Rattle.values.specs.declared.plan.Fact.{Fact}
use Rattle.values.specs.declared.plan.Fact.TheVariants as fact
use Rattle.values.specs.PlanValues.{plan_value}
use Rattle.run_items.specs.declared.limits.TheConstants.{LAST_NUMBER}
use Rattle.run_meaning.specs.Words.{In}
use Rattle.run_meaning.specs.Opened.{opening_code, dead_of}
use Rattle.run_meaning.specs.Entries.{is_disposal, written_of, disposed_in}
use Rattle.run_meaning.specs.Phase.{IsOfPlan}
use Rattle.run_meaning.specs.Merge.{DiffersFrom, AllDiffer}
use Rattle.run_history.specs.Going.{Start, opened_at, Going, note, Numbered, all_are, latest_code, plain_code, IsLiveRow, EntryFits, Goes, writes_nothing}
use Rattle.run_history.proofs.Lists.{in_append, append_nil, append_assoc'}
use Rattle.run_history.proofs.Totals.{none_of}
use Rattle.run_history.proofs.Disposals.{disposed_more}
use Rattle.run_history.proofs.Pumps.{differ_append}

-- ---- one step

pub nothing_goes : (s : Start) (g : Going) → Goes s g [] g
nothing_goes s g = record { entries = sym (append_nil g.entries); numbered = (omega arith, λ l. absurd (omega arith)); of_plan = λ e i. absurd i; differ = tt; fit = λ e i. absurd i }

-- where all numbers that are noted were drawn, one more may come to nothing
pub draws_more : (s : Start) (g : Going) → LAST_NUMBER ≤ g.drawn → Goes s g [] (record g { drawn = g.drawn + 1 })
draws_more s g full = record { entries = sym (append_nil g.entries); numbered = (omega arith, λ l. full); of_plan = λ e i. absurd i; differ = tt; fit = λ e i. absurd i }

pub one_goes : (s : Start) (g : Going) (f : Fact) → (g.drawn < LAST_NUMBER) ⊎ (is_disposal f ≡ true) → IsOfPlan (opened_at s) f → DiffersFrom (opened_at s) g.entries f → EntryFits s g.entries (g.entries ++ note (g.drawn + 1) f ∷ []) f
    → Goes s g (note (g.drawn + 1) f ∷ []) (record { drawn = g.drawn + 1; entries = g.entries ++ note (g.drawn + 1) f ∷ [] })
one_goes s g f room of_plan differs fits = record {
  entries = refl;
  numbered = (omega arith, inl refl, (λ l. ⊎_elim (λ (m : g.drawn < LAST_NUMBER). absurd (omega arith)) (λ d. d) room), (omega arith, λ l. absurd (omega arith)));
  of_plan = λ e i. ⊎_elim (λ (q : note (g.drawn + 1) f ≡ e). subst (λ (x : Noted). IsOfPlan (opened_at s) x.fact) q of_plan) (λ z. absurd z) i;
  differ = (differs, tt);
  fit = λ e i. ⊎_elim (λ (q : note (g.drawn + 1) f ≡ e). subst (λ (x : Noted). EntryFits s g.entries (g.entries ++ note (g.drawn + 1) f ∷ []) x.fact) q fits) (λ z. absurd z) i;
}

-- ---- and then more

numbered_append : (low mid high : ℕ) (xs ys : List Noted) → Numbered low xs mid → Numbered mid ys high → Numbered low (xs ++ ys) high
numbered_append low mid high [] [] a b = let l = a.0 in let m = b.0 in (omega arith, λ q. more q)
  where
    more : low < high → LAST_NUMBER ≤ low
    more q = elim (nat_lt low mid) as (λ c. (nat_lt low mid ≡ c) → LAST_NUMBER ≤ low) [ true ↦ λ e. a.1 (grind (arith, nat_tests)) | false ↦ λ e. let l = a.0 in let same : low ≡ mid = grind (arith, nat_tests) in let k = b.1 (omega arith) in omega arith ] refl
numbered_append low mid high [] (e ∷ ys) a b = let l = a.0 in let m = b.0 in (omega arith, next, b.2, b.3)
  where
    next : (e.number ≡ low + 1) ⊎ (LAST_NUMBER ≤ low)
    next = elim (nat_lt low mid) as (λ c. (nat_lt low mid ≡ c) → (e.number ≡ low + 1) ⊎ (LAST_NUMBER ≤ low)) [
      | true ↦ λ q. inr (a.1 (grind (arith, nat_tests)))
      | false ↦ λ q. let l = a.0 in let same : low ≡ mid = grind (arith, nat_tests) in ⊎_elim (λ (x : e.number ≡ mid + 1). let y : e.number ≡ low + 1 = omega arith in inl y) (λ (x : LAST_NUMBER ≤ mid). let y : LAST_NUMBER ≤ low = omega arith in inr y) b.1
    ] refl
numbered_append low mid high (x ∷ xs) ys a b = (a.0, a.1, a.2, numbered_append x.number mid high xs ys a.3 b)

no_write : (n : ℕ) (f : Fact) → writes_nothing f ≡ true → written_of n f ≡ None
no_write n (fact.Write row c) e = absurd (true≢false (sym e))
no_write n (fact.Change row c) e = refl
no_write n (fact.Ran row c) e = refl
no_write n (fact.Void row) e = refl
no_write n (fact.Disposed owner) e = refl
no_write n (fact.Edit pass index) e = refl

-- what writes nothing leaves the latest writes, and so all values by plain evaluation
latest_same : (s : Start) (es block : List Noted) → all_are writes_nothing block ≡ true → (n : ℕ) → latest_code s (es ++ block) n ≡ latest_code s es n
latest_same s es block none n = ap (λ (t : List Code). unwrap_or (last_or None t) (opening_code (opened_at s) n))
    (filter_map-append (λ (e : Noted). written_of n e.fact) es block ∙ (ap (λ (t : List Code). filter_map (λ (e : Noted). written_of n e.fact) es ++ t) (none_of writes_nothing (λ e. written_of n e.fact) (λ e t. no_write n e.fact t) block none) ∙ append_nil (filter_map (λ (e : Noted). written_of n e.fact) es)))

pub plain_same : (s : Start) (es block : List Noted) → all_are writes_nothing block ≡ true → (n : ℕ) → plain_code s (es ++ block) n ≡ plain_code s es n
plain_same s es block none n = λ i. plan_value s.plan.nodes (λ m. latest_same s es block none m i) n

fits_later : (s : Start) (es then now : List Noted) (f : Fact) → ((n : ℕ) → plain_code s now n ≡ plain_code s then n) → EntryFits s es then f → EntryFits s es now f
fits_later s es then now (fact.Write row code) same fit = tt
fits_later s es then now (fact.Change row code) same fit = fit ∙ sym (same row)
fits_later s es then now (fact.Ran row code) same fit = (fit.0 ∙ sym (same row), fit.1)
fits_later s es then now (fact.Void row) same fit = tt
fits_later s es then now (fact.Disposed owner) same fit = tt
fits_later s es then now (fact.Edit pass index) same fit = tt

live_before : (s : Start) (es more : List Noted) (row : ℕ) → IsLiveRow s (es ++ more) row → IsLiveRow s es row
live_before s es more row live = (live.0, live.1, λ d. live.2 (⊎_elim (λ (a : In live.0 (dead_of (opened_at s))). inl a) (λ (b : In live.0 (disposed_in es)). inr (disposed_more es more live.0 b)) d))

fits_before : (s : Start) (es more now : List Noted) (f : Fact) → EntryFits s (es ++ more) now f → EntryFits s es now f
fits_before s es more now (fact.Write row code) fit = tt
fits_before s es more now (fact.Change row code) fit = fit
fits_before s es more now (fact.Ran row code) fit = (fit.0, live_before s es more row fit.1)
fits_before s es more now (fact.Void row) fit = tt
fits_before s es more now (fact.Disposed owner) fit = tt
fits_before s es more now (fact.Edit pass index) fit = tt

pub goes_on : (s : Start) (g : Going) (first : List Noted) (h : Going) (second : List Noted) (k : Going) → Goes s g first h → Goes s h second k → all_are writes_nothing second ≡ true → Goes s g (first ++ second) k
goes_on s g first h second k a b none = record {
  entries = b.entries ∙ (ap (λ (t : List Noted). t ++ second) a.entries ∙ append_assoc' g.entries first second);
  numbered = numbered_append g.drawn h.drawn k.drawn first second a.numbered b.numbered;
  of_plan = λ e i. ⊎_elim (λ (x : In e first). a.of_plan e x) (λ (x : In e second). b.of_plan e x) (in_append first second e i);
  differ = differ_append (opened_at s) g.entries first second a.differ (subst (λ (t : List Noted). AllDiffer (opened_at s) t second) a.entries b.differ);
  fit = λ e i. ⊎_elim
      (λ (x : In e first). fits_later s g.entries h.entries k.entries e.fact (λ n. ap (λ (t : List Noted). plain_code s t n) b.entries ∙ plain_same s h.entries second none n) (a.fit e x))
      (λ (x : In e second). fits_before s g.entries first k.entries e.fact (subst (λ (t : List Noted). EntryFits s t k.entries e.fact) a.entries (b.fit e x)))
      (in_append first second e i);
}
