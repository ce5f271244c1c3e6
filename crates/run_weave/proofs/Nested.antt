-- An area with another in it is disposed from the inside.
use Rattle.std.proofs.Common.{◌≡◌, ℕ, ◌<◌, true, List, [], ◌∷◌, length, sym, refl, ap, ◌∙◌, subst, inl, inr, ⊎_elim, arith}
use Rattle.std.proofs.lemmas.Bool.{true≢false}
use Rattle.values.specs.declared.plan.Fact.{Fact}
use Rattle.values.specs.declared.plan.Fact.TheVariants as fact
use Rattle.values.specs.declared.plan.Noted.{Noted}
use Rattle.run_meaning.specs.Words.{In}
use Rattle.run_meaning.specs.Entries.{is_disposal, disposed_in}
use Rattle.run_history.specs.Going.{start_of, Going, just_opened, note, Numbered, all_are}
use Rattle.run_history.specs.Calls.{FallsFrom, CallsLead}
use Rattle.run_history.proofs.Totals.{and_left, and_right}
use Rattle.run_weave.specs.Worked.{nested_opened, nested_calls}

disposal_is : (f : Fact) → is_disposal f ≡ true → (n : ℕ) × (f ≡ fact.Disposed n)
disposal_is (fact.Write row c) e = absurd (true≢false (sym e))
disposal_is (fact.Change row c) e = absurd (true≢false (sym e))
disposal_is (fact.Ran row c) e = absurd (true≢false (sym e))
disposal_is (fact.Void row) e = absurd (true≢false (sym e))
disposal_is (fact.Disposed owner) e = (owner, refl)
disposal_is (fact.Edit pass index) e = absurd (true≢false (sym e))

abbrev both : ℕ → ℕ → ℕ → ℕ → List Noted
both m n a b = note m (fact.Disposed a) ∷ note n (fact.Disposed b) ∷ []

-- owners 1 and 2 alone, falling, and numbers from 1
two_owners : (m n a b high : ℕ) → FallsFrom 3 (disposed_in (both m n a b)) → ((x : ℕ) → In x (disposed_in (both m n a b)) → In x (1 ∷ 2 ∷ [])) → Numbered 0 (both m n a b) high → high ≡ 2 → both m n a b ≡ both 1 2 2 1
two_owners m n a b high falls inside num end =
    let low : b < a = falls.1.0 in
    let one = inside b (inr (inl refl)) in
    let two = inside a (inl refl) in
    let b_is : b ≡ 1 = ⊎_elim (λ (e : 1 ≡ b). sym e) (λ t. ⊎_elim (λ (e : 2 ≡ b). let l = falls.0 in absurd (omega arith)) (λ z. absurd z) t) one in
    let a_is : a ≡ 2 = ⊎_elim (λ (e : 1 ≡ a). absurd (omega arith)) (λ t. ⊎_elim (λ (e : 2 ≡ a). sym e) (λ z. absurd z) t) two in
    let l1 = num.0 in let l2 = num.3.0 in let l3 = num.3.3.0 in
    let m_is : m ≡ 1 = omega arith in
    let n_is : n ≡ 2 = omega arith in
    (λ i. both (m_is i) (n_is i) (a_is i) (b_is i))

from_inside : (block : List Noted) (high : ℕ) → all_are is_disposal block ≡ true → length block ≡ 2 → FallsFrom 3 (disposed_in block) → ((x : ℕ) → In x (disposed_in block) → In x (1 ∷ 2 ∷ [])) → Numbered 0 block high → high ≡ 2 → block ≡ both 1 2 2 1
from_inside [] high all len falls inside num end = absurd (omega arith)
from_inside (x ∷ []) high all len falls inside num end = absurd (omega arith)
from_inside (x ∷ y ∷ z ∷ rest) high all len falls inside num end = absurd (omega arith)
from_inside (x ∷ y ∷ []) high all len falls inside num end =
    let a = disposal_is x.fact (and_left (is_disposal x.fact) (all_are is_disposal (y ∷ [])) all) in
    let b = disposal_is y.fact (and_left (is_disposal y.fact) true (and_right (is_disposal x.fact) (all_are is_disposal (y ∷ [])) all)) in
    let same : x ∷ y ∷ [] ≡ both x.number y.number a.0 b.0 = λ i. note x.number (a.1 i) ∷ note y.number (b.1 i) ∷ [] in
    same ∙ two_owners x.number y.number a.0 b.0 high
    (subst (λ (t : List Noted). FallsFrom 3 (disposed_in t)) same falls)
    (λ n i. inside n (subst (λ (t : List Noted). In n (disposed_in t)) (sym same) i))
    (subst (λ (t : List Noted). Numbered 0 t high) same num) end

pub nested : (k : Going) → CallsLead (start_of [] nested_opened) just_opened nested_calls k → k.entries ≡ note 1 (fact.Disposed 2) ∷ note 2 (fact.Disposed 1) ∷ []
nested k f =
    let block : List Noted = f.1.0 in
    let goes = f.1.1.0 in
    let says = f.1.1.1 in
    ap (λ (x : Going). x.entries) (sym f.2) ∙ (goes.entries ∙ from_inside block f.0.drawn says.disposals says.now says.falls (λ n i. (says.of_area n i).0) goes.numbered says.draws)
