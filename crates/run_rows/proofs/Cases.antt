-- What holds of each of a few things that are listed holds wherever it is asked.
use Rattle.std.proofs.Common.{◌≡◌, ℕ, zero, suc, ◌+◌, ◌≤◌, ◌==◌, Bool, true, false, if◌then◌else◌, Option, Some, List, [], ◌∷◌, refl, sym, ap, ◌∙◌, subst, ⊎_elim, arith}
use Rattle.std.specs.List.{AllByRecursion}
use Rattle.std.proofs.lemmas.Bool.{eqb-true}
use Rattle.std.proofs.lemmas.Option.{none-some}
use Rattle.values.specs.declared.plan.Fact.{Fact}
use Rattle.values.specs.declared.plan.Kind.{Kind}
use Rattle.values.specs.declared.plan.Kind.TheVariants as kind
use Rattle.values.specs.declared.plan.Noted.{Noted}
use Rattle.values.specs.declared.plan.PlanNode.{PlanNode}
use Rattle.std.specs.Prelude.{slice_get}
use Rattle.run_meaning.specs.Words.{In, times}
use Rattle.run_meaning.specs.Entries.{fact_at}

pub all_in : {A : Type 0} (P : A → Type 0) (xs : List A) → AllByRecursion P xs → (x : A) → In x xs → P x
all_in P [] a x i = absurd i
all_in P (y ∷ ys) a x i = ⊎_elim (λ (e : y ≡ x). subst P e a.0) (λ j. all_in P ys a.1 x j) i

-- the entries of a phase, by their numbers
fact_by : (P : ℕ → Fact → Type 0) (b : Bool) (k n : ℕ) (f g : Fact) (rest : Option Fact) → (b ≡ true → k ≡ n) → P n f → (rest ≡ Some g → P k g)
    → (if b then Some f else rest) ≡ Some g → P k g
fact_by P true k n f g rest is p q e = let at : P n g = subst (P n) (cc) p in subst (λ (m : ℕ). P m g) (sym (is refl)) at
fact_by P false k n f g rest is p q e = q e

pub fact_in : (P : ℕ → Fact → Type 0) (es : List Noted) → AllByRecursion (λ e. P e.number e.fact) es → (k : ℕ) (f : Fact) → fact_at k es ≡ Some f → P k f
fact_in P [] a k f e = absurd (none-some _ e)
fact_in P (x ∷ xs) a k f e = fact_by P (k == x.number) k x.number x.fact f (fact_at k xs) (eqb-true k x.number) a.0 (fact_in P xs a.1 k f) e

-- the effects of a plan
abbrev pub OnEffect : Type 0 → Kind → Type 0
OnEffect P kind.Signal = Unit {0}
OnEffect P kind.Field = Unit {0}
OnEffect P kind.Load = Unit {0}
OnEffect P kind.Memo = Unit {0}
OnEffect P kind.Effect = P

abbrev pub EachEffect : (ℕ → Type 0) → List PlanNode → Type 0
EachEffect P [] = Unit {0}
EachEffect P (x ∷ xs) = OnEffect (P 0) x.kind × EachEffect (λ n. P (suc n)) xs

pub effect_in : (P : ℕ → Type 0) (nodes : List PlanNode) → EachEffect P nodes → (n : ℕ) → ((node : PlanNode) × (slice_get nodes n ≡ Some node) × (node.kind ≡ kind.Effect)) → P n
effect_in P [] a n k = absurd (none-some _ k.1)
effect_in P (x ∷ xs) a zero k = subst (OnEffect (P 0)) (let e : x ≡ k.0 = cc in ap (λ (y : PlanNode). y.kind) e ∙ k.2) a.0
effect_in P (x ∷ xs) a (suc n) k = effect_in (λ m. P (suc m)) xs a.1 n k

-- a number stands at most once in a list of one
at_most : (b : Bool) → 0 + (if b then 1 else 0) ≤ 1
at_most true = omega arith
at_most false = omega arith

pub once_in_one : (n m : ℕ) → times n (m ∷ []) ≤ 1
once_in_one n m = at_most (n == m)
