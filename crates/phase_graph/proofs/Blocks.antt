-- What was noted behind what stood.
use Rattle.std.proofs.Common.{◌≡◌, ◌⊎◌, inl, inr, ⊎_elim, ℕ, zero, suc, ◌+◌, ◌<◌, ◌≤◌, cond, Bool, true, false, Option, Some, None, List, [], ◌∷◌, ◌++◌, drop, length, slice_get, refl, sym, ap, subst, ◌∙◌, arith}
use Rattle.std.specs.Prelude.{nat_lt, filter_map, ◌&&◌}
use Rattle.std.specs.List.{last_or, list_all, cons_option}
use Rattle.std.proofs.lemmas.Bool.Decides.{nat_tests}
use Rattle.std.proofs.lemmas.List.Elements.{filter_map-append}
use Rattle.std.proofs.lemmas.List.Sums.{sum_by-append}
use Rattle.values.specs.declared.plan.Noted.{Noted}
use Rattle.values.specs.declared.plan.Fact.{Fact}
use Rattle.run_items.specs.declared.limits.TheConstants.{LAST_NUMBER}
use Rattle.run_meaning.specs.Words.{In}
use Rattle.run_history.specs.Going.{Numbered, all_are, is_edit_by, edits_by}
use Rattle.run_history.proofs.Lists.{in_append, append_nil}
use Rattle.run_history.proofs.Disposals.{in_all}

-- a list that begins with another is that one and the rest
pub front_and_rest : {A : Type 0} (xs ys : List A) → ((k : ℕ) (x : A) → slice_get xs k ≡ Some x → slice_get ys k ≡ Some x) → ys ≡ xs ++ drop (length xs) ys
front_and_rest [] ys f = refl
front_and_rest (x ∷ xs) [] f = let e = f zero x refl in cc
front_and_rest (x ∷ xs) (y ∷ ys) f =
    let e : Some y ≡ Some x = f zero x refl in
    let same : y ≡ x = cc in
    rw same (ap (λ (t : List _). x ∷ t) (front_and_rest xs ys (λ k z at. f (suc k) z at)))

pub in_at : {A : Type 0} (ys : List A) (x : A) → In x ys → (k : ℕ) × (slice_get ys k ≡ Some x)
in_at [] x i = absurd i
in_at (y ∷ ys) x (inl e) = (zero, ap (λ (q : _). Some q) e)
in_at (y ∷ ys) x (inr t) = let r = in_at ys x t in (suc r.0, r.1)

pub at_in : {A : Type 0} (ys : List A) (k : ℕ) (x : A) → slice_get ys k ≡ Some x → In x ys
at_in [] k x e = cc
at_in (y ∷ ys) zero x e = let same : y ≡ x = cc in inl same
at_in (y ∷ ys) (suc k) x e = inr (at_in ys k x e)

-- an element of the rest stands behind the front
pub in_rest : {A : Type 0} (n : ℕ) (ys : List A) (x : A) → In x (drop n ys) → (k : ℕ) × (n ≤ k) × (slice_get ys k ≡ Some x)
in_rest zero ys x i = let r = in_at ys x i in (r.0, (omega arith), r.1)
in_rest (suc n) [] x i = absurd i
in_rest (suc n) (y ∷ ys) x i = let r = in_rest n ys x i in let l = r.1 in (suc r.0, (omega arith), r.2)

pub rest_in : {A : Type 0} (n : ℕ) (ys : List A) (k : ℕ) (x : A) → n ≤ k → slice_get ys k ≡ Some x → In x (drop n ys)
rest_in zero ys k x l e = at_in ys k x e
rest_in (suc n) [] k x l e = cc
rest_in (suc n) (y ∷ ys) zero x l e = absurd (omega arith)
rest_in (suc n) (y ∷ ys) (suc k) x l e = rest_in n ys k x (omega arith) e

pub rest_at : {A : Type 0} (n : ℕ) (ys : List A) (j k : ℕ) → k ≡ n + j → slice_get (drop n ys) j ≡ slice_get ys k
rest_at zero ys j k e = let same : j ≡ k = omega arith in ap (slice_get ys) same
rest_at (suc n) [] j k e = refl
rest_at (suc n) (y ∷ ys) j zero e = absurd (omega arith)
rest_at (suc n) (y ∷ ys) j (suc k) e = rest_at n ys j k (omega arith)

pub none_in : {A : Type 0} (ys : List A) → ((x : A) → In x ys → ⊥) → ys ≡ []
none_in [] never = refl
none_in (y ∷ ys) never = absurd (never y (inl refl))

-- numbers one after another
pub numbered_block : (low : ℕ) (ys : List Noted) (high : ℕ) → high ≡ low + length ys → high ≤ 65536 → ((j : ℕ) (e : Noted) → slice_get ys j ≡ Some e → e.number ≡ low + (j + 1)) → Numbered low ys high
numbered_block low [] high e few each = (omega arith, λ l. absurd (omega arith))
numbered_block low (y ∷ ys) high e few each =
    let n = each zero y refl in
    (omega arith, inl (omega arith), (λ l. absurd (omega arith)), numbered_block y.number ys high (omega arith) few (λ j x at. let m = each (suc j) x at in omega arith))

-- so many more were drawn, and nothing is noted of them
pub numbered_higher : (low : ℕ) (es : List Noted) (mid high : ℕ) → Numbered low es mid → mid ≤ high → (mid < high → 65536 ≤ mid) → Numbered low es high
numbered_higher low [] mid high a l full = let b = a.0 in (omega arith, more)
  where
    more : low < high → LAST_NUMBER ≤ low
    more q = elim (nat_lt low mid) as (λ c. (nat_lt low mid ≡ c) → LAST_NUMBER ≤ low) [ true ↦ λ e. a.1 (grind (arith, nat_tests)) | false ↦ λ e. let l = a.0 in let same : low ≡ mid = grind (arith, nat_tests) in let k = full (omega arith) in omega arith ] refl
numbered_higher low (e ∷ es) mid high a l full = (a.0, a.1, a.2, numbered_higher e.number es mid high a.3 l full)

pub numbered_append : (low mid high : ℕ) (xs ys : List Noted) → Numbered low xs mid → Numbered mid ys high → Numbered low (xs ++ ys) high
numbered_append low mid high [] [] a b = numbered_higher low [] mid high a b.0 b.1
numbered_append low mid high [] (e ∷ ys) a b = let l = a.0 in let m = b.0 in (omega arith, next, b.2, b.3)
  where
    next : (e.number ≡ low + 1) ⊎ (LAST_NUMBER ≤ low)
    next = elim (nat_lt low mid) as (λ c. (nat_lt low mid ≡ c) → (e.number ≡ low + 1) ⊎ (LAST_NUMBER ≤ low)) [
      | true ↦ λ q. inr (a.1 (grind (arith, nat_tests)))
      | false ↦ λ q. let l = a.0 in let same : low ≡ mid = grind (arith, nat_tests) in ⊎_elim (λ (x : e.number ≡ mid + 1). let y : e.number ≡ low + 1 = omega arith in inl y) (λ (x : LAST_NUMBER ≤ mid). let y : LAST_NUMBER ≤ low = omega arith in inr y) b.1
    ] refl
numbered_append low mid high (x ∷ xs) ys a b = (a.0, a.1, a.2, numbered_append x.number mid high xs ys a.3 b)

-- ---- the last of a kind

module _ {X : Type 0} (h : Noted → Option X) where
  last_append : (r : Option X) (xs ys : List X) → last_or r (xs ++ ys) ≡ last_or (last_or r xs) ys
  last_append r [] ys = refl
  last_append r (x ∷ xs) ys = last_append (Some x) xs ys

  none_of : (block : List Noted) → ((e : Noted) → In e block → h e ≡ None) → filter_map h block ≡ []
  none_of [] none = refl
  none_of (e ∷ es) none = ap (λ (o : Option X). cons_option o (filter_map h es)) (none e (inl refl)) ∙ none_of es (λ d i. none d (inr i))

  -- what is of no such kind changes nothing
  pub last_same : (es block : List Noted) → ((e : Noted) → In e block → h e ≡ None) → last_or None (filter_map h (es ++ block)) ≡ last_or None (filter_map h es)
  last_same es block none = ap (last_or None) (filter_map-append h es block ∙ (ap (λ (t : List X). filter_map h es ++ t) (none_of block none) ∙ append_nil (filter_map h es)))

  only : (r : Option X) (block : List Noted) (x : X) → ((e : Noted) → In e block → (h e ≡ None) ⊎ (h e ≡ Some x)) → (last_or r (filter_map h block) ≡ r) ⊎ (last_or r (filter_map h block) ≡ Some x)
  only r [] x all = inl refl
  only r (e ∷ es) x all = ⊎_elim
      (λ (n : h e ≡ None). subst (λ (o : Option X). (last_or r (cons_option o (filter_map h es)) ≡ r) ⊎ (last_or r (cons_option o (filter_map h es)) ≡ Some x)) (sym n) (only r es x (λ d i. all d (inr i))))
      (λ (y : h e ≡ Some x). subst (λ (o : Option X). (last_or r (cons_option o (filter_map h es)) ≡ r) ⊎ (last_or r (cons_option o (filter_map h es)) ≡ Some x)) (sym y)
      (⊎_elim (λ (a : last_or (Some x) (filter_map h es) ≡ Some x). inr a) (λ (a : last_or (Some x) (filter_map h es) ≡ Some x). inr a) (only (Some x) es x (λ d i. all d (inr i)))))
      (all e (inl refl))

  found : (r : Option X) (block : List Noted) (e : Noted) (x : X) → In e block → h e ≡ Some x → ((d : Noted) → In d block → (h d ≡ None) ⊎ (h d ≡ Some x)) → last_or r (filter_map h block) ≡ Some x
  found r [] e x i y all = absurd i
  found r (d ∷ ds) e x (inl same) y all = subst (λ (o : Option X). last_or r (cons_option o (filter_map h ds)) ≡ Some x) (sym (ap h same ∙ y))
      (⊎_elim (λ (a : last_or (Some x) (filter_map h ds) ≡ Some x). a) (λ (a : last_or (Some x) (filter_map h ds) ≡ Some x). a) (only (Some x) ds x (λ b i. all b (inr i))))
  found r (d ∷ ds) e x (inr i) y all = ⊎_elim
      (λ (n : h d ≡ None). subst (λ (o : Option X). last_or r (cons_option o (filter_map h ds)) ≡ Some x) (sym n) (found r ds e x i y (λ b j. all b (inr j))))
      (λ (z : h d ≡ Some x). subst (λ (o : Option X). last_or r (cons_option o (filter_map h ds)) ≡ Some x) (sym z) (found (Some x) ds e x i y (λ b j. all b (inr j))))
      (all d (inl refl))

  -- where one of the block is of the kind, and no other differs from it, it is the last
  pub last_is : (es block : List Noted) (e : Noted) (x : X) → In e block → h e ≡ Some x → ((d : Noted) → In d block → (h d ≡ None) ⊎ (h d ≡ Some x)) → last_or None (filter_map h (es ++ block)) ≡ Some x
  last_is es block e x i y all = ap (last_or None) (filter_map-append h es block) ∙ (last_append None (filter_map h es) (filter_map h block) ∙ found (last_or None (filter_map h es)) block e x i y all)

pub all_from_in : (test : Fact → Bool) (block : List Noted) → ((e : Noted) → In e block → test e.fact ≡ true) → all_are test block ≡ true
all_from_in test [] each = refl
all_from_in test (e ∷ es) each = ap (λ (b : Bool). b && list_all (λ (x : Noted). test x.fact) es) (each e (inl refl)) ∙ all_from_in test es (λ d i. each d (inr i))

-- where no more edits are noted, there are as many as before
pub edits_append : (pass : ℕ) (es block : List Noted) → edits_by pass (es ++ block) ≡ edits_by pass es + edits_by pass block
edits_append pass es block = sum_by-append (λ (e : Noted). cond (is_edit_by pass e.fact) 1 0) es block

pub edits_more : (pass : ℕ) (es block : List Noted) → edits_by pass block ≡ 0 → edits_by pass (es ++ block) ≡ edits_by pass es
edits_more pass es block none = let a = edits_append pass es block in omega arith

pub all_append : (test : Fact → Bool) (xs ys : List Noted) → all_are test xs ≡ true → all_are test ys ≡ true → all_are test (xs ++ ys) ≡ true
all_append test xs ys a b = all_from_in test (xs ++ ys) (λ e i. ⊎_elim (λ (x : In e xs). in_all test xs e a x) (λ (y : In e ys). in_all test ys e b y) (in_append xs ys e i))
