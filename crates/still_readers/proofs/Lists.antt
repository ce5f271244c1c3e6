-- Elements by place.
use Rattle.std.proofs.Common.{Result, Ok, Err, OnOk, ◌≡◌, ℕ, zero, suc, ◌<◌, ◌⊎◌, inl, inr, Bool, true, false, ◌==◌, List, [], ◌∷◌, ◌++◌, slice_get, length, replicate, Option, Some, set, refl, ap, sym, subst, ◌∙◌, arith}

pub within_at : {A : Type 0} (xs : List A) (i : ℕ) → i < length xs → (x : A) × (slice_get xs i ≡ Some x)
within_at [] i h = absurd (omega arith)
within_at (x ∷ xs) zero h = (x, refl)
within_at (x ∷ xs) (suc i) h = within_at xs i (omega arith)

pub at_within : {A : Type 0} (xs : List A) (i : ℕ) (x : A) → slice_get xs i ≡ Some x → i < length xs
at_within [] i x h = cc
at_within (y ∷ xs) zero x h = omega arith
at_within (y ∷ xs) (suc i) x h = let r = at_within xs i x h in omega arith

pub set_here : {A : Type 0} (xs : List A) (i : ℕ) (x y : A) → slice_get xs i ≡ Some x → slice_get (set xs i y) i ≡ Some y
set_here [] i x y h = cc
set_here (z ∷ xs) zero x y h = refl
set_here (z ∷ xs) (suc i) x y h = set_here xs i x y h

pub set_other : {A : Type 0} (xs : List A) (i j : ℕ) (y : A) → (j ≡ i → ⊥) → slice_get (set xs i y) j ≡ slice_get xs j
set_other [] i j y n = refl
set_other (x ∷ xs) zero zero y n = absurd (n refl)
set_other (x ∷ xs) zero (suc j) y n = refl
set_other (x ∷ xs) (suc i) zero y n = refl
set_other (x ∷ xs) (suc i) (suc j) y n = set_other xs i j y (λ e. n (ap suc e))

-- where two things stand at one place, they are the same
pub one_at : {A : Type 0} {o : Option A} (x y : A) → o ≡ Some x → o ≡ Some y → x ≡ y
one_at x y h k = cc

-- what stands in a list with one element put into it
pub which : {A : Type 0} (xs : List A) (m : ℕ) (y0 y : A) (r : ℕ) (z : A) → slice_get xs m ≡ Some y0 → slice_get (set xs m y) r ≡ Some z → ((r ≡ m) × (z ≡ y)) ⊎ ((r ≡ m → ⊥) × (slice_get xs r ≡ Some z))
which {A} xs m y0 y r z here at = by (r == m) refl
  where
    by : (b : Bool) → (r == m) ≡ b → ((r ≡ m) × (z ≡ y)) ⊎ ((r ≡ m → ⊥) × (slice_get xs r ≡ Some z))
    by true is = let same : r ≡ m = grind arith in inl (same, one_at z y at (subst (λ (i : ℕ). slice_get (set xs m y) i ≡ Some y) (sym same) (set_here xs m y0 y here)))
    by false is = let other : r ≡ m → ⊥ = (λ e. grind (arith, e, is)) in inr (other, sym (set_other xs m r y other) ∙ at)

pub either : (a b : ℕ) (P : Type 0) → (a ≡ b → P) → ((a ≡ b → ⊥) → P) → P
either a b P here there = by (a == b) refl
  where
    by : (k : Bool) → (a == b) ≡ k → P
    by true is = here (grind arith)
    by false is = there (λ e. grind (arith, e, is))

pub snoc_at : {A : Type 0} (xs : List A) (x : A) (k : ℕ) (z : A) → slice_get (xs ++ x ∷ []) k ≡ Some z → (slice_get xs k ≡ Some z) ⊎ ((k ≡ length xs) × (z ≡ x))
snoc_at [] x zero z h = inr (refl, cc)
snoc_at [] x (suc k) z h = cc
snoc_at (y ∷ xs) x zero z h = inl h
snoc_at (y ∷ xs) x (suc k) z h = elim (snoc_at xs x k z h) [ inl e ↦ inl e | inr p ↦ inr (ap suc p.0, p.1) ]

pub length_more : {A : Type 0} (xs : List A) (x : A) → length (xs ++ x ∷ []) ≡ suc (length xs)
length_more [] x = refl
length_more (y ∷ xs) x = ap suc (length_more xs x)

pub at_front : {A : Type 0} (xs ys : List A) (k : ℕ) (x : A) → slice_get xs k ≡ Some x → slice_get (xs ++ ys) k ≡ Some x
at_front [] ys k x h = cc
at_front (y ∷ xs) ys zero x h = h
at_front (y ∷ xs) ys (suc k) x h = at_front xs ys k x h

pub at_last : {A : Type 0} (xs : List A) (x : A) → slice_get (xs ++ x ∷ []) (length xs) ≡ Some x
at_last [] x = refl
at_last (y ∷ xs) x = at_last xs x

pub in_front : {A : Type 0} (xs : List A) (x : A) (k : ℕ) (z : A) → k < length xs → slice_get (xs ++ x ∷ []) k ≡ Some z → slice_get xs k ≡ Some z
in_front xs x k z l e = elim (snoc_at xs x k z e) [ inl h ↦ h | inr p ↦ (let q = p.0 in absurd (omega arith)) ]

pub replicate_at : {A : Type 0} (n : ℕ) (x : A) (k : ℕ) (z : A) → slice_get (replicate n x) k ≡ Some z → z ≡ x
replicate_at zero x k z h = cc
replicate_at (suc n) x zero z h = cc
replicate_at (suc n) x (suc k) z h = replicate_at n x k z h

pub not_both : (b : Bool) → b ≡ true → b ≡ false → ⊥
not_both b h k = cc

-- what holds where a result is Ok
pub on_ok : {A E : Type 0} {P Q : Type 0} (r : Result A E) → (P → Q) → OnOk r P → OnOk r Q
on_ok (Ok a) f h = f h
on_ok (Err e) f h = h

pub both_ok : {A E : Type 0} {P Q R : Type 0} (r : Result A E) → (P → Q → R) → OnOk r P → OnOk r Q → OnOk r R
both_ok (Ok a) f h k = f h k
both_ok (Err e) f h k = h
