-- A list of which the first items are changed, each by its place.
use Rattle.std.proofs.Common.{◌≡◌, ℕ, zero, suc, ◌+◌, ◌<◌, List, [], ◌∷◌, map, length, get_or, set, Some, slice_get, refl, sym, ap, ◌∙◌, arith}

abbrev pub upto : {A : Type 0} → (ℕ → A → A) → ℕ → ℕ → List A → List A
upto change first zero xs = xs
upto change first (suc count) [] = []
upto change first (suc count) (x ∷ xs) = change first x ∷ upto change (suc first) count xs

abbrev pub whole : {A : Type 0} → (ℕ → A → A) → ℕ → List A → List A
whole change first [] = []
whole change first (x ∷ xs) = change first x ∷ whole change (suc first) xs

pub upto_long : {A : Type 0} (change : ℕ → A → A) (first count : ℕ) (xs : List A) → length (upto change first count xs) ≡ length xs
upto_long change first zero xs = refl
upto_long change first (suc count) [] = refl
upto_long change first (suc count) (x ∷ xs) = ap suc (upto_long change (suc first) count xs)

-- the next item is as it was
pub upto_next : {A : Type 0} (change : ℕ → A → A) (first count : ℕ) (xs : List A) (none : A) → get_or (upto change first count xs) count none ≡ get_or xs count none
upto_next change first zero xs none = refl
upto_next change first (suc count) [] none = refl
upto_next change first (suc count) (x ∷ xs) none = upto_next change (suc first) count xs none

pub upto_got : {A : Type 0} (change : ℕ → A → A) (first count : ℕ) (xs : List A) → slice_get (upto change first count xs) count ≡ slice_get xs count
upto_got change first zero xs = refl
upto_got change first (suc count) [] = refl
upto_got change first (suc count) (x ∷ xs) = upto_got change (suc first) count xs

-- one more
pub upto_more : {A : Type 0} (change : ℕ → A → A) (first count : ℕ) (xs : List A) (x : A) → slice_get xs count ≡ Some x → set (upto change first count xs) count (change (first + count) x) ≡ upto change first (suc count) xs
upto_more change first count [] x is = cc
upto_more change first zero (y ∷ xs) x is =
    let same : y ≡ x = cc in
    let here : first + 0 ≡ first = omega arith in
    λ i. change (here i) (sym same i) ∷ xs
upto_more change first (suc count) (y ∷ xs) x is =
    let here : first + suc count ≡ suc first + count = omega arith in
    (λ i. change first y ∷ set (upto change (suc first) count xs) count (change (here i) x)) ∙ ap (λ more. change first y ∷ more) (upto_more change (suc first) count xs x is)

pub upto_all : {A : Type 0} (change : ℕ → A → A) (first : ℕ) (xs : List A) → upto change first (length xs) xs ≡ whole change first xs
upto_all change first [] = refl
upto_all change first (x ∷ xs) = ap (λ more. change first x ∷ more) (upto_all change (suc first) xs)

pub whole-map : {A : Type 0} (change : A → A) (first : ℕ) (xs : List A) → whole (λ n x. change x) first xs ≡ map change xs
whole-map change first [] = refl
whole-map change first (x ∷ xs) = ap (λ more. change x ∷ more) (whole-map change (suc first) xs)

pub got_set : {A : Type 0} (xs : List A) (n : ℕ) (x : A) → n < length xs → slice_get (set xs n x) n ≡ Some x
got_set [] n x lt = absurd (omega arith)
got_set (y ∷ xs) zero x lt = refl
got_set (y ∷ xs) (suc n) x lt = got_set xs n x (omega arith)

pub set_got : {A : Type 0} (xs : List A) (n : ℕ) (x : A) → slice_get xs n ≡ Some x → set xs n x ≡ xs
set_got [] n x is = refl
set_got (y ∷ xs) zero x is = let same : y ≡ x = cc in ap (λ z. z ∷ xs) (sym same)
set_got (y ∷ xs) (suc n) x is = ap (λ more. y ∷ more) (set_got xs n x is)
