-- Lists that grow at their end.
use Rattle.std.proofs.Common.{◌≡◌, ℕ, ◌+◌, Bool, cond, List, [], ◌∷◌, ◌++◌, length, map, Some, slice_get, refl, sym, ap, subst, arith}
use Rattle.std.specs.List.{FoldsTo, AllByRecursion, All, count_by}
use Rattle.std.proofs.lemmas.List.Sums.{sum_by-append}
use Rattle.std.proofs.lemmas.Option.{slice_get_within, get_or_from_slice_get}

pub all_at : {X : Type 0} (P : X → Type 0) (xs : List X) (k : ℕ) (x : X) → All P xs → slice_get xs k ≡ Some x → P x
all_at P xs k x all at = subst P (get_or_from_slice_get xs k x x at) (all k x (slice_get_within xs k x at))

pub last_at : {X : Type 0} (xs : List X) (y : X) → slice_get (xs ++ y ∷ []) (length xs) ≡ Some y
last_at [] y = refl
last_at (x ∷ xs) y = last_at xs y

pub folds_last : {P A : Type 0} (R : P → A → P → Type 0) (p : P) (xs : List A) (y : A) (q r : P) → FoldsTo R p xs q → R q y r → FoldsTo R p (xs ++ y ∷ []) r
folds_last R p [] y q r e h = (r, subst (λ a. R a y r) (sym e) h, refl)
folds_last R p (x ∷ xs) y q r f h = (f.0, f.1, folds_last R f.0 xs y q r f.2 h)

pub each_last : {A : Type 0} (P : A → Type 0) (xs : List A) (y : A) → AllByRecursion P xs → P y → AllByRecursion P (xs ++ y ∷ [])
each_last P [] y all h = (h, tt)
each_last P (x ∷ xs) y all h = (all.0, each_last P xs y all.1 h)

pub map_last : {A B : Type 0} (f : A → B) (xs : List A) (y : A) → map f (xs ++ y ∷ []) ≡ map f xs ++ f y ∷ []
map_last f [] y = refl
map_last f (x ∷ xs) y = ap (λ (t : List _). f x ∷ t) (map_last f xs y)

pub count_cons : {X : Type 0} (p : X → Bool) (x : X) (xs : List X) → count_by p (x ∷ xs) ≡ cond (p x) 1 0 + count_by p xs
count_cons p x xs = let e = sum_by-append (λ y. cond (p y) 1 0) (x ∷ []) xs in omega arith
