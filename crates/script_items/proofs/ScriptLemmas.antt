-- A write to the last item of a list.
use Rattle.std.proofs.Common.{◌≡◌, ℕ, zero, suc, ◌+◌, List, [], ◌∷◌, length, get_or, set, ap, arith}
use Rattle.script_items.specs.Script.{at_last}

pub at_last-set : {A : Type 0} (f : A → A) (xs : List A) (n : ℕ) (x : A) → length xs ≡ n + 1 → x ≡ get_or xs n x → set xs n (f x) ≡ at_last f xs
at_last-set f [] n x l r = absurd (omega arith)
at_last-set f (y ∷ []) zero x l r = ap (λ z. f z ∷ []) r
at_last-set f (y ∷ []) (suc n) x l r = absurd (omega arith)
at_last-set f (y ∷ z ∷ zs) zero x l r = absurd (omega arith)
at_last-set f (y ∷ z ∷ zs) (suc n) x l r = ap (λ w. y ∷ w) (at_last-set f (z ∷ zs) n x (omega arith) r)

pub length-at_last : {A : Type 0} (f : A → A) (xs : List A) → length (at_last f xs) ≡ length xs
length-at_last f [] = omega arith
length-at_last f (x ∷ []) = omega arith
length-at_last f (x ∷ y ∷ ys) = omega (arith, length-at_last f (y ∷ ys))
