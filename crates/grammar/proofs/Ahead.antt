-- Tokens with the next one: what stands where.
use Rattle.std.proofs.Common.{◌≡◌, ℕ, zero, suc, List, [], ◌∷◌, ◌++◌, map, length, slice_get, Some, refl, ap}
use Rattle.grammar.specs.Ahead.{WithNext, with_next}

pub tokens : {A : Type 0} (xs : List A) → map (λ (one : WithNext A). one.token) (with_next xs) ≡ xs
tokens [] = refl
tokens (x ∷ xs) = ap (λ l. x ∷ l) (tokens xs)

pub next_at : {A : Type 0} (xs : List A) (i : ℕ) (x y : A) → slice_get xs i ≡ Some x → slice_get xs (suc i) ≡ Some y
    → slice_get (with_next xs) i ≡ Some (record { token = x; next = y })
next_at [] i x y e f = cc
next_at (z ∷ []) zero x y e f = cc
next_at (z ∷ u ∷ xs) zero x y e f = let one : z ≡ x = cc in let other : u ≡ y = cc in cc
next_at (z ∷ xs) (suc i) x y e f = next_at xs i x y e f

pub last_at : {A : Type 0} (before : List A) (x : A) → slice_get (with_next (before ++ x ∷ [])) (length before) ≡ Some (record { token = x; next = x })
last_at [] x = refl
last_at (z ∷ before) x = last_at before x
