-- The phases of a journal by their numbers.
use Rattle.std.proofs.Common.{◌≡◌, ℕ, zero, suc, ◌-◌, ◌≤◌, List, [], ◌∷◌, ◌++◌, map, length, Option, Some, None, slice_get, refl, ap, ◌∙◌, arith}
use Rattle.std.specs.Option.{option_map}
use Rattle.script_items.specs.Script.{numbered}

map_at : {A B : Type 0} (f : A → B) (xs : List A) (n : ℕ) → option_map f (slice_get xs n) ≡ slice_get (map f xs) n
map_at f [] n = refl
map_at f (x ∷ xs) zero = refl
map_at f (x ∷ xs) (suc n) = map_at f xs n

pub kept_is : {A B : Type 0} (f : A → B) (xs : List A) (place phase : ℕ) (o : Option A) → 1 ≤ phase → place ≡ phase - 1 → o ≡ slice_get xs place → option_map f o ≡ numbered (map f xs) phase
kept_is f xs place zero o some is got = absurd (omega arith)
kept_is f xs place (suc n) o some is got =
    let same : place ≡ n = omega arith in
    ap (option_map f) (got ∙ ap (slice_get xs) same) ∙ map_at f xs n

length_map : {A B : Type 0} (f : A → B) (xs : List A) → length (map f xs) ≡ length xs
length_map f [] = refl
length_map f (x ∷ xs) = ap suc (length_map f xs)

end_at : {A : Type 0} (xs : List A) (x : A) → (length (xs ++ x ∷ []) ≡ suc (length xs)) × (slice_get (xs ++ x ∷ []) (length xs) ≡ Some x)
end_at [] x = (refl, refl)
end_at (y ∷ xs) x = let rest = end_at xs x in (ap suc rest.0, rest.1)

got_of : {A B : Type 0} (f : A → B) (o : Option A) (y : B) → option_map f o ≡ Some y → (x : A) × (o ≡ Some x) × (f x ≡ y)
got_of f None y is = cc
got_of f (Some x) y is = (x, refl, cc)

-- the last of a list
pub last_is : {A B : Type 0} (f : A → B) (xs : List A) (o : Option A) (earlier : List B) (y : B) → map f xs ≡ earlier ++ y ∷ [] → o ≡ slice_get xs (length xs - 1) → (x : A) × (o ≡ Some x) × (f x ≡ y)
last_is f xs o earlier y is got = got_of f o y (
    ap (option_map f) got
    ∙ map_at f xs (length xs - 1)
    ∙ (λ i. slice_get (is i) (place i))
    ∙ (end_at earlier y).1)
  where
    place : length xs - 1 ≡ length earlier
    place = let a = length_map f xs in let b : length (map f xs) ≡ length (earlier ++ y ∷ []) = ap length is in let d = (end_at earlier y).0 in omega arith
