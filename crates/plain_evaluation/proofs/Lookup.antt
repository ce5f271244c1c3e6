-- A table by id, whose ids are numbered, gives each id its own.
use Rattle.std.proofs.Common.{◌≡◌, ℕ, suc, ◌+◌, ◌<◌, ◌==◌, if◌then◌else◌, Bool, true, false, List, [], ◌∷◌, ◌++◌, map, length, refl, sym, ap, ◌∙◌, arith}
use Rattle.std.specs.List.{range_with_len}
use Rattle.std.proofs.lemmas.List.{map-append}
use Rattle.plain_evaluation.specs.Lookup.{found_in}

abbrev pub ids_of : {A : Type 0} → List (ℕ × A) → List ℕ
ids_of pairs = map (λ p. p.0) pairs

pub ids_of-append : {A : Type 0} (xs ys : List (ℕ × A)) → ids_of (xs ++ ys) ≡ ids_of xs ++ ids_of ys
ids_of-append xs ys = map-append (λ p. p.0) xs ys

-- the function gives what the table has
abbrev pub AreFound : {A : Type 0} → (ℕ → A) → List (ℕ × A) → Type 0
AreFound found [] = Unit {0}
AreFound found (pair ∷ pairs) = (found pair.0 ≡ pair.1) × AreFound found pairs

pub found-append : {A : Type 0} (found : ℕ → A) (xs ys : List (ℕ × A)) → AreFound found (xs ++ ys) → AreFound found xs × AreFound found ys
found-append found [] ys h = (tt, h)
found-append found (x ∷ xs) ys h = let rest = found-append found xs ys h.1 in ((h.0, rest.0), rest.1)

-- what later ids have is not hidden
later_right : {A : Type 0} (none : A) (first : ℕ × A) (pairs others : List (ℕ × A)) (n : ℕ) → first.0 < n → ids_of others ≡ range_with_len n (length others) → AreFound (found_in none pairs) others → AreFound (found_in none (first ∷ pairs)) others
later_right none first pairs [] n before ids right = tt
later_right none first pairs (pair ∷ others) n before ids right =
    let same : pair.0 ≡ n = cc in
    let rest : ids_of others ≡ range_with_len (n + 1) (length others) = cc in
    (at (first.0 == pair.0) refl (omega arith), later_right none first pairs others (n + 1) (omega arith) rest right.1)
  where
    at : (b : Bool) → (first.0 == pair.0) ≡ b → first.0 < pair.0 → (if b then first.1 else found_in none pairs pair.0) ≡ pair.1
    at true is lt = absurd (grind arith)
    at false is lt = right.0

right_from : {A : Type 0} (none : A) (pairs : List (ℕ × A)) (n : ℕ) → ids_of pairs ≡ range_with_len n (length pairs) → AreFound (found_in none pairs) pairs
right_from none [] n ids = tt
right_from none (pair ∷ pairs) n ids =
    let same : pair.0 ≡ n = cc in
    let rest : ids_of pairs ≡ range_with_len (n + 1) (length pairs) = cc in
    (at (pair.0 == pair.0) refl, later_right none pair pairs pairs (n + 1) (omega arith) rest (right_from none pairs (n + 1) rest))
  where
    at : (b : Bool) → (pair.0 == pair.0) ≡ b → (if b then pair.1 else found_in none pairs pair.0) ≡ pair.1
    at true is = refl
    at false is = absurd (grind arith)

pub length_ids : {A : Type 0} (pairs : List (ℕ × A)) → length (ids_of pairs) ≡ length pairs
length_ids [] = refl
length_ids (pair ∷ pairs) = ap suc (length_ids pairs)

pub numbered_found : {A : Type 0} (none : A) (pairs : List (ℕ × A)) (ids : List ℕ) → ids_of pairs ≡ ids → ids ≡ range_with_len 0 (length ids) → AreFound (found_in none pairs) pairs
numbered_found none pairs ids same numbered =
    right_from none pairs 0 (same ∙ numbered ∙ ap (λ k. range_with_len 0 k) (ap length (sym same) ∙ length_ids pairs))

-- the ids of a store
pub store_ids : (id count : ℕ) → id ∷ suc id ∷ range_with_len (2 + id) count ≡ range_with_len id (2 + count)
store_ids id count =
    ap (λ k. id ∷ suc id ∷ range_with_len k count) {x = 2 + id} {y = suc id + 1} (omega arith)
    ∙ ap (λ k. id ∷ range_with_len k (suc count)) {x = suc id} {y = id + 1} (omega arith)
    ∙ ap (λ k. range_with_len id k) {x = suc (suc count)} {y = 2 + count} (omega arith)
