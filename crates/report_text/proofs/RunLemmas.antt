-- Lists in which each element has a list in its place, where runs of elements stand for themselves.
use Rattle.std.proofs.Common.{◌≡◌, ℕ, ◌+◌, ◌<◌, ◌≤◌, ◌-◌, List, [], ◌∷◌, ◌++◌, length, take, get_or, slice_range, refl, sym, ap, ◌∙◌, append_assoc, arith}
use Rattle.std.specs.List.{flat_map}
use Rattle.std.proofs.lemmas.List.{take_more, take_all, append-nil}
use Rattle.std.proofs.lemmas.List.Edits.{between_more}
use Rattle.std.proofs.Math.Seq.{take-add}
use Rattle.std.proofs.lemmas.List.Concat.{flat_map-append}

flat_map_one : (f : ℕ → List ℕ) (x : ℕ) → flat_map f (x ∷ []) ≡ f x
flat_map_one f x = append-nil (f x)

-- one more element that stands for itself
pub run_more : (f : ℕ → List ℕ) (xs : List ℕ) (plain i : ℕ) → plain ≤ i → i < length xs → flat_map f (slice_range xs plain i) ≡ slice_range xs plain i → f (get_or xs i 0) ≡ get_or xs i 0 ∷ [] → flat_map f (slice_range xs plain (i + 1)) ≡ slice_range xs plain (i + 1)
run_more f xs plain i from within run itself =
    let more = between_more xs plain i 0 from within in
    ap (flat_map f) more ∙ flat_map-append f (slice_range xs plain i) (get_or xs i 0 ∷ []) ∙ (λ k. run k ++ (flat_map_one f (get_or xs i 0) ∙ itself) k) ∙ sym more

none_between : (xs : List ℕ) (i : ℕ) → slice_range xs i i ≡ []
none_between xs i = let e : i - i ≡ 0 = omega arith in rw e refl

pub run_none : (f : ℕ → List ℕ) (xs : List ℕ) (i : ℕ) → flat_map f (slice_range xs i i) ≡ slice_range xs i i
run_none f xs i = ap (flat_map f) (none_between xs i) ∙ sym (none_between xs i)

front : (xs : List ℕ) (n m : ℕ) → n ≤ m → take m xs ≡ take n xs ++ slice_range xs n m
front xs n m le = ap (λ k. take k xs) {x = m} {y = n + (m - n)} (omega arith) ∙ take-add n (m - n) xs

-- a front, then a run, and then one element with another list in its place
pub front_more : (f : ℕ → List ℕ) (xs : List ℕ) (plain i : ℕ) (other : List ℕ) → plain ≤ i → i < length xs → flat_map f (slice_range xs plain i) ≡ slice_range xs plain i → f (get_or xs i 0) ≡ other → flat_map f (take (i + 1) xs) ≡ flat_map f (take plain xs) ++ (slice_range xs plain i ++ other)
front_more f xs plain i other from within run is =
    ap (flat_map f) (take_more xs i 0 within ∙ ap (λ l. l ++ get_or xs i 0 ∷ []) (front xs plain i from) ∙ append_assoc (take plain xs) (slice_range xs plain i) (get_or xs i 0 ∷ []))
    ∙ flat_map-append f (take plain xs) (slice_range xs plain i ++ get_or xs i 0 ∷ [])
    ∙ ap (λ l. flat_map f (take plain xs) ++ l) (flat_map-append f (slice_range xs plain i) (get_or xs i 0 ∷ []) ∙ (λ k. run k ++ (flat_map_one f (get_or xs i 0) ∙ is) k))

-- at the end the run is the rest
pub front_last : (f : ℕ → List ℕ) (xs : List ℕ) (plain i : ℕ) → length xs ≤ i → i ≤ length xs → plain ≤ i → flat_map f (slice_range xs plain i) ≡ slice_range xs plain i → flat_map f xs ≡ flat_map f (take plain xs) ++ slice_range xs plain (length xs)
front_last f xs plain i past within from run =
    let end : i ≡ length xs = omega arith in
    let all : xs ≡ take plain xs ++ slice_range xs plain (length xs) = sym (take_all (length xs) xs (omega arith)) ∙ front xs plain (length xs) (omega arith) in
    ap (flat_map f) all ∙ flat_map-append f (take plain xs) (slice_range xs plain (length xs)) ∙ ap (λ l. flat_map f (take plain xs) ++ l) (ap (λ n. flat_map f (slice_range xs plain n)) (sym end) ∙ run ∙ ap (slice_range xs plain) end)
