-- Texts that come one after another into a table.
use Rattle.std.proofs.Common.{◌≡◌, ℕ, zero, suc, ◌+◌, ◌<◌, Bool, true, false, if◌then◌else◌, is_some, Option, Some, None, option_map, List, [], ◌∷◌, ◌++◌, length, slice_get, get_or, map, take, drop, refl, sym, ap, subst, ◌∙◌, append_assoc, arith}
use Rattle.std.proofs.lemmas.List.{map-append}
use Rattle.std.specs.Str.{bytes_eq}
use Rattle.values.specs.Texts.{index_of, with_text, IsTable}

at_end : {X : Type 0} (xs ys : List X) (x : X) → slice_get (xs ++ x ∷ ys) (length xs) ≡ Some x
at_end [] ys x = refl
at_end (y ∷ xs) ys x = at_end xs ys x

-- a place in the front part is a place in the whole
in_front : (t : List ℕ) (xs ys : List (List ℕ)) (i : ℕ) → index_of t xs ≡ Some i → (index_of t (xs ++ ys) ≡ Some i) × (i < length xs)
in_front t [] ys i there = cc
in_front t (x ∷ xs) ys i there = at (bytes_eq t x) (index_of t xs) refl (λ k e. in_front t xs ys k e) there
  where
    at : (same : Bool) (o : Option ℕ) → index_of t xs ≡ o → ((k : ℕ) → index_of t xs ≡ Some k → (index_of t (xs ++ ys) ≡ Some k) × (k < length xs)) → (if same then Some 0 else option_map suc o) ≡ Some i
        → ((if same then Some 0 else option_map suc (index_of t (xs ++ ys))) ≡ Some i) × (i < suc (length xs))
    at true o e rest h = let z : 0 ≡ i = cc in (h, omega arith)
    at false None e rest h = cc
    at false (Some k) e rest h =
        let s : suc k ≡ i = cc in
        let further = rest k e in
        (ap (option_map suc) further.0 ∙ ap Some s, omega (arith, further.1))

absent : (t : List ℕ) (xs ys : List (List ℕ)) → IsTable (xs ++ t ∷ ys) → index_of t xs ≡ None
absent t xs ys table = at (index_of t xs) refl
  where
    at : (o : Option ℕ) → index_of t xs ≡ o → index_of t xs ≡ None
    at None e = e
    at (Some i) e =
        let here = table.distinct (length xs) t (at_end xs ys t) in
        let there = in_front t xs (t ∷ ys) i e in
        let same : i ≡ length xs = cc in
        absurd (omega (arith, there.1, same))

-- the next text of a table comes behind the others
pub comes_behind : (t : List ℕ) (xs ys : List (List ℕ)) → IsTable (xs ++ t ∷ ys) → with_text t xs ≡ xs ++ t ∷ []
comes_behind t xs ys table = ap (λ o. if is_some o then xs else xs ++ t ∷ []) (absent t xs ys table)

split_at : {X : Type 0} (xs : List X) (i : ℕ) (x : X) → i < length xs → x ≡ get_or xs i x → xs ≡ take i xs ++ x ∷ drop (suc i) xs
split_at [] i x within is = absurd (omega arith)
split_at (y ∷ xs) zero x within is = ap (λ z. z ∷ xs) (sym is)
split_at (y ∷ xs) (suc i) x within is = ap (λ rest. y ∷ rest) (split_at xs i x (omega arith) is)

take_next : {X : Type 0} (xs : List X) (i : ℕ) (x : X) → i < length xs → x ≡ get_or xs i x → take (suc i) xs ≡ take i xs ++ x ∷ []
take_next [] i x within is = absurd (omega arith)
take_next (y ∷ xs) zero x within is = ap (λ z. z ∷ []) (sym is)
take_next (y ∷ xs) (suc i) x within is = ap (λ rest. y ∷ rest) (take_next xs i x (omega arith) is)

one_more : {X : Type 0} (xs : List X) (i : ℕ) → take (i + 1) xs ≡ take (suc i) xs
one_more xs i = let e : i + 1 ≡ suc i = omega arith in rw e refl

pub next_comes_behind : {X : Type 0} (f : X → List ℕ) (old : List (List ℕ)) (xs : List X) (i : ℕ) (x : X) → IsTable (old ++ map f xs) → i < length xs → x ≡ get_or xs i x
    → with_text (f x) (old ++ map f (take i xs)) ≡ old ++ map f (take (i + 1) xs)
next_comes_behind f old xs i x table within is =
    let front = map f (take i xs) in
    let rest = map f (drop (suc i) xs) in
    let parts : map f xs ≡ front ++ f x ∷ rest = ap (map f) (split_at xs i x within is) ∙ map-append f (take i xs) (x ∷ drop (suc i) xs) in
    let whole : IsTable ((old ++ front) ++ f x ∷ rest) = subst IsTable (ap (λ ts. old ++ ts) parts ∙ sym (append_assoc old front (f x ∷ rest))) table in
    comes_behind (f x) (old ++ front) rest whole
    ∙ append_assoc old front (f x ∷ [])
    ∙ ap (λ ts. old ++ ts) (sym (map-append f (take i xs) (x ∷ [])) ∙ ap (map f) (sym (one_more xs i ∙ take_next xs i x within is)))
