-- What is put at the end of a list, a part at a time.
use Rattle.std.proofs.Common.{◌≡◌, ◌≤◌, ℕ, zero, List, [], ◌∷◌, ◌++◌, length, drop, slice_get, suc, ◌+◌, map, Some, arith, Result, OnOk, append_assoc, sym, ap, ◌∙◌}
use Rattle.std.specs.List.{flat_map}
use Rattle.std.proofs.lemmas.List.{map-append}
use Rattle.std.proofs.lemmas.Result.{on_ok_weaker}
use Rattle.std.proofs.lemmas.List.{append-nil, drop_all}

-- one more at the end, and one less to come
pub one_more : {A : Type 0} (old new rest target : List A) (x : A) → new ≡ old ++ x ∷ [] → old ++ (x ∷ rest) ≡ target → new ++ rest ≡ target
one_more old new rest target x is so_far = ap (λ xs. xs ++ rest) is ∙ append_assoc old (x ∷ []) rest ∙ so_far

-- a part more at the end, and it no longer to come
pub part_more : {A : Type 0} (old new part rest target : List A) → new ≡ old ++ part → old ++ (part ++ rest) ≡ target → new ++ rest ≡ target
part_more old new part rest target is so_far = ap (λ xs. xs ++ rest) is ∙ append_assoc old part rest ∙ so_far

-- two parts, one after the other
pub two_parts : {A : Type 0} (old mid new first second all : List A) → mid ≡ old ++ first → all ≡ first ++ second → new ≡ mid ++ second → new ≡ old ++ all
two_parts old mid new first second all one is two = two ∙ ap (λ xs. xs ++ second) one ∙ append_assoc old first second ∙ ap (λ xs. old ++ xs) (sym is)

pub nothing_put : {A : Type 0} (old all : List A) → all ≡ [] → old ≡ old ++ all
nothing_put old all is = sym (append-nil old) ∙ ap (λ xs. old ++ xs) (sym is)

-- what a call put is all that is wanted
pub put_all : {T E A : Type 0} (r : Result T E) (old new part all : List A) → all ≡ part → OnOk r (new ≡ old ++ part) → OnOk r (new ≡ old ++ all)
put_all r old new part all is put = on_ok_weaker r (λ e. e ∙ ap (λ xs. old ++ xs) (sym is)) put

-- it is all that is wanted, behind what an earlier call put
pub put_behind : {T E A : Type 0} (r : Result T E) (old mid new first second all : List A) → mid ≡ old ++ first → all ≡ first ++ second → OnOk r (new ≡ mid ++ second) → OnOk r (new ≡ old ++ all)
put_behind r old mid new first second all before is put = on_ok_weaker r (two_parts old mid new first second all before is) put

-- what the elements from a place on give: what the one there gives, and what those behind it give
pub part_at : {A B C : Type 0} (f : B → C) (part : A → List B) (xs : List A) (i : ℕ) (x : A) → slice_get xs i ≡ Some x → map f (flat_map part (drop i xs)) ≡ map f (part x) ++ map f (flat_map part (drop (i + 1) xs))
part_at f part [] i x is = cc
part_at f part (y ∷ xs) zero x is = let same : y ≡ x = cc in map-append f (part y) (flat_map part xs) ∙ ap (λ z. map f (part z) ++ map f (flat_map part xs)) same
part_at f part (y ∷ xs) (suc i) x is = part_at f part xs i x is ∙ ap (λ k. map f (part x) ++ map f (flat_map part (drop k (y ∷ xs)))) {x = suc (i + 1)} {y = suc i + 1} (omega arith)

-- at the end nothing is to come
pub all_put : {A B C : Type 0} (f : B → C) (part : A → List B) (old new : List C) (xs : List A) (i : ℕ) → length xs ≤ i → new ++ map f (flat_map part (drop i xs)) ≡ old ++ map f (flat_map part xs) → new ≡ old ++ map f (flat_map part xs)
all_put f part old new xs i ends so_far = sym (append-nil new) ∙ ap (λ ys. new ++ map f (flat_map part ys)) (sym (drop_all i xs ends)) ∙ so_far
