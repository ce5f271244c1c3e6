-- Where a text stands among those of a component and those that a script adds.
use Rattle.std.proofs.Common.{◌≡◌, ℕ, zero, suc, ◌+◌, ◌-◌, ◌<◌, Bool, true, false, if◌then◌else◌, Option, Some, None, is_some, unwrap_or, option_map, List, [], ◌∷◌, ◌++◌, length, drop, slice_get, refl, sym, ap, subst, ◌∙◌, append_assoc, length-append, arith}
use Rattle.std.specs.Str.{IsUtf8, bytes_eq}
use Rattle.values.specs.Texts.{index_of, with_text, IsTable}
use Rattle.values.proofs.TextsLemmas.{IsTable-added, index_of-added}
use Rattle.component_meaning.specs.Names.{number_with}
use Rattle.script_draft.specs.Named.{both}
use Rattle.script_draft.specs.Added.{IsAdded}

-- ---- two lists, one behind the other

abbrev later : ℕ → Option ℕ → Option ℕ → Option ℕ
later n (Some i) o = Some i
later n None o = option_map (λ k. n + k) o

later_none : (o : Option ℕ) → o ≡ later 0 None o
later_none None = refl
later_none (Some k) = ap Some (omega arith)

later_suc : (n : ℕ) (i o : Option ℕ) → option_map suc (later n i o) ≡ later (suc n) (option_map suc i) o
later_suc n (Some i) o = refl
later_suc n None None = refl
later_suc n None (Some k) = ap Some (omega arith)

index_of-behind : (t : List ℕ) (xs ys : List (List ℕ)) → index_of t (xs ++ ys) ≡ later (length xs) (index_of t xs) (index_of t ys)
index_of-behind t [] ys = later_none (index_of t ys)
index_of-behind t (x ∷ xs) ys = at (bytes_eq t x) (index_of-behind t xs ys)
  where
    at : (same : Bool) → index_of t (xs ++ ys) ≡ later (length xs) (index_of t xs) (index_of t ys)
        → (if same then Some 0 else option_map suc (index_of t (xs ++ ys))) ≡ later (suc (length xs)) (if same then Some 0 else option_map suc (index_of t xs)) (index_of t ys)
    at true rest = refl
    at false rest = ap (option_map suc) rest ∙ later_suc (length xs) (index_of t xs) (index_of t ys)

index_of-within : (t : List ℕ) (xs : List (List ℕ)) (i : ℕ) → index_of t xs ≡ Some i → i < length xs
index_of-within t [] i is = cc
index_of-within t (x ∷ xs) i is = at (bytes_eq t x) (index_of t xs) (λ k e. index_of-within t xs k e) refl is
  where
    at : (same : Bool) (o : Option ℕ) → ((k : ℕ) → index_of t xs ≡ Some k → k < length xs) → index_of t xs ≡ o → (if same then Some 0 else option_map suc o) ≡ Some i → i < suc (length xs)
    at true o rest e h = let z : 0 ≡ i = cc in omega arith
    at false None rest e h = cc
    at false (Some k) rest e h = let s : suc k ≡ i = cc in omega (arith, rest k e)

-- ---- the empty text stands first in both

pub in_base : (t : List ℕ) (base added : List (List ℕ)) (i : ℕ) → index_of t base ≡ Some i → index_of t (both base added) ≡ Some i
in_base t base added i is = index_of-behind t base (drop 1 added) ∙ ap (λ o. later (length base) o (index_of t (drop 1 added))) is

not_empty : (t : List ℕ) (base : List (List ℕ)) → slice_get base 0 ≡ Some [] → index_of t base ≡ None → bytes_eq t [] ≡ false
not_empty t [] first none = cc
not_empty t (b ∷ bs) first none = at (bytes_eq t b) refl none
  where
    is_first : b ≡ []
    is_first = cc

    at : (same : Bool) → bytes_eq t b ≡ same → (if same then Some 0 else option_map suc (index_of t bs)) ≡ None → bytes_eq t [] ≡ false
    at true is h = cc
    at false is h = ap (bytes_eq t) (sym is_first) ∙ is

behind_first : (t : List ℕ) (added : List (List ℕ)) → slice_get added 0 ≡ Some [] → bytes_eq t [] ≡ false → index_of t added ≡ option_map suc (index_of t (drop 1 added))
behind_first t [] first other = cc
behind_first t (a ∷ more) first other =
    let is_first : a ≡ [] = cc in
    let differs : bytes_eq t a ≡ false = ap (bytes_eq t) is_first ∙ other in
    ap (λ same. if same then Some 0 else option_map suc (index_of t more)) differs

pub in_neither : (t : List ℕ) (base added : List (List ℕ)) → IsAdded base added → index_of t base ≡ None → index_of t added ≡ None → index_of t (both base added) ≡ None
in_neither t base added is none nor =
    index_of-behind t base (drop 1 added) ∙ ap (λ o. later (length base) o (index_of t (drop 1 added))) none
    ∙ at (index_of t (drop 1 added)) (sym (behind_first t added is.added_first (not_empty t base is.base_first none)) ∙ nor)
  where
    at : (o : Option ℕ) → option_map suc o ≡ None → option_map (λ k. length base + k) o ≡ None
    at None h = refl
    at (Some k) h = cc

pub in_added : (t : List ℕ) (base added : List (List ℕ)) (i : ℕ) → IsAdded base added → index_of t base ≡ None → index_of t added ≡ Some i → index_of t (both base added) ≡ Some (length base + i - 1)
in_added t base added i is none there =
    index_of-behind t base (drop 1 added) ∙ ap (λ o. later (length base) o (index_of t (drop 1 added))) none
    ∙ at (index_of t (drop 1 added)) (sym (behind_first t added is.added_first (not_empty t base is.base_first none)) ∙ there)
  where
    at : (o : Option ℕ) → option_map suc o ≡ Some i → option_map (λ k. length base + k) o ≡ Some (length base + i - 1)
    at None h = cc
    at (Some k) h = let s : suc k ≡ i = cc in ap Some (omega arith)

pub within_both : (t : List ℕ) (base added : List (List ℕ)) (i : ℕ) → IsAdded base added → index_of t (both base added) ≡ Some i → i < 65536
within_both t base added i is there = omega (arith, is.whole.bounded, index_of-within t (both base added) i there)

-- ---- one more text

length-drop_first : (added : List (List ℕ)) → slice_get added 0 ≡ Some [] → length (drop 1 added) + 1 ≡ length added
length-drop_first [] first = cc
length-drop_first (a ∷ more) first = omega arith

pub length-both : (base added : List (List ℕ)) → IsAdded base added → length (both base added) + 1 ≡ length base + length added
length-both base added is = omega (arith, length-append base (drop 1 added), length-drop_first added is.added_first)

some_base : (base : List (List ℕ)) → slice_get base 0 ≡ Some [] → 0 < length base
some_base [] first = cc
some_base (b ∷ bs) first = omega arith

pub few_added : (base added : List (List ℕ)) → IsAdded base added → length (both base added) < 65536 → length added < 65536
few_added base added is few = omega (arith, length-both base added is, some_base base is.base_first)

drop-push : (added : List (List ℕ)) (t : List ℕ) → slice_get added 0 ≡ Some [] → drop 1 (added ++ t ∷ []) ≡ drop 1 added ++ t ∷ []
drop-push [] t first = cc
drop-push (a ∷ more) t first = refl

pub both-push : (base added : List (List ℕ)) (t : List ℕ) → IsAdded base added → both base (added ++ t ∷ []) ≡ both base added ++ t ∷ []
both-push base added t is = ap (λ more. base ++ more) (drop-push added t is.added_first) ∙ sym (append_assoc base (drop 1 added) (t ∷ []))

first-push : (added : List (List ℕ)) (t : List ℕ) → slice_get added 0 ≡ Some [] → slice_get (added ++ t ∷ []) 0 ≡ Some []
first-push [] t first = cc
first-push (a ∷ more) t first = first

pub IsAdded-push : (base added : List (List ℕ)) (t : List ℕ) → IsAdded base added → index_of t (both base added) ≡ None → length (both base added) < 65536 → IsUtf8 t → IsAdded base (added ++ t ∷ [])
IsAdded-push base added t is new few utf8 = record {
  whole = subst IsTable (sym (both-push base added t is)) (IsTable-added (both base added) t is.whole new few utf8);
  base_first = is.base_first;
  added_first = first-push added t is.added_first;
}

-- a text that is in neither table is not among those that are added
pub not_added : (t : List ℕ) (base added : List (List ℕ)) → IsAdded base added → index_of t (both base added) ≡ None → index_of t added ≡ None
not_added t base added is none = at (index_of t base) refl
  where
    at : (o : Option ℕ) → index_of t base ≡ o → index_of t added ≡ None
    at (Some i) there = let found = in_base t base added i there in cc
    at None absent = by (index_of t added) refl
      where
        by : (o : Option ℕ) → index_of t added ≡ o → index_of t added ≡ None
        by None e = e
        by (Some i) e = let found = in_added t base added i is absent e in cc

-- what the table of the added texts becomes
with_absent : (t : List ℕ) (texts : List (List ℕ)) → index_of t texts ≡ None → with_text t texts ≡ texts ++ t ∷ []
with_absent t texts none = ap (λ o. if is_some o then texts else texts ++ t ∷ []) none

module _ (t : List ℕ) (base added new : List (List ℕ)) (is : IsAdded base added) (none : index_of t (both base added) ≡ None) (adds : new ≡ with_text t added) where
  is_pushed : new ≡ added ++ t ∷ []
  is_pushed = adds ∙ with_absent t added (not_added t base added is none)

  pub IsAdded-with : length (both base added) < 65536 → IsUtf8 t → IsAdded base new
  IsAdded-with few utf8 = subst (IsAdded base) (sym is_pushed) (IsAdded-push base added t is none few utf8)

  pub both-with : both base new ≡ with_text t (both base added)
  both-with = ap (both base) is_pushed ∙ both-push base added t is ∙ sym (with_absent t (both base added) none)

  pub number_with-added : number_with t (both base added) ≡ length (both base added)
  number_with-added = ap (λ texts. unwrap_or (index_of t texts) 0) (with_absent t (both base added) none) ∙ ap (λ o. unwrap_or o 0) (index_of-added t (both base added) none)

pub few_both : (base added : List (List ℕ)) → IsAdded base added → (length (both base added) ≡ 65536 → ⊥) → length (both base added) < 65536
few_both base added is other = omega (arith, is.whole.bounded)

-- ---- the texts by number

get-front : {X : Type 0} (xs ys : List X) (i : ℕ) → i < length xs → slice_get (xs ++ ys) i ≡ slice_get xs i
get-front [] ys i h = absurd (omega arith)
get-front (x ∷ xs) ys zero h = refl
get-front (x ∷ xs) ys (suc i) h = get-front xs ys i (omega arith)

get-behind : {X : Type 0} (xs ys : List X) (k : ℕ) → slice_get (xs ++ ys) (length xs + k) ≡ slice_get ys k
get-behind [] ys k = let e : 0 + k ≡ k = omega arith in rw e refl
get-behind (x ∷ xs) ys k = let e : length (x ∷ xs) + k ≡ suc (length xs + k) = omega arith in rw e (get-behind xs ys k)

get-drop : (added : List (List ℕ)) (k : ℕ) → slice_get added 0 ≡ Some [] → slice_get (drop 1 added) k ≡ slice_get added (suc k)
get-drop [] k first = cc
get-drop (a ∷ more) k first = refl

pub of_base : (base added : List (List ℕ)) (i : ℕ) → i < length base → slice_get (both base added) i ≡ slice_get base i
of_base base added i within = get-front base (drop 1 added) i within

pub of_added : (base added : List (List ℕ)) (i k : ℕ) → IsAdded base added → length base + k ≡ i → slice_get (both base added) i ≡ slice_get added (k + 1)
of_added base added i k is at =
    subst (λ j. slice_get (both base added) j ≡ slice_get added (k + 1)) at
    (get-behind base (drop 1 added) k ∙ get-drop added k is.added_first ∙ ap (slice_get added) (omega arith))

-- ---- the rest of a list, one item after another

pub drop-next : {X : Type 0} (xs : List X) (i : ℕ) (x : X) → slice_get xs i ≡ Some x → drop i xs ≡ x ∷ drop (suc i) xs
drop-next [] i x there = cc
drop-next (y ∷ xs) zero x there = let same : y ≡ x = cc in ap (λ z. z ∷ xs) same
drop-next (y ∷ xs) (suc i) x there = drop-next xs i x there

next-suc : {X : Type 0} (xs : List X) (i : ℕ) → drop (i + 1) xs ≡ drop (suc i) xs
next-suc xs i = let e : i + 1 ≡ suc i = omega arith in rw e refl

pub copied_next : (texts more whole : List (List ℕ)) (i : ℕ) (t : List ℕ) → slice_get whole i ≡ Some t → more ≡ texts ++ t ∷ [] → more ++ drop (i + 1) whole ≡ texts ++ drop i whole
copied_next texts more whole i t there adds =
    ap (λ ts. ts ++ drop (i + 1) whole) adds
    ∙ append_assoc texts (t ∷ []) (drop (i + 1) whole)
    ∙ ap (λ rest. texts ++ (t ∷ rest)) (next-suc whole i)
    ∙ ap (λ rest. texts ++ rest) (sym (drop-next whole i t there))

pub some_within : {X : Type 0} (xs : List X) (i : ℕ) → i < length xs → slice_get xs i ≡ None → ⊥
some_within [] i within none = omega arith
some_within (x ∷ xs) zero within none = cc
some_within (x ∷ xs) (suc i) within none = some_within xs i (omega arith) none
