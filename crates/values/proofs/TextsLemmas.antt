-- Where a text stands in a table, and what adding one keeps.
use Rattle.std.proofs.Common.{◌≡◌, ℕ, zero, suc, ◌<◌, ◌⊎◌, inl, inr, Bool, Option, Some, None, is_some, option_map, if◌then◌else◌, List, [], ◌∷◌, ◌++◌, length, map, slice_get, refl, sym, ap, subst, ◌∙◌, arith, length-append}
use Rattle.std.specs.List.{position, list_any}
use Rattle.std.specs.Str.{IsUtf8, bytes_eq}
use Rattle.std.specs.Prelude.{String}
use Rattle.std.specs.String.{string_bytes, string_eq}
use Rattle.indexmap.specs.IndexSet.{insert_key}
use Rattle.std.proofs.lemmas.List.{map-append}
use Rattle.std.proofs.lemmas.Slice.Eq.{bytes_eq-Decides}
use Rattle.values.specs.Texts.{index_of, IsTable}

position-cons : {X : Type 0} (p : X → Bool) (x : X) (xs : List X) → position p (x ∷ xs) ≡ (if p x then Some 0 else option_map suc (position p xs))
position-cons p x xs = grind arith

-- the set finds the place of a text
pub position-index_of : {Y : Type 0} (text : List ℕ) (ks : List (String Y)) → position (λ k. bytes_eq text (string_bytes k)) ks ≡ index_of text (map string_bytes ks)
position-index_of text [] = refl
position-index_of text (k ∷ ks) =
    position-cons (λ k. bytes_eq text (string_bytes k)) k ks
    ∙ ap (λ o. if bytes_eq text (string_bytes k) then Some 0 else option_map suc o) (position-index_of text ks)

-- the set holds a text where the table does
pub list_any-index_of : {Y : Type 0} (text : List ℕ) (ks : List (String Y)) → list_any (λ k. bytes_eq text (string_bytes k)) ks ≡ is_some (index_of text (map string_bytes ks))
list_any-index_of text [] = refl
list_any-index_of text (k ∷ ks) = grind (arith, list_any-index_of text ks)

-- the first of two places
abbrev earlier_place : Option ℕ → Option ℕ → Option ℕ
earlier_place None b = b
earlier_place (Some i) b = Some i

index_of-append : (u : List ℕ) (ts : List (List ℕ)) (text : List ℕ) → index_of u (ts ++ text ∷ []) ≡ earlier_place (index_of u ts) (if bytes_eq u text then Some (length ts) else None)
index_of-append u [] text = grind arith
index_of-append u (t ∷ ts) text = grind (arith, index_of-append u ts text)

-- a text that is not held is found at the end, once it is added there
pub index_of-added : (text : List ℕ) (ts : List (List ℕ)) → index_of text ts ≡ None → index_of text (ts ++ text ∷ []) ≡ Some (length ts)
index_of-added text ts new = index_of-append text ts text ∙ grind (arith, new, (bytes_eq-Decides text text).1 refl)

-- what stands at a place once a text is added
place_of : (ts : List (List ℕ)) (text : List ℕ) (i : ℕ) (u : List ℕ) → slice_get (ts ++ text ∷ []) i ≡ Some u → (slice_get ts i ≡ Some u) ⊎ ((i ≡ length ts) × (text ≡ u))
place_of [] text zero u h = inr (refl, cc)
place_of [] text (suc i) u h = cc
place_of (t ∷ ts) text zero u h = inl h
place_of (t ∷ ts) text (suc i) u h = elim (place_of ts text i u h) [ inl e ↦ inl e | inr p ↦ inr (omega arith, p.1) ]

pub IsTable-added : (ts : List (List ℕ)) (text : List ℕ) → IsTable ts → index_of text ts ≡ None → length ts < 65536 → IsUtf8 text → IsTable (ts ++ text ∷ [])
IsTable-added ts text table new small utf8 = record {
  empty_first = first ts table.empty_first;
  distinct = λ i u h. elim (place_of ts text i u h) [ inl e ↦ (index_of-append u ts text ∙ ap (λ o. earlier_place o (if bytes_eq u text then Some (length ts) else None)) (table.distinct i u e)) | inr p ↦ rw (p.0, ← p.1) (index_of-added text ts new) ];
  utf8 = λ i u h. elim (place_of ts text i u h) [ inl e ↦ table.utf8 i u e | inr p ↦ subst (λ v. IsUtf8 v) p.1 utf8 ];
  bounded = omega (arith, length-append ts (text ∷ []));
}
  where
    first : (xs : List (List ℕ)) → slice_get xs 0 ≡ Some [] → slice_get (xs ++ text ∷ []) 0 ≡ Some []
    first [] h = cc
    first (x ∷ xs) h = h

-- the set takes a text that the table lacks at its end
pub insert_key-added : {Y : Type 0} (ks : List (String Y)) (k : String Y) (text : List ℕ) → string_bytes k ≡ text → index_of text (map string_bytes ks) ≡ None → map string_bytes (insert_key string_eq ks k) ≡ map string_bytes ks ++ text ∷ []
insert_key-added ks k text e new =
    ap (λ (b : Bool). map string_bytes (if b then ks else ks ++ k ∷ [])) (list_any-index_of (string_bytes k) ks ∙ ap (λ t. is_some (index_of t (map string_bytes ks))) e ∙ ap is_some new)
    ∙ map-append string_bytes ks (k ∷ [])
    ∙ ap (λ t. map string_bytes ks ++ t ∷ []) e

-- no text has two places
pub one_place : (texts : List (List ℕ)) → IsTable texts → (i j : ℕ) (text : List ℕ) → slice_get texts i ≡ Some text → slice_get texts j ≡ Some text → i ≡ j
one_place texts table i j text at_i at_j = let same = sym (table.distinct i text at_i) ∙ table.distinct j text at_j in cc
