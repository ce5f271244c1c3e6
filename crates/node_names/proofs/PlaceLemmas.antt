-- A set of places finds the first position of a place.
use Rattle.std.proofs.Common.{◌≡◌, ℕ, zero, suc, ◌==◌, ◌&&◌, ◌||◌, if◌then◌else◌, Bool, true, false, Option, Some, None, is_some, option_map, List, [], ◌∷◌, ◌++◌, refl, sym, ap, subst, slice_get, ◌∙◌, arith}
use Rattle.std.specs.Option.{option_eq}
use Rattle.std.specs.List.{position, list_any, AllByRecursion, IsDistinct}
use Rattle.std.proofs.lemmas.Bool.{eqb-true, eq-eqb}
use Rattle.std.proofs.lemmas.Map.Keys.{IsDistinct-head, IsDistinct-tail}
use Rattle.indexmap.specs.IndexSet.{insert_key}
use Rattle.values.specs.declared.code.Code.{Code}
use Rattle.values.specs.contracts.code.CodePartialEq.TheImpl as code
use Rattle.store_fields.proofs.KeyLemmas.{eq_is_same, same_flips}
use Rattle.plain_evaluation.specs.Place.{Place, same_key, same_place, position_of}
use Rattle.plain_evaluation.proofs.Places.{same_places, place_itself}
use Rattle.node_names.specs.contracts.place.NodePlacePartialEq.TheImpl.{ghosts}

ids_flip : (a b : ℕ) → (a == b) ≡ (b == a)
ids_flip a b = by (a == b) (b == a) refl refl
  where
    by : (s t : Bool) → (a == b) ≡ s → (b == a) ≡ t → (a == b) ≡ (b == a)
    by true t e f = e ∙ sym (eq-eqb b a (sym (eqb-true a b e)))
    by false true e f = eq-eqb a b (sym (eqb-true b a f)) ∙ sym f
    by false false e f = e ∙ sym f

keys_flip : (a b : Option Code) → option_eq code.ghosts.eq a b ≡ same_key b a
keys_flip None None = refl
keys_flip None (Some b) = refl
keys_flip (Some a) None = refl
keys_flip (Some a) (Some b) = eq_is_same a b ∙ same_flips a b

-- the `==` of places is the test of the definitions
eq_is_same_place : (p q : Place) → ghosts.eq p q ≡ same_place q p
eq_is_same_place p q = λ i. ids_flip p.id q.id i && keys_flip p.key q.key i

position-cons : {X : Type 0} (test : X → Bool) (x : X) (xs : List X) → position test (x ∷ xs) ≡ (if test x then Some 0 else option_map suc (position test xs))
position-cons test x xs = grind arith

-- the set finds a place at its first position
pub position_is : (p : Place) (places : List Place) → position (ghosts.eq p) places ≡ position_of places p
position_is p [] = refl
position_is p (q ∷ places) =
    position-cons (ghosts.eq p) q places
    ∙ (λ i. if eq_is_same_place p q i then Some 0 else option_map suc (position_is p places i))

-- the set has a place where it has a position
has_place : (p : Place) (places : List Place) → list_any (ghosts.eq p) places ≡ is_some (position_of places p)
has_place p [] = refl
has_place p (q ∷ places) = (λ i. eq_is_same_place p q i || has_place p places i) ∙ by (same_place q p) (position_of places p)
  where
    by : (same : Bool) (at : Option ℕ) → (same || is_some at) ≡ is_some (if same then Some 0 else option_map suc at)
    by true at = refl
    by false None = refl
    by false (Some k) = refl

-- the set takes a place that it lacks at its end
pub place_added : (p : Place) (places : List Place) → position_of places p ≡ None → insert_key ghosts.eq places p ≡ places ++ p ∷ []
place_added p places absent = ap (λ (b : Bool). if b then places else places ++ p ∷ []) (has_place p places ∙ ap is_some absent)

-- ---- the place of a row is found at it

same_keys_flip : (a b : Option Code) → same_key a b ≡ same_key b a
same_keys_flip None None = refl
same_keys_flip None (Some b) = refl
same_keys_flip (Some a) None = refl
same_keys_flip (Some a) (Some b) = same_flips a b

places_flip : (p q : Place) → same_place p q ≡ same_place q p
places_flip p q = λ i. ids_flip p.id q.id i && same_keys_flip p.key q.key i

apart_from : (p q : Place) (places : List Place) (row : ℕ) → AllByRecursion (λ r. ghosts.eq p r ≡ false) places → slice_get places row ≡ Some q → ghosts.eq p q ≡ false
apart_from p q [] row all is = cc
apart_from p q (r ∷ places) zero all is =
    let same : r ≡ q = cc in
    subst (λ (x : Place). ghosts.eq p x ≡ false) same all.0
apart_from p q (r ∷ places) (suc row) all is = apart_from p q places row all.1 is

at_own : (places : List Place) (row : ℕ) (p : Place) → IsDistinct ghosts.eq places → slice_get places row ≡ Some p → position_of places p ≡ Some row
at_own [] row p d is = cc
at_own (q ∷ places) zero p d is =
    let same : q ≡ p = cc in
    ap (λ (b : Bool). if b then Some 0 else option_map suc (position_of places p)) (subst (λ (x : Place). same_place q x ≡ true) same (place_itself q))
at_own (q ∷ places) (suc row) p d is =
    let apart : same_place q p ≡ false = places_flip q p ∙ sym (eq_is_same_place q p) ∙ apart_from q p places row (IsDistinct-head ghosts.eq q places d) is in
    ap (λ (b : Bool). if b then Some 0 else option_map suc (position_of places p)) apart
    ∙ ap (option_map suc) (at_own places row p (IsDistinct-tail ghosts.eq q places d) is)

-- where the place of a row is the one that is looked for, it is found at that row
pub found_there : (places : List Place) (row : ℕ) (p q : Place) → IsDistinct ghosts.eq places → slice_get places row ≡ Some q → ghosts.eq p q ≡ true → position_of places p ≡ Some row
found_there places row p q d is same =
    at_own places row p d (is ∙ ap Some (same_places q p (sym (eq_is_same_place p q) ∙ same)))
