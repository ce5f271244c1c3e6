-- The ids of a component are small numbers.
use Rattle.std.proofs.Common.{◌≡◌, ℕ, zero, suc, ◌+◌, ◌<◌, ◌^◌, Bool, List, [], ◌∷◌, ◌++◌, length, get_or, map, All, refl, sym, subst, ap, ◌∙◌, arith}
use Rattle.std.specs.List.{flat_map, concat, range_with_len, AllByRecursion}
use Rattle.std.proofs.lemmas.List.Elements.{All-from_recursion, recursion_from_All, All-from_get_or, All-get_or}
use Rattle.std.proofs.lemmas.List.FromFn.{length-range_with_len, get_or-range_with_len}
use Rattle.values.specs.declared.code.Code.{Code}
use Rattle.component_items.specs.declared.component.Attr.{Attr}
use Rattle.component_items.specs.declared.component.Item.{Item}
use Rattle.component_items.specs.declared.component.Item.TheVariants.{Area, Element, Store}
use Rattle.component_items.specs.Ids.{IsNumbered, ids_in, item_ids, ids_step, attr_ids}
use Rattle.component_items.proofs.FoldLemmas.{fold-Area, fold-Element, fold-Store}

-- each of these ids is one
abbrev pub IsSmall : ℕ → Type 0
IsSmall id = id < 2 ^ 31

-- ---- parts of lists

left_of : {X : Type 0} (P : X → Type 0) (xs ys : List X) → AllByRecursion P (xs ++ ys) → AllByRecursion P xs
left_of P [] ys all = tt
left_of P (x ∷ xs) ys all = (all.0, left_of P xs ys all.1)

right_of : {X : Type 0} (P : X → Type 0) (xs ys : List X) → AllByRecursion P (xs ++ ys) → AllByRecursion P ys
right_of P [] ys all = all
right_of P (x ∷ xs) ys all = right_of P xs ys all.1

one_of : {X A : Type 0} (P : A → Type 0) (f : X → List A) (xs : List X) (i : ℕ) (d : X) → i < length xs → AllByRecursion P (flat_map f xs) → AllByRecursion P (f (get_or xs i d))
one_of P f [] i d within all = absurd (omega arith)
one_of P f (x ∷ xs) zero d within all = left_of P (f x) (flat_map f xs) all
one_of P f (x ∷ xs) (suc i) d within all = one_of P f xs i d (omega arith) (right_of P (f x) (flat_map f xs) all)

concat-map : {X : Type 0} (f : X → List ℕ) (xs : List X) → concat (map f xs) ≡ flat_map f xs
concat-map f [] = refl
concat-map f (x ∷ xs) = ap (λ rest. f x ++ rest) (concat-map f xs)

-- ---- items

pub small_item : (items : List Item) (i : ℕ) (item : Item) → i < length items → item ≡ get_or items i item → All IsSmall (ids_in items) → All IsSmall (item_ids item)
small_item items i item within is small =
    All-from_recursion IsSmall (item_ids item) (subst (λ x. AllByRecursion IsSmall (item_ids x)) (sym is) (one_of IsSmall item_ids items i item within (recursion_from_All IsSmall (ids_in items) small)))

area_ids : (id name owner : ℕ) (items : List Item) → item_ids (Area id name owner items) ≡ id ∷ ids_in items
unfolding item_ids
area_ids id name owner items = fold-Area ids_step id name owner items ∙ ap (λ ids. id ∷ ids) (concat-map item_ids items)

element_ids : (tag : ℕ) (closed : Bool) (attrs : List Attr) (items : List Item) → item_ids (Element tag closed attrs items) ≡ flat_map attr_ids attrs ++ ids_in items
unfolding item_ids
element_ids tag closed attrs items = fold-Element ids_step tag closed attrs items ∙ ap (λ ids. flat_map attr_ids attrs ++ ids) (concat-map item_ids items)

store_ids : (id name max : ℕ) (fields : List ℕ) (starts : List Code) → item_ids (Store id name max fields starts) ≡ range_with_len id (2 + length fields)
unfolding item_ids
store_ids id name max fields starts = fold-Store ids_step id name max fields starts

pub small_area : (item : Item) (id name owner : ℕ) (items : List Item) → item ≡ Area id name owner items → All IsSmall (item_ids item) → All IsSmall (ids_in items)
small_area item id name owner items is small =
    let all = subst (AllByRecursion IsSmall) (ap item_ids is ∙ area_ids id name owner items) (recursion_from_All IsSmall (item_ids item) small) in
    All-from_recursion IsSmall (ids_in items) all.1

pub small_element : (item : Item) (tag : ℕ) (closed : Bool) (attrs : List Attr) (items : List Item) → item ≡ Element tag closed attrs items → All IsSmall (item_ids item) → All IsSmall (ids_in items)
small_element item tag closed attrs items is small =
    All-from_recursion IsSmall (ids_in items) (right_of IsSmall (flat_map attr_ids attrs) (ids_in items) (subst (AllByRecursion IsSmall) (ap item_ids is ∙ element_ids tag closed attrs items) (recursion_from_All IsSmall (item_ids item) small)))

last_small : (id n : ℕ) → All IsSmall (range_with_len id (2 + n)) → id + 1 + n < 2 ^ 31
last_small id n small =
    let last : IsSmall (get_or (range_with_len id (2 + n)) (1 + n) 0) = All-get_or IsSmall (range_with_len id (2 + n)) (1 + n) 0 (omega (arith, length-range_with_len id (2 + n))) small in
    let is = get_or-range_with_len id (2 + n) (1 + n) 0 (omega arith) in
    omega arith

pub small_store : (item : Item) (id name max : ℕ) (fields : List ℕ) (starts : List Code) → item ≡ Store id name max fields starts → All IsSmall (item_ids item) → id + 2 + length fields < 2 ^ 32
small_store item id name max fields starts is small =
    let last = last_small id (length fields) (subst (All IsSmall) (ap item_ids is ∙ store_ids id name max fields starts) small) in
    omega arith

-- ---- a whole component

pub small_ids : (items : List Item) → IsNumbered items → length (ids_in items) < 2 ^ 31 → All IsSmall (ids_in items)
small_ids items numbered few =
    subst (All IsSmall) (sym numbered.ids) (All-from_get_or IsSmall (range_with_len 0 (length (ids_in items))) 0 (λ i within. at i within))
  where
    at : (i : ℕ) → i < length (range_with_len 0 (length (ids_in items))) → IsSmall (get_or (range_with_len 0 (length (ids_in items))) i 0)
    at i within =
        let count = length-range_with_len 0 (length (ids_in items)) in
        let is = get_or-range_with_len 0 (length (ids_in items)) i 0 (omega arith) in
        omega arith
