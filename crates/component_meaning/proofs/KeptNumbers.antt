-- Ids and owners are counted from one item to the next.
use Rattle.std.proofs.Common.{◌≡◌, ℕ, zero, suc, ◌+◌, List, [], ◌∷◌, ◌++◌, length, refl, sym, ap, ◌∙◌, arith, append_assoc, append-nil}
use Rattle.std.specs.List.{flat_map, range_with_len}
use Rattle.std.proofs.lemmas.Grind.{flat_map-append}
use Rattle.component_items.specs.declared.component.Item.{Item}
use Rattle.component_meaning.specs.State.{State, Declared, Frame, Open}
use Rattle.component_meaning.specs.Actions.{with_item}

-- ---- numbers one after another

-- they are counted from the first on, and this one comes next
pub record IsCounted (first next : ℕ) (xs : List ℕ) : Type 0 where
  pub count : ℕ
  pub listed : xs ≡ range_with_len first count
  pub comes_next : first + count ≡ next

range-append : (first m n : ℕ) → range_with_len first m ++ range_with_len (first + m) n ≡ range_with_len first (m + n)
range-append first zero n =
    ap (λ k. range_with_len k n) {x = first + 0} {y = first} (omega arith)
    ∙ ap (λ k. range_with_len first k) {x = n} {y = 0 + n} (omega arith)
range-append first (suc m) n =
    ap (λ k. first ∷ range_with_len (first + 1) m ++ range_with_len k n) {x = first + suc m} {y = first + 1 + m} (omega arith)
    ∙ ap (λ more. first ∷ more) (range-append (first + 1) m n)
    ∙ ap (λ k. range_with_len first k) {x = suc (m + n)} {y = suc m + n} (omega arith)

pub counted_more : (first next n : ℕ) (xs : List ℕ) → IsCounted first next xs → IsCounted first (next + n) (xs ++ range_with_len next n)
counted_more first next n xs c = record {
  count = c.count + n;
  listed =
      ap (λ l. l ++ range_with_len next n) c.listed
      ∙ ap (λ k. range_with_len first c.count ++ range_with_len k n) (sym c.comes_next)
      ∙ range-append first c.count n;
  comes_next = omega (arith, c.comes_next);
}

-- those at the front are counted too
prefix : (first n : ℕ) (xs ys : List ℕ) → xs ++ ys ≡ range_with_len first n → xs ≡ range_with_len first (length xs)
prefix first n [] ys is = refl
prefix first zero (x ∷ xs) ys is = absurd cc
prefix first (suc n) (x ∷ xs) ys is =
    let same : x ≡ first = cc in
    let others : xs ++ ys ≡ range_with_len (first + 1) n = cc in
    ap (λ k. k ∷ xs) same ∙ ap (λ l. first ∷ l) (prefix (first + 1) n xs ys others)

pub counted_front : (first next : ℕ) (xs ys : List ℕ) → IsCounted first next (xs ++ ys) → xs ≡ range_with_len first (length xs)
counted_front first next xs ys c = prefix first c.count xs ys c.listed

-- ---- the numbers of all that was read, where items and what is open take some

module _ (f : Item → List ℕ) (g : Frame → List ℕ) where
  abbrev pub numbers_inside : List Open → List ℕ
  numbers_inside [] = []
  numbers_inside (o ∷ outer) = numbers_inside outer ++ (g o.frame ++ flat_map f o.items)

  abbrev pub numbers_in : List Item → List Open → List ℕ
  numbers_in items opened = flat_map f items ++ numbers_inside opened

  one_more : (items : List Item) (i : Item) → flat_map f (items ++ i ∷ []) ≡ flat_map f items ++ f i
  one_more items i = flat_map-append f items (i ∷ []) ∙ ap (λ l. flat_map f items ++ l) (append-nil (f i))

  item_more : (i : Item) (a : State) (opened : List Open) → numbers_in (with_item i (record a { opened = opened })).items (with_item i (record a { opened = opened })).opened ≡ numbers_in a.items opened ++ f i
  item_more i a [] = append-nil (flat_map f (a.items ++ i ∷ [])) ∙ one_more a.items i ∙ ap (λ l. l ++ f i) (sym (append-nil (flat_map f a.items)))
  item_more i a (o ∷ outer) =
      ap (λ l. flat_map f a.items ++ (numbers_inside outer ++ (g o.frame ++ l))) (one_more o.items i)
      ∙ simp append_assoc

  pub item_numbers : (i : Item) (a : State) → numbers_in (with_item i a).items (with_item i a).opened ≡ numbers_in a.items a.opened ++ f i
  item_numbers i a = item_more i a a.opened

  pub open_numbers : (frame : Frame) (outside : List Declared) (items : List Item) (opened : List Open)
      → numbers_in items (record { frame = frame; outside = outside; items = [] } ∷ opened) ≡ numbers_in items opened ++ g frame
  open_numbers frame outside items opened = simp (append-nil, append_assoc)

-- ---- what comes next is kept

pub kept_id : (i : Item) (a : State) (opened : List Open) → (with_item i (record a { opened = opened })).next_id ≡ a.next_id
kept_id i a [] = refl
kept_id i a (o ∷ outer) = refl

pub kept_owner : (i : Item) (a : State) (opened : List Open) → (with_item i (record a { opened = opened })).next_owner ≡ a.next_owner
kept_owner i a [] = refl
kept_owner i a (o ∷ outer) = refl
