-- Ids are small, and stores have rows as wide as the text says, item by item.
use Rattle.std.proofs.Common.{◌≡◌, ℕ, zero, suc, ◌+◌, ◌^◌, ◌<◌, ◌≤◌, ◌==◌, ◌&&◌, nat_lt, nat_le, Bool, true, List, [], ◌∷◌, ◌++◌, map, length, get_or, slice_get, Some, None, refl, sym, ap, subst, ◌∙◌, arith, ltb-true, lt-ltb, leb-true, le-leb}
use Rattle.std.specs.List.{flat_map, concat, list_all, range_with_len}
use Rattle.std.proofs.lemmas.Bool.{and_parts, and_from, eqb-true}
use Rattle.std.proofs.lemmas.List.Folds.{list_all-append, list_all-map}
use Rattle.values.specs.declared.code.Code.{Code}
use Rattle.values.specs.declared.expr.Expr.{Expr}
use Rattle.store_fields.specs.Edits.{KeyedRows}
use Rattle.store_fields.specs.declared.row.Row.{Row}
use Rattle.component_items.specs.declared.component.Attr.{Attr}
use Rattle.component_items.specs.declared.component.Component.{Component}
use Rattle.component_items.specs.declared.component.Item.{Item}
use Rattle.component_items.specs.declared.component.Item.TheVariants.{Load, Store, Area, If, Each, Element}
use Rattle.component_items.specs.Ids.{attr_ids, ids_step, item_ids, ids_in}
use Rattle.component_items.specs.Kept.{IsKept}
use Rattle.component_items.proofs.FoldLemmas.{fold-Load, fold-Store, fold-Area, fold-If, fold-Each, fold-Element}
use Rattle.plain_evaluation.specs.Held.{Holding, nothing, value, stored, arrived, Held, holding_of, rows_held, rows_in}
use Rattle.plain_evaluation.specs.Changed.{store_of, store_in}
use Rattle.plain_evaluation.specs.Fits.{fits_step, item_fits, rows_fit, holding_fits, store_held}
use Rattle.plan_lines.specs.Lines.{all_below, rows_narrow}

-- what passes everywhere passes at a place
pub all_at : {A : Type 0} (p : A → Bool) (xs : List A) (i : ℕ) (x : A) → list_all p xs ≡ true → i < length xs → x ≡ get_or xs i x → p x ≡ true
all_at p [] i x all within is = absurd (omega arith)
all_at p (y ∷ xs) zero x all within is = ap p is ∙ (and_parts (p y) (list_all p xs) all).0
all_at p (y ∷ xs) (suc i) x all within is = all_at p xs i x (and_parts (p y) (list_all p xs) all).1 (omega arith) is

-- ---- ids

ids_each : (items : List Item) → all_below (ids_in items) ≡ list_all (λ item. all_below (item_ids item)) items
ids_each [] = refl
ids_each (item ∷ items) = list_all-append (λ id. nat_lt id (2 ^ 31)) (item_ids item) (ids_in items) ∙ ap (λ b. all_below (item_ids item) && b) (ids_each items)

pub ids_at : (items : List Item) (i : ℕ) (x : Item) → all_below (ids_in items) ≡ true → i < length items → x ≡ get_or items i x → all_below (item_ids x) ≡ true
ids_at items i x all = all_at (λ item. all_below (item_ids item)) items i x (sym (ids_each items) ∙ all)

joined_ids : (items : List Item) → concat (map item_ids items) ≡ ids_in items
joined_ids [] = refl
joined_ids (item ∷ items) = ap (λ ids. item_ids item ++ ids) (joined_ids items)

-- the ids behind the first ones
behind : (first : List ℕ) (items : List Item) → all_below (first ++ concat (map item_ids items)) ≡ true → all_below (ids_in items) ≡ true
behind first items all = ap all_below (sym (joined_ids items)) ∙ (and_parts (all_below first) (all_below (concat (map item_ids items))) (sym (list_all-append (λ id. nat_lt id (2 ^ 31)) first (concat (map item_ids items))) ∙ all)).1

range_end : (first count : ℕ) → all_below (range_with_len first (suc count)) ≡ true → first + count < 2 ^ 31
range_end first zero all = let below = ltb-true first (2 ^ 31) (and_parts _ _ all).0 in omega arith
range_end first (suc count) all = let below = range_end (first + 1) count (and_parts _ _ all).1 in omega arith

pub range_below : (first count : ℕ) → first + count ≤ 2 ^ 31 → all_below (range_with_len first count) ≡ true
range_below first zero few = refl
range_below first (suc count) few = and_from _ _ (lt-ltb first (2 ^ 31) (omega arith)) (range_below (first + 1) count (omega arith))

module _ (item : Item) (all : all_below (item_ids item) ≡ true) where
  form : {X : Item} {ids : List ℕ} → item ≡ X → item_ids X ≡ ids → all_below ids ≡ true
  form is ids = ap all_below (sym ids) ∙ ap (λ x. all_below (item_ids x)) (sym is) ∙ all

  pub ids-Load : (id name resource : ℕ) (key : Expr) → item ≡ Load id name resource key → id + 1 < 2 ^ 31
  unfolding item_ids
  ids-Load id name resource key is =
      let both = form is (fold-Load ids_step id name resource key) in
      let below = ltb-true (suc id) (2 ^ 31) (and_parts _ _ (and_parts _ _ both).1).0 in
      omega arith

  pub ids-Store : (id name max : ℕ) (fields : List ℕ) (starts : List Code) → item ≡ Store id name max fields starts → 2 + id + length fields ≤ 2 ^ 31
  unfolding item_ids
  ids-Store id name max fields starts is =
      let long : range_with_len id (2 + length fields) ≡ range_with_len id (suc (suc (length fields))) = ap (range_with_len id) {x = 2 + length fields} {y = suc (suc (length fields))} (omega arith) in
      let below = range_end id (suc (length fields)) (form is (fold-Store ids_step id name max fields starts ∙ long)) in
      omega arith

  pub ids-Area : (id name owner : ℕ) (items : List Item) → item ≡ Area id name owner items → all_below (ids_in items) ≡ true
  unfolding item_ids
  ids-Area id name owner items is = behind (id ∷ []) items (form is (fold-Area ids_step id name owner items))

  pub ids-If : (id : ℕ) (cond : Expr) (items : List Item) → item ≡ If id cond items → all_below (ids_in items) ≡ true
  unfolding item_ids
  ids-If id cond items is = behind (id ∷ []) items (form is (fold-If ids_step id cond items))

  pub ids-Each : (id store : ℕ) (items : List Item) → item ≡ Each id store items → all_below (ids_in items) ≡ true
  unfolding item_ids
  ids-Each id store items is = behind (id ∷ []) items (form is (fold-Each ids_step id store items))

  pub ids-Element : (tag : ℕ) (closed : Bool) (attrs : List Attr) (items : List Item) → item ≡ Element tag closed attrs items → all_below (ids_in items) ≡ true
  unfolding item_ids
  ids-Element tag closed attrs items is = behind (flat_map attr_ids attrs) items (form is (fold-Element ids_step tag closed attrs items))

-- the ids of a component
pub ids_of_kept : (component : Component) → IsKept component → all_below (ids_in component.items) ≡ true
ids_of_kept component kept = let few = kept.few_ids in ap all_below kept.numbered.ids ∙ range_below 0 (length (ids_in component.items)) (omega arith)

-- ---- stores

module _ (fits : ℕ → ℕ → ℕ → Bool) (item : Item) (fit : item_fits fits item ≡ true) where
  fit_form : {X : Item} {fitting : Bool} → item ≡ X → item_fits fits X ≡ fitting → fitting ≡ true
  fit_form is fitting = sym fitting ∙ ap (item_fits fits) (sym is) ∙ fit

  fit_items : (items : List Item) → list_all (λ b. b) (map (item_fits fits) items) ≡ true → list_all (item_fits fits) items ≡ true
  fit_items items all = sym (list_all-map (λ b. b) (item_fits fits) items) ∙ all

  pub fits-Store : (id name max : ℕ) (fields : List ℕ) (starts : List Code) → item ≡ Store id name max fields starts → fits id max (length fields) ≡ true
  unfolding item_fits
  fits-Store id name max fields starts is = fit_form is (fold-Store (fits_step fits) id name max fields starts)

  pub fits-Area : (id name owner : ℕ) (items : List Item) → item ≡ Area id name owner items → list_all (item_fits fits) items ≡ true
  unfolding item_fits
  fits-Area id name owner items is = fit_items items (fit_form is (fold-Area (fits_step fits) id name owner items))

  pub fits-If : (id : ℕ) (cond : Expr) (items : List Item) → item ≡ If id cond items → list_all (item_fits fits) items ≡ true
  unfolding item_fits
  fits-If id cond items is = fit_items items (fit_form is (fold-If (fits_step fits) id cond items))

  pub fits-Each : (id store : ℕ) (items : List Item) → item ≡ Each id store items → list_all (item_fits fits) items ≡ true
  unfolding item_fits
  fits-Each id store items is = fit_items items (fit_form is (fold-Each (fits_step fits) id store items))

  pub fits-Element : (tag : ℕ) (closed : Bool) (attrs : List Attr) (items : List Item) → item ≡ Element tag closed attrs items → list_all (item_fits fits) items ≡ true
  unfolding item_fits
  fits-Element tag closed attrs items is = fit_items items (fit_form is (fold-Element (fits_step fits) tag closed attrs items))

-- ---- rows

pub rows_there : (held : Held) (id : ℕ) (store : KeyedRows) → Some store ≡ store_of held id → rows_held held id ≡ store.rows
rows_there held id store is = at (holding_of held id) is
  where
    at : (holding : Holding) → Some store ≡ store_in holding → rows_in holding ≡ store.rows
    at nothing is = cc
    at (value code) is = cc
    at (stored there) is = let same : store ≡ there = cc in ap (λ s. s.rows) (sym same)
    at (arrived key) is = cc

pub no_rows_there : (held : Held) (id : ℕ) → None ≡ store_of held id → rows_held held id ≡ []
no_rows_there held id is = at (holding_of held id) is
  where
    at : (holding : Holding) → None ≡ store_in holding → rows_in holding ≡ []
    at nothing is = refl
    at (value code) is = refl
    at (stored there) is = cc
    at (arrived key) is = refl

narrow : (id width : ℕ) (rows : List Row) → 2 + id + width ≤ 2 ^ 31 → list_all (λ row. length row.fields == width) rows ≡ true → rows_narrow id rows ≡ true
narrow id width [] small wide = refl
narrow id width (row ∷ rows) small wide =
    let both = and_parts (length row.fields == width) (list_all (λ row. length row.fields == width) rows) wide in
    let same : length row.fields ≡ width = eqb-true (length row.fields) width both.0 in
    and_from _ _ (subst (λ n. nat_le (2 + id + n) (2 ^ 31) ≡ true) (sym same) (le-leb (2 + id + width) (2 ^ 31) small)) (narrow id width rows small both.1)

-- the fields of a store have small ids in each row
pub narrow_rows : (held : Held) (id max : ℕ) (fields : List ℕ) (store : KeyedRows) → 2 + id + length fields ≤ 2 ^ 31 → store_held held id max (length fields) ≡ true → Some store ≡ store_of held id → rows_narrow id store.rows ≡ true
narrow_rows held id max fields store small fit is = at (holding_of held id) fit is
  where
    at : (holding : Holding) → holding_fits max (length fields) holding ≡ true → Some store ≡ store_in holding → rows_narrow id store.rows ≡ true
    at nothing fit is = cc
    at (value code) fit is = cc
    at (stored there) fit is =
        let same : store ≡ there = cc in
        let parts = and_parts ((there.max == max) && (there.width == length fields)) (rows_fit max (length fields) there.rows) fit in
        ap (λ s. rows_narrow id s.rows) same ∙ narrow id (length fields) there.rows small (and_parts _ _ parts.1).0
    at (arrived key) fit is = cc

pub narrow_at : (id : ℕ) (rows : List Row) (i : ℕ) (row : Row) → rows_narrow id rows ≡ true → slice_get rows i ≡ Some row → 2 + id + length row.fields ≤ 2 ^ 31
narrow_at id [] i row all is = cc
narrow_at id (x ∷ rows) zero row all is =
    let same : x ≡ row = cc in
    subst (λ (r : Row). 2 + id + length r.fields ≤ 2 ^ 31) same (leb-true (2 + id + length x.fields) (2 ^ 31) (and_parts _ _ all).0)
narrow_at id (x ∷ rows) (suc i) row all is = narrow_at id rows i row (and_parts _ _ all).1 is
