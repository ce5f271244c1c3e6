-- No store has room for more rows than the component says: at the start, and after each change.
use Rattle.std.proofs.Common.{◌≡◌, ℕ, zero, suc, ◌+◌, ◌-◌, ◌<◌, ◌≤◌, ◌⊎◌, inl, inr, ◌==◌, ◌&&◌, if◌then◌else◌, nat_le, Bool, true, false, List, [], ◌∷◌, ◌++◌, Some, map, length, get_or, set, refl, sym, ap, subst, ◌∙◌, arith, length-append, leb-true, Option, None}
use Rattle.std.specs.List.{flat_map, concat, list_all, range_with_len}
use Rattle.std.proofs.lemmas.Bool.{eqb-true}
use Rattle.std.proofs.lemmas.List.{length-map}
use Rattle.std.proofs.lemmas.List.Sums.{sum_by-cons}
use Rattle.std.proofs.lemmas.List.FromFn.{length-range_with_len}
use Rattle.values.specs.declared.code.Code.{Code}
use Rattle.store_fields.specs.Edits.{KeyedRows}
use Rattle.component_items.specs.declared.component.Attr.{Attr}
use Rattle.component_items.specs.declared.component.Attr.TheVariants as attr
use Rattle.component_items.specs.declared.component.Component.{Component}
use Rattle.component_items.specs.declared.component.Item.{Item}
use Rattle.component_items.specs.declared.component.Item.TheOpen as level
use Rattle.component_items.specs.declared.component.Item.TheOpen.{Item-F}
use Rattle.component_items.specs.declared.component.Item.TheViews.{roll-Item}
use Rattle.component_items.specs.declared.component.Item.TheFolds.{fold-roll-Item, map-Item, ind-Item}
use Rattle.component_items.specs.Ids.{attr_ids, ids_step, item_ids, ids_in}
use Rattle.component_items.specs.Counts.{maximum_among, maximum_step, item_maximum, maximum_in}
use Rattle.component_items.specs.Kept.{IsKept}
use Rattle.plain_evaluation.specs.Held.{Holding, nothing, value, stored, arrived, no_rows, Held, holding_of, rows_in, rows_held, first_attr, first_step, item_first, first_held}
use Rattle.plain_evaluation.specs.Fits.{keys_differ, rows_fit, holding_fits, store_held, Fits}
use Rattle.plain_evaluation.specs.Killed.{Going, without}
use Rattle.plain_evaluation.specs.Changed.{store_in, store_of, with_holding, most_in, StoresFit}
use Rattle.plain_evaluation.proofs.Places.{and_cases, and_both}
use Rattle.plain_evaluation.proofs.Begins.{attrs_long}
use Rattle.plain_evaluation.proofs.Fitting.{items_follow}
use Rattle.plain_evaluation.proofs.Goings.{Numbered, numbered-cons, numbered-append}
use Rattle.plain_evaluation.proofs.KilledLemmas.{left}

-- ---- at the start

-- holdings of these ids, the first of which is n, with room for no more rows than the function gives each
abbrev MostOn : List ℕ → List Holding → (ℕ → ℕ) → Type 0
MostOn ids holdings maximum = (length ids ≡ length holdings) × ((n : ℕ) → Numbered n ids → (k : ℕ) → most_in (get_or holdings k nothing) ≤ maximum (n + k))

get_or-before : (xs ys : List Holding) (k : ℕ) → k < length xs → get_or (xs ++ ys) k nothing ≡ get_or xs k nothing
get_or-before [] ys k within = absurd (omega arith)
get_or-before (x ∷ xs) ys zero within = refl
get_or-before (x ∷ xs) ys (suc k) within = get_or-before xs ys k (omega arith)

get_or-behind : (xs ys : List Holding) (k : ℕ) → length xs ≤ k → get_or (xs ++ ys) k nothing ≡ get_or ys (k - length xs) nothing
get_or-behind [] ys k past = ap (λ (j : ℕ). get_or ys j nothing) {x = k} {y = k - 0} (omega arith)
get_or-behind (x ∷ xs) ys zero past = absurd (omega arith)
get_or-behind (x ∷ xs) ys (suc k) past = get_or-behind xs ys k (omega arith) ∙ ap (λ (j : ℕ). get_or ys j nothing) {x = k - length xs} {y = suc k - suc (length xs)} (omega arith)

before_or_behind : (k n : ℕ) → (k < n) ⊎ (n ≤ k)
before_or_behind k zero = inr (omega arith)
before_or_behind zero (suc n) = inl (omega arith)
before_or_behind (suc k) (suc n) = at (before_or_behind k n)
  where
    at : (k < n) ⊎ (n ≤ k) → (suc k < suc n) ⊎ (suc n ≤ suc k)
    at (inl lt) = inl (omega arith)
    at (inr le) = inr (omega arith)

most-append : (ids others : List ℕ) (xs ys : List Holding) (one other : ℕ → ℕ) → MostOn ids xs one → MostOn others ys other → MostOn (ids ++ others) (xs ++ ys) (λ store. one store + other store)
most-append ids others xs ys one other first rest = (long, λ n numbered k. at n (numbered-append n ids others numbered) k (before_or_behind k (length xs)))
  where
    long : length (ids ++ others) ≡ length (xs ++ ys)
    long = let a = length-append ids others in let b = length-append xs ys in let c = first.0 in let d = rest.0 in omega arith

    at : (n : ℕ) → Numbered n ids × Numbered (n + length ids) others → (k : ℕ) → (k < length xs) ⊎ (length xs ≤ k) → most_in (get_or (xs ++ ys) k nothing) ≤ one (n + k) + other (n + k)
    at n parts k (inl within) =
        let le = first.1 n parts.0 k in
        let same : most_in (get_or (xs ++ ys) k nothing) ≡ most_in (get_or xs k nothing) = ap most_in (get_or-before xs ys k within) in
        omega arith
    at n parts k (inr past) =
        let le = rest.1 (n + length ids) parts.1 (k - length xs) in
        let same : most_in (get_or (xs ++ ys) k nothing) ≡ most_in (get_or ys (k - length xs) nothing) = ap most_in (get_or-behind xs ys k past) in
        let here : (n + length ids) + (k - length xs) ≡ n + k = let a = first.0 in omega arith in
        let there : other ((n + length ids) + (k - length xs)) ≡ other (n + k) = ap other here in
        omega arith

-- no store among them
abbrev NoStore : List Holding → Type 0
NoStore [] = Unit {0}
NoStore (holding ∷ others) = (most_in holding ≡ 0) × NoStore others

no_store_at : (xs : List Holding) (k : ℕ) → NoStore xs → most_in (get_or xs k nothing) ≡ 0
no_store_at [] k none = refl
no_store_at (x ∷ xs) zero none = none.0
no_store_at (x ∷ xs) (suc k) none = no_store_at xs k none.1

most_none : (ids : List ℕ) (xs : List Holding) → length ids ≡ length xs → NoStore xs → MostOn ids xs (λ store. 0)
most_none ids xs long none = (long, λ n numbered k. (let no = no_store_at xs k none in omega arith))

attrs_no_store : (attrs : List Attr) → NoStore (flat_map first_attr attrs)
attrs_no_store [] = tt
attrs_no_store (attr.Bare name ∷ attrs) = attrs_no_store attrs
attrs_no_store (attr.Fixed name text ∷ attrs) = attrs_no_store attrs
attrs_no_store (attr.Shown name id expr ∷ attrs) = (refl, attrs_no_store attrs)

fields_no_store : (fields : List ℕ) → NoStore (map (λ field. nothing) fields)
fields_no_store [] = tt
fields_no_store (field ∷ fields) = (refl, fields_no_store fields)

most_store : (id max : ℕ) (fields : List ℕ) → MostOn (range_with_len id (2 + length fields)) (stored (no_rows max (length fields)) ∷ nothing ∷ map (λ field. nothing) fields) (λ store. if id == store then max else 0)
most_store id max fields = ((let a = length-range_with_len id (2 + length fields) in let b = length-map fields (λ (field : ℕ). nothing) in omega arith), λ n numbered k. at n k (same n numbered))
  where
    same : (n : ℕ) → Numbered n (range_with_len id (2 + length fields)) → id ≡ n
    same n numbered = (numbered-cons n id (range_with_len (id + 1) (1 + length fields)) (subst (λ (count : ℕ). Numbered n (range_with_len id count)) {x = 2 + length fields} {y = suc (1 + length fields)} (omega arith) numbered)).0

    first : (n : ℕ) (b : Bool) → (id == n) ≡ b → id ≡ n → max ≤ (if b then max else 0)
    first n true is e = omega arith
    first n false is e = absurd (grind arith)

    at : (n k : ℕ) → id ≡ n → most_in (get_or (stored (no_rows max (length fields)) ∷ nothing ∷ map (λ field. nothing) fields) k nothing) ≤ (if id == n + k then max else 0)
    at n zero e = let here : n + 0 ≡ n = omega arith in subst (λ (m : ℕ). max ≤ (if id == m then max else 0)) (sym here) (first n (id == n) refl e)
    at n (suc k) e = let none = no_store_at (nothing ∷ map (λ field. nothing) fields) k (refl, fields_no_store fields) in omega arith

abbrev ItemMost : Item → Type 0
ItemMost item = MostOn (item_ids item) (item_first item) (item_maximum item)

abbrev Proven : Type 0
Proven = (item : Item) × ItemMost item

abbrev items_of : List Proven → List Item
items_of known = map (λ p. p.0) known

abbrev FormMost : Item-F Item → Type 0
FormMost x = MostOn (ids_step (map-Item Item (List ℕ) item_ids x)) (first_step (map-Item Item (List Holding) item_first x)) (maximum_step (map-Item Item (ℕ → ℕ) item_maximum x))

rolled : (x : Item-F Item) → FormMost x → ItemMost (roll-Item x)
unfolding item_ids item_first item_maximum
rolled x most =
    subst (λ f. MostOn f (item_first (roll-Item x)) (item_maximum (roll-Item x))) (sym (fold-roll-Item (List ℕ) ids_step x))
    (subst (λ f. MostOn (ids_step (map-Item Item (List ℕ) item_ids x)) f (item_maximum (roll-Item x))) (sym (fold-roll-Item (List Holding) first_step x))
    (subst (λ f. MostOn (ids_step (map-Item Item (List ℕ) item_ids x)) (first_step (map-Item Item (List Holding) item_first x)) f) (sym (fold-roll-Item (ℕ → ℕ) maximum_step x))
    most))

block : (known : List Proven) → MostOn (concat (map item_ids (items_of known))) (flat_map (λ one. one) (map item_first (items_of known))) (λ store. maximum_among store (map item_maximum (items_of known)))
block [] = most_none [] [] refl tt
block (k ∷ known) = most-append (item_ids k.0) (concat (map item_ids (items_of known))) (item_first k.0) (flat_map (λ one. one) (map item_first (items_of known))) (item_maximum k.0) (λ store. maximum_among store (map item_maximum (items_of known))) k.1 (block known)

-- the same with more before it
behind : (ids : List ℕ) (xs : List Holding) (known : List Proven) → length ids ≡ length xs → NoStore xs → MostOn (ids ++ concat (map item_ids (items_of known))) (xs ++ flat_map (λ one. one) (map item_first (items_of known))) (λ store. maximum_among store (map item_maximum (items_of known)))
behind ids xs known long none =
    let all = most-append ids (concat (map item_ids (items_of known))) xs (flat_map (λ one. one) (map item_first (items_of known))) (λ store. 0) (λ store. maximum_among store (map item_maximum (items_of known))) (most_none ids xs long none) (block known) in
    (all.0, λ n numbered k. (let le = all.1 n numbered k in omega arith))

by_form : (y : Item-F Proven) → FormMost (map-Item Proven Item (λ p. p.0) y)
by_form (level.Signal id name start) = most_none (id ∷ []) (value start ∷ []) refl (refl, tt)
by_form (level.Memo id name expr) = most_none (id ∷ []) (nothing ∷ []) refl (refl, tt)
by_form (level.Effect id name expr) = most_none (id ∷ []) (nothing ∷ []) refl (refl, tt)
by_form (level.Resource id name after keys values) = most_none (id ∷ []) (nothing ∷ []) refl (refl, tt)
by_form (level.Load id name resource key) = most_none (id ∷ suc id ∷ []) (arrived None ∷ nothing ∷ []) refl (refl, (refl, tt))
by_form (level.Store id name max fields starts) = most_store id max fields
by_form (level.Cleanup text) = most_none [] [] refl tt
by_form (level.Area id name owner known) = behind (id ∷ []) (nothing ∷ []) known refl (refl, tt)
by_form (level.If id cond known) = behind (id ∷ []) (nothing ∷ []) known refl (refl, tt)
by_form (level.Each id store known) = behind (id ∷ []) (nothing ∷ []) known refl (refl, tt)
by_form (level.Element tag closed attrs known) = behind (flat_map attr_ids attrs) (flat_map first_attr attrs) known (attrs_long attrs) (attrs_no_store attrs)
by_form (level.Text text) = most_none [] [] refl tt
by_form (level.Shown id expr) = most_none (id ∷ []) (nothing ∷ []) refl (refl, tt)

item_most : (item : Item) → ItemMost item
item_most = ind-Item ItemMost (λ x y is. subst (λ z. ItemMost (roll-Item z)) is (rolled (map-Item Proven Item (λ p. p.0) y) (by_form y)))

items_most : (items : List Item) → MostOn (ids_in items) (flat_map item_first items) (maximum_in items)
items_most [] = most_none [] [] refl tt
items_most (item ∷ items) =
    let all = most-append (item_ids item) (ids_in items) (item_first item) (flat_map item_first items) (item_maximum item) (maximum_in items) (item_most item) (items_most items) in
    (all.0, λ n numbered k. (let le = all.1 n numbered k in let sums = sum_by-cons (λ one. item_maximum one (n + k)) item items in omega arith))

pub first_stores_fit : (component : Component) → IsKept component → StoresFit component (first_held component)
first_stores_fit component kept = record { most = λ id. (let le = (items_most component.items).1 0 kept.numbered.ids id in let here : 0 + id ≡ id = omega arith in subst (λ (n : ℕ). most_in (holding_of (first_held component) id) ≤ maximum_in component.items n) here le) }

-- ---- after a disposal

pub without_stores_fit : (component : Component) (held : Held) (going : Going) → StoresFit component held → StoresFit component (without going held)
without_stores_fit component held going fits = record { most = λ id. at id (left going held id) }
  where
    at : (id : ℕ) → (holding_of (without going held) id ≡ holding_of held id) ⊎ (holding_of (without going held) id ≡ nothing) → most_in (holding_of (without going held) id) ≤ maximum_in component.items id
    at id (inl same) = subst (λ (holding : Holding). most_in holding ≤ maximum_in component.items id) (sym same) (fits.most id)
    at id (inr none) = subst (λ (holding : Holding). most_in holding ≤ maximum_in component.items id) (sym none) (omega arith)

-- ---- after a change

-- at each place the holding is the one before, or the one that was put
pub changed : (held : Held) (id : ℕ) (holding : Holding) (other : ℕ) → (holding_of (with_holding held id holding) other ≡ holding_of held other) ⊎ ((other ≡ id) × (holding_of (with_holding held id holding) other ≡ holding))
changed held id holding other = at held.holdings id other
  where
    at : (list : List Holding) (place other : ℕ) → (get_or (set list place holding) other nothing ≡ get_or list other nothing) ⊎ ((other ≡ place) × (get_or (set list place holding) other nothing ≡ holding))
    at [] place other = inl refl
    at (x ∷ list) zero zero = inr (refl, refl)
    at (x ∷ list) zero (suc other) = inl refl
    at (x ∷ list) (suc place) zero = inl refl
    at (x ∷ list) (suc place) (suc other) = step (at list place other)
      where
        step : (get_or (set list place holding) other nothing ≡ get_or list other nothing) ⊎ ((other ≡ place) × (get_or (set list place holding) other nothing ≡ holding)) → (get_or (set list place holding) other nothing ≡ get_or list other nothing) ⊎ ((suc other ≡ suc place) × (get_or (set list place holding) other nothing ≡ holding))
        step (inl same) = inl same
        step (inr both) = inr (ap suc both.0, both.1)

-- a holding that may stand at an id
pub record MayStand (component : Component) (held : Held) (id : ℕ) (holding : Holding) : Type 0 where
  pub fits : (max width : ℕ) → holding_fits max width (holding_of held id) ≡ true → holding_fits max width holding ≡ true
  pub keys : keys_differ (rows_in holding) ≡ true
  pub few : length (rows_in holding) ≤ maximum_in component.items id
  pub most : most_in holding ≤ maximum_in component.items id

pub changed_fits : (component : Component) (held : Held) (id : ℕ) (holding : Holding) → MayStand component held id holding → Fits component held → Fits component (with_holding held id holding)
changed_fits component held id holding may fits = record {
  stores = items_follow (store_held held) (store_held (with_holding held id holding)) (λ other max width fit. store_at other max width fit (changed held id holding other)) component.items fits.stores;
  keys = λ other. keys_at other (changed held id holding other);
  few = λ other. few_at other (changed held id holding other);
}
  where
    store_at : (other max width : ℕ) → store_held held other max width ≡ true → (holding_of (with_holding held id holding) other ≡ holding_of held other) ⊎ ((other ≡ id) × (holding_of (with_holding held id holding) other ≡ holding)) → store_held (with_holding held id holding) other max width ≡ true
    store_at other max width fit (inl same) = ap (holding_fits max width) same ∙ fit
    store_at other max width fit (inr both) = ap (holding_fits max width) both.1 ∙ may.fits max width (ap (λ (k : ℕ). holding_fits max width (holding_of held k)) (sym both.0) ∙ fit)

    keys_at : (other : ℕ) → (holding_of (with_holding held id holding) other ≡ holding_of held other) ⊎ ((other ≡ id) × (holding_of (with_holding held id holding) other ≡ holding)) → keys_differ (rows_held (with_holding held id holding) other) ≡ true
    keys_at other (inl same) = ap (λ (h : Holding). keys_differ (rows_in h)) same ∙ fits.keys other
    keys_at other (inr both) = ap (λ (h : Holding). keys_differ (rows_in h)) both.1 ∙ may.keys

    few_at : (other : ℕ) → (holding_of (with_holding held id holding) other ≡ holding_of held other) ⊎ ((other ≡ id) × (holding_of (with_holding held id holding) other ≡ holding)) → length (rows_held (with_holding held id holding) other) ≤ maximum_in component.items other
    few_at other (inl same) = subst (λ (h : Holding). length (rows_in h) ≤ maximum_in component.items other) (sym same) (fits.few other)
    few_at other (inr both) = subst (λ (h : Holding). length (rows_in h) ≤ maximum_in component.items other) (sym both.1) (subst (λ (k : ℕ). length (rows_in holding) ≤ maximum_in component.items k) (sym both.0) may.few)

pub changed_stores_fit : (component : Component) (held : Held) (id : ℕ) (holding : Holding) → MayStand component held id holding → StoresFit component held → StoresFit component (with_holding held id holding)
changed_stores_fit component held id holding may fits = record { most = λ other. at other (changed held id holding other) }
  where
    at : (other : ℕ) → (holding_of (with_holding held id holding) other ≡ holding_of held other) ⊎ ((other ≡ id) × (holding_of (with_holding held id holding) other ≡ holding)) → most_in (holding_of (with_holding held id holding) other) ≤ maximum_in component.items other
    at other (inl same) = subst (λ (h : Holding). most_in h ≤ maximum_in component.items other) (sym same) (fits.most other)
    at other (inr both) = subst (λ (h : Holding). most_in h ≤ maximum_in component.items other) (sym both.1) (subst (λ (k : ℕ). most_in holding ≤ maximum_in component.items k) (sym both.0) may.most)

-- what may stand anywhere, and new rows of a store
pub code_may_stand : (component : Component) (held : Held) (id : ℕ) (code : Code) → MayStand component held id (value code)
code_may_stand component held id code = record { fits = λ max width fit. refl; keys = refl; few = omega arith; most = omega arith }

pub key_may_stand : (component : Component) (held : Held) (id : ℕ) (key : Option Code) → MayStand component held id (arrived key)
key_may_stand component held id key = record { fits = λ max width fit. refl; keys = refl; few = omega arith; most = omega arith }

pub rows_may_stand : (component : Component) (held : Held) (id : ℕ) (before store : KeyedRows) → StoresFit component held → store_of held id ≡ Some before → store.max ≡ before.max → store.width ≡ before.width → rows_fit before.max before.width store.rows ≡ true → keys_differ store.rows ≡ true → MayStand component held id (stored store)
rows_may_stand component held id before store fits was max_same width_same rows differ = record {
  fits = λ max width fit. fits_at max width (holding_of held id) was fit;
  keys = differ;
  few = (let le = most_at (holding_of held id) was (fits.most id) in let few = leb-true (length store.rows) before.max (and_cases (list_all (λ row. length row.fields == before.width) store.rows) (nat_le (length store.rows) before.max) rows).1 in omega arith);
  most = (let le = most_at (holding_of held id) was (fits.most id) in omega arith);
}
  where
    most_at : (holding : Holding) → store_in holding ≡ Some before → most_in holding ≤ maximum_in component.items id → before.max ≤ maximum_in component.items id
    most_at nothing is le = cc
    most_at (value code) is le = cc
    most_at (stored old) is le = let same : old ≡ before = cc in subst (λ (s : KeyedRows). s.max ≤ maximum_in component.items id) same le
    most_at (arrived key) is le = cc

    equal : (a b max : ℕ) → a ≡ b → (b == max) ≡ true → (a == max) ≡ true
    equal a b max same is = ap (λ (n : ℕ). n == max) same ∙ is

    fits_at : (max width : ℕ) (holding : Holding) → store_in holding ≡ Some before → holding_fits max width holding ≡ true → holding_fits max width (stored store) ≡ true
    fits_at max width nothing is fit = cc
    fits_at max width (value code) is fit = cc
    fits_at max width (stored old) is fit =
        let same : old ≡ before = cc in
        let now : holding_fits max width (stored before) ≡ true = ap (λ (s : KeyedRows). holding_fits max width (stored s)) (sym same) ∙ fit in
        let both = and_cases ((before.max == max) && (before.width == width)) (rows_fit max width before.rows) now in
        let sizes = and_cases (before.max == max) (before.width == width) both.0 in
        let at_max : before.max ≡ max = eqb-true before.max max sizes.0 in
        let at_width : before.width ≡ width = eqb-true before.width width sizes.1 in
        and_both ((store.max == max) && (store.width == width)) (rows_fit max width store.rows)
        (and_both (store.max == max) (store.width == width) (equal store.max before.max max max_same sizes.0) (equal store.width before.width width width_same sizes.1))
        (sym (λ i. rows_fit (at_max i) (at_width i) store.rows) ∙ rows)
    fits_at max width (arrived key) is fit = cc
