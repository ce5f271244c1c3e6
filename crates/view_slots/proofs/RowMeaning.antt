-- A row that is mounted again shows the view that is made again.
use Rattle.std.proofs.Common.{◌≡◌, ℕ, suc, ◌+◌, ◌-◌, ◌<◌, ◌≤◌, ◌==◌, ◌||◌, ◌&&◌, not, nat_le, if◌then◌else◌, Bool, true, false, List, [], ◌∷◌, ◌++◌, length, slice_get, Option, Some, None, refl, sym, ap, subst, ◌∙◌, arith}
use Rattle.std.specs.List.{list_any, flat_map, range_with_len}
use Rattle.std.proofs.lemmas.Bool.{leb-true}
use Rattle.std.proofs.lemmas.Option.{slice_get_within}
use Rattle.values.specs.declared.code.Code.{Code}
use Rattle.values.specs.Evaluation.{is_same}
use Rattle.component_items.specs.declared.component.Component.{Component}
use Rattle.component_items.specs.declared.component.Item.{Item}
use Rattle.component_items.specs.declared.component.Item.TheVariants.{Area, If, Each, Element}
use Rattle.component_items.specs.Ids.{attr_ids, item_ids, ids_in}
use Rattle.component_items.specs.Kept.{IsKept, standing_at_top}
use Rattle.plain_evaluation.specs.Page.{View}
use Rattle.plain_evaluation.specs.Place.{Place, same_key, same_place, of_row}
use Rattle.plain_evaluation.proofs.Places.{and_cases, same_code}
use Rattle.view_meaning.specs.Mounted.{Seen, Mounted, mounted_again}
use Rattle.view_meaning.specs.Parts.{Part, plain, shows, begins, bare, fixed, valued, begun, ends, area, branch, each, row, items_parts, parts_in, keys_mounted, is_each, has_each}
use Rattle.view_meaning.proofs.Apart.{rows_stand}
use Rattle.view_slots.specs.Home.{Sides, Home, rowless, home_parts, top_parts, opens_at, has_open, repeats, has_rows, sides_at, remounted}
use Rattle.view_slots.specs.Eaches.{EachOf, StandsIn, here, later, in_area, in_if, in_element}
use Rattle.view_slots.specs.Shows.{Shows, IsRowHome, IsMountedRow}
use Rattle.view_slots.proofs.Tests.{is_cell, has_cell-any, has_id, is_elsewhere, among, none_leading}
use Rattle.view_slots.proofs.Meaning.{shows_again, top_split, outer_repeats}
use Rattle.view_slots.proofs.RowHomes.{AreApart, range_apart, range_has, ids-Area, ids-If, ids-Each, ids-Element, all_stand, IsOfRow, has_row, one_store, repeats_each}

-- ---- the ids of an `each` are numbered

range_split : (xs ys : List ℕ) (n : ℕ) → xs ++ ys ≡ range_with_len n (length (xs ++ ys)) → (xs ≡ range_with_len n (length xs)) × (ys ≡ range_with_len (n + length xs) (length ys))
range_split [] ys n is = let e : n + 0 ≡ n = omega arith in (refl, rw e is)
range_split (x ∷ xs) ys n is =
    let first : x ≡ n = cc in
    let rest : xs ++ ys ≡ range_with_len (n + 1) (length (xs ++ ys)) = cc in
    let both = range_split xs ys (n + 1) rest in
    ((λ i. first i ∷ both.0 i), both.1 ∙ ap (λ k. range_with_len k (length ys)) {x = n + 1 + length xs} {y = n + suc (length xs)} (omega arith))

first_is : (id n : ℕ) (ids : List ℕ) → id ∷ ids ≡ range_with_len n (suc (length ids)) → (id ≡ n) × (ids ≡ range_with_len (n + 1) (length ids))
first_is id n ids is = (cc, cc)

abbrev Numbered : ℕ → List ℕ → Type 0
Numbered n ids = ids ≡ range_with_len n (length ids)

-- the ids of the first item, then those of the rest
parted : (item : Item) (more : List Item) (ids : List ℕ) (n : ℕ) → item_ids item ≡ ids → Numbered n (ids_in (item ∷ more)) → Numbered n (ids ++ ids_in more)
parted item more ids n is numbered = subst (λ l. Numbered n (l ++ ids_in more)) is numbered

pub each_numbered : (e : EachOf) (items : List Item) (n : ℕ) → Numbered n (ids_in items) → StandsIn e items → Numbered (e.id + 1) (ids_in e.items)
each_numbered e items n is (here more) =
    let split = range_split (e.id ∷ ids_in e.items) (ids_in more) n (parted (Each e.id e.store e.items) more (e.id ∷ ids_in e.items) n (ids-Each e.id e.store e.items) is) in
    let one = first_is e.id n (ids_in e.items) split.0 in
    one.1 ∙ ap (λ k. range_with_len (k + 1) (length (ids_in e.items))) (sym one.0)
each_numbered e items n is (later item more st) = each_numbered e more (n + length (item_ids item)) (range_split (item_ids item) (ids_in more) n is).1 st
each_numbered e items n is (in_area id name owner inner more st) =
    let split = range_split (id ∷ ids_in inner) (ids_in more) n (parted (Area id name owner inner) more (id ∷ ids_in inner) n (ids-Area id name owner inner) is) in
    each_numbered e inner (n + 1) (first_is id n (ids_in inner) split.0).1 st
each_numbered e items n is (in_if id cond inner more st) =
    let split = range_split (id ∷ ids_in inner) (ids_in more) n (parted (If id cond inner) more (id ∷ ids_in inner) n (ids-If id cond inner) is) in
    each_numbered e inner (n + 1) (first_is id n (ids_in inner) split.0).1 st
each_numbered e items n is (in_element tag closed attrs inner more st) =
    let split = range_split (flat_map attr_ids attrs ++ ids_in inner) (ids_in more) n (parted (Element tag closed attrs inner) more (flat_map attr_ids attrs ++ ids_in inner) n (ids-Element tag closed attrs inner) is) in
    each_numbered e inner (n + length (flat_map attr_ids attrs)) (range_split (flat_map attr_ids attrs) (ids_in inner) n split.0).1 st

-- an id that the home of a row has is one of the `each`
pub row_within : (e : EachOf) (home : Home) (id : ℕ) (s : Sides) → IsRowHome e home → sides_at home id ≡ Some s → (e.id + 1 ≤ id) × (id < e.id + 1 + length (ids_in e.items))
row_within e home id s is_home got = at (nat_le home.base id) refl got
  where
    at : (b : Bool) → nat_le home.base id ≡ b → (if b then slice_get home.sides (id - home.base) else None) ≡ Some s → (e.id + 1 ≤ id) × (id < e.id + 1 + length (ids_in e.items))
    at true is found =
        let low : home.base ≤ id = leb-true home.base id is in
        let high : id - home.base < length home.sides = slice_get_within home.sides (id - home.base) s found in
        (omega (arith, low, is_home.base), omega (arith, low, high, is_home.base, is_home.count))
    at false is found = cc

row_id : (e : EachOf) (home : Home) (id : ℕ) (s : Sides) → IsRowHome e home → Numbered (e.id + 1) (ids_in e.items) → sides_at home id ≡ Some s → among id (ids_in e.items) ≡ true
row_id e home id s is_home numbered got =
    let w = row_within e home id s is_home got in
    ap (among id) numbered ∙ range_has (e.id + 1) (length (ids_in e.items)) id w.0 w.1

-- ---- the parts of one row

whole : (b : Bool) → (b || false) ≡ true → b ≡ true
whole true h = refl
whole false h = h

with_id : (id : ℕ) (key : Code) (q : Place) → (same_place q (of_row id key) || false) ≡ true → ((q.id == id) || false) ≡ true
with_id id key q h = ap (λ b. b || false) (and_cases (q.id == id) (same_key q.key (Some key)) (whole (same_place q (of_row id key)) h)).0

with_key : (id : ℕ) (key other : Code) → is_same key other ≡ false → (q : Place) → (same_place q (of_row id key) || false) ≡ true → not (same_key q.key (Some other)) ≡ true
with_key id key other apart q h = at q.key (and_cases (q.id == id) (same_key q.key (Some key)) (whole (same_place q (of_row id key)) h)).1
  where
    at : (own : Option Code) → same_key own (Some key) ≡ true → not (same_key own (Some other)) ≡ true
    at None h = cc
    at (Some c) h = let e : c ≡ key = same_code c key h in ap (λ (k : Code). not (is_same k other)) e ∙ ap not apart

or_it : (b : Bool) → b ≡ true → (b || false) ≡ true
or_it b h = ap (λ x. x || false) h

pub row_cell : (id : ℕ) (key : Code) → IsOfRow (is_cell (of_row id key)) id key
row_cell id key = record { with_id = ids; with_key = keys; rows = λ own k. refl; eaches = λ own store. refl }
  where
    ids : (part : Part) → is_cell (of_row id key) part ≡ true → has_id id part ≡ true
    ids (plain number) h = cc
    ids (shows q) h = with_id id key q h
    ids (begins tag) h = cc
    ids (bare name) h = cc
    ids (fixed name number) h = cc
    ids (valued name q) h = with_id id key q h
    ids begun h = cc
    ids (ends tag) h = cc
    ids (area q) h = cc
    ids (branch q) h = cc
    ids (each own store) h = cc
    ids (row own k) h = cc

    keys : (other : Code) → is_same key other ≡ false → (part : Part) → is_cell (of_row id key) part ≡ true → is_elsewhere (Some other) part ≡ true
    keys other apart (plain number) h = cc
    keys other apart (shows q) h = with_key id key other apart q h
    keys other apart (begins tag) h = cc
    keys other apart (bare name) h = cc
    keys other apart (fixed name number) h = cc
    keys other apart (valued name q) h = with_key id key other apart q h
    keys other apart begun h = cc
    keys other apart (ends tag) h = cc
    keys other apart (area q) h = cc
    keys other apart (branch q) h = cc
    keys other apart (each own store) h = cc
    keys other apart (row own k) h = cc

pub row_open : (id : ℕ) (key : Code) → IsOfRow (opens_at (of_row id key)) id key
row_open id key = record { with_id = ids; with_key = keys; rows = λ own k. refl; eaches = λ own store. refl }
  where
    ids : (part : Part) → opens_at (of_row id key) part ≡ true → has_id id part ≡ true
    ids (plain number) h = cc
    ids (shows q) h = cc
    ids (begins tag) h = cc
    ids (bare name) h = cc
    ids (fixed name number) h = cc
    ids (valued name q) h = cc
    ids begun h = cc
    ids (ends tag) h = cc
    ids (area q) h = with_id id key q (or_it (same_place q (of_row id key)) h)
    ids (branch q) h = with_id id key q (or_it (same_place q (of_row id key)) h)
    ids (each own store) h = cc
    ids (row own k) h = cc

    keys : (other : Code) → is_same key other ≡ false → (part : Part) → opens_at (of_row id key) part ≡ true → is_elsewhere (Some other) part ≡ true
    keys other apart (plain number) h = cc
    keys other apart (shows q) h = cc
    keys other apart (begins tag) h = cc
    keys other apart (bare name) h = cc
    keys other apart (fixed name number) h = cc
    keys other apart (valued name q) h = cc
    keys other apart begun h = cc
    keys other apart (ends tag) h = cc
    keys other apart (area q) h = with_key id key other apart q (or_it (same_place q (of_row id key)) h)
    keys other apart (branch q) h = with_key id key other apart q (or_it (same_place q (of_row id key)) h)
    keys other apart (each own store) h = cc
    keys other apart (row own k) h = cc

-- ---- the whole page

-- In a row of an `each` a page has what the row's items have there, where the `each` is mounted and its store shows the
-- row; else it has nothing.
pub page_row : (view : View) (component : Component) (e : EachOf) (key : Code) (test : Part → Bool) (id : ℕ) → IsOfRow test id key → IsKept component → StandsIn e component.items → among id (ids_in e.items) ≡ true → list_any test (parts_in view component.items) ≡ ((has_rows (top_parts view component.items) e.id && list_any (is_same key) (view.keys e.id e.store)) && list_any test (home_parts view e.items (Some key)))
page_row view component e key test id of kept st has = at (view.live 0)
  where
    at : (live : Bool) → list_any test (if live then items_parts view component.items None else []) ≡ ((has_rows (if live then items_parts (rowless view) component.items None else []) e.id && list_any (is_same key) (view.keys e.id e.store)) && list_any test (home_parts view e.items (Some key)))
    at true = has_row view e key test id of has component.items standing_at_top (all_stand standing_at_top component.items ∙ kept.stand) (subst AreApart (sym kept.numbered.ids) (range_apart 0 (length (ids_in component.items)))) st
    at false = refl

pub row_shows : (seen : Seen) (component : Component) (old : Mounted) (home : Home) (e : EachOf) (key : Code) → IsKept component → StandsIn e component.items → IsMountedRow seen.view component.items e key → IsRowHome e home → Shows old (Some key) home → Shows (mounted_again component.items seen old) (Some key) (remounted seen (home_parts seen.view e.items (Some key)) (Some key) home)
row_shows seen component old home e key kept st mounted is_home shown =
    shows_again seen (home_parts seen.view e.items (Some key)) (Some key) home component.items old (record {
      cells = λ id s is. has_cell-any (parts_in seen.view component.items) (of_row id key) ∙ page_row seen.view component e key (is_cell (of_row id key)) id (row_cell id key) kept st (inside id s is) ∙ there (list_any (is_cell (of_row id key)) (home_parts seen.view e.items (Some key))) ∙ sym (has_cell-any (home_parts seen.view e.items (Some key)) (of_row id key));
      opens = λ id s is. page_row seen.view component e key (opens_at (of_row id key)) id (row_open id key) kept st (inside id s is) ∙ there (has_open (home_parts seen.view e.items (Some key)) (of_row id key));
      repeats = λ id s none is. cc;
    }) shown
  where
    inside : (id : ℕ) (s : Sides) → sides_at home id ≡ Some s → among id (ids_in e.items) ≡ true
    inside id s is = row_id e home id s is_home (each_numbered e component.items 0 kept.numbered.ids st) is

    there : (b : Bool) → ((has_rows (top_parts seen.view component.items) e.id && list_any (is_same key) (seen.view.keys e.id e.store)) && b) ≡ b
    there b = λ i. (mounted.mounted i && mounted.there i) && b

-- ---- the rows that are mounted

pub each_keys : (view : View) (component : Component) (e : EachOf) → IsKept component → StandsIn e component.items → keys_mounted (parts_in view component.items) e.id ≡ (if has_rows (top_parts view component.items) e.id then view.keys e.id e.store else [])
each_keys view component e kept st = at (has_rows (top_parts view component.items) e.id) refl
  where
    whole_page : has_each (parts_in view component.items) e.id e.store ≡ has_rows (parts_in view component.items) e.id
    whole_page = at (view.live 0)
      where
        at : (live : Bool) → has_each (if live then items_parts view component.items None else []) e.id e.store ≡ has_rows (if live then items_parts view component.items None else []) e.id
        at true = one_store view e component.items (subst AreApart (sym kept.numbered.ids) (range_apart 0 (length (ids_in component.items)))) st
        at false = refl

    page_rows : has_rows (parts_in view component.items) e.id ≡ has_rows (top_parts view component.items) e.id
    page_rows = top_split view component (repeats e.id) (outer_repeats e.id) kept

    at : (b : Bool) → has_rows (top_parts view component.items) e.id ≡ b → keys_mounted (parts_in view component.items) e.id ≡ (if b then view.keys e.id e.store else [])
    at true is = (rows_stand view component kept).seen e.id e.store (whole_page ∙ page_rows ∙ is)
    at false is = (rows_stand view component kept).none e.id (λ store. none_leading (is_each e.id store) (repeats e.id) (repeats_each e.id store) (parts_in view component.items) (page_rows ∙ is))
