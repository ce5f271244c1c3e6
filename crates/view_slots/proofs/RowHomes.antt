-- What a page has in one row of an `each`.
use Rattle.std.proofs.Common.{◌≡◌, ℕ, zero, suc, ◌+◌, ◌<◌, ◌≤◌, ◌==◌, ◌||◌, ◌&&◌, if◌then◌else◌, Bool, true, false, List, [], ◌∷◌, ◌++◌, map, Option, Some, None, refl, sym, ap, subst, ◌∙◌, arith}
use Rattle.std.specs.List.{list_any, list_all, flat_map, concat, range_with_len}
use Rattle.std.proofs.lemmas.Bool.{eqb-true}
use Rattle.std.proofs.lemmas.List.Folds.{list_any-append}
use Rattle.values.specs.declared.code.Code.{Code}
use Rattle.values.specs.declared.expr.Expr.{Expr}
use Rattle.values.specs.Evaluation.{is_same, truth}
use Rattle.component_items.specs.declared.component.Attr.{Attr}
use Rattle.component_items.specs.declared.component.Item.{Item}
use Rattle.component_items.specs.declared.component.Item.TheVariants.{Area, If, Each, Element}
use Rattle.component_items.specs.Ids.{attr_ids, ids_step, item_ids, ids_in}
use Rattle.component_items.specs.Kept.{Standing, may_have_area, may_have_each, inside_area, inside_if, inside_each, inside_element, stand_all, stands_step, item_stands}
use Rattle.component_items.proofs.FoldLemmas.{fold-Area, fold-If, fold-Each, fold-Element, at-Area, at-If, at-Each, at-Element}
use Rattle.plain_evaluation.specs.Page.{View}
use Rattle.plain_evaluation.specs.Place.{place_at}
use Rattle.plain_evaluation.proofs.Places.{and_cases, and_both, or_none, same_code}
use Rattle.view_meaning.specs.Parts.{Part, plain, shows, begins, bare, fixed, valued, begun, ends, area, branch, each, row, attr_part, ending, parts_step, item_parts, items_parts, is_each, has_each}
use Rattle.view_slots.specs.Home.{rowless, repeats, has_rows}
use Rattle.view_slots.specs.Eaches.{EachOf, StandsIn, here, later, in_area, in_if, in_element}
use Rattle.view_slots.proofs.HomeParts.{parts-joined, parts-Area, parts-If, parts-Element, parts-Each}
use Rattle.view_slots.proofs.Tests.{among, has_id, is_elsewhere, contra, or_false, none_leading, without_id, without_attrs, without_end, items_without_id, items_placed}
use Rattle.view_slots.proofs.Rowless.{items_single}

-- ---- lists with no id twice

abbrev pub AreApart : List ℕ → Type 0
AreApart [] = Unit {0}
AreApart (x ∷ xs) = (among x xs ≡ false) × AreApart xs

among-append : (x : ℕ) (xs ys : List ℕ) → among x (xs ++ ys) ≡ (among x xs || among x ys)
among-append x xs ys = list_any-append (λ y. y == x) xs ys

first_apart : (xs ys : List ℕ) → AreApart (xs ++ ys) → AreApart xs
first_apart [] ys h = tt
first_apart (x ∷ xs) ys h = ((or_none (among x xs) (among x ys) (sym (among-append x xs ys) ∙ h.0)).0, first_apart xs ys h.1)

second_apart : (xs ys : List ℕ) → AreApart (xs ++ ys) → AreApart ys
second_apart [] ys h = h
second_apart (x ∷ xs) ys h = second_apart xs ys h.1

-- what is in the second part is not in the first
not_before : (xs ys : List ℕ) (n : ℕ) → AreApart (xs ++ ys) → among n ys ≡ true → among n xs ≡ false
not_before [] ys n h has = refl
not_before (x ∷ xs) ys n h has = at (x == n) refl (not_before xs ys n h.1 has)
  where
    at : (b : Bool) → (x == n) ≡ b → among n xs ≡ false → (b || among n xs) ≡ false
    at true is rest =
        let none = (or_none (among x xs) (among x ys) (sym (among-append x xs ys) ∙ h.0)).1 in
        let e : true ≡ false = sym has ∙ ap (λ m. among m ys) (sym (eqb-true x n is)) ∙ none in
        absurd cc
    at false is rest = rest

-- what is in the first part is not in the second
not_behind : (xs ys : List ℕ) (n : ℕ) → AreApart (xs ++ ys) → among n xs ≡ true → among n ys ≡ false
not_behind xs ys n h has = at (among n ys) refl
  where
    at : (b : Bool) → among n ys ≡ b → b ≡ false
    at true is = let e : true ≡ false = sym has ∙ not_before xs ys n h is in absurd cc
    at false is = refl

range_above : (a n x : ℕ) → x < a → among x (range_with_len a n) ≡ false
range_above a zero x below = refl
range_above a (suc n) x below = at (a == x) refl (range_above (a + 1) n x (omega (arith, below)))
  where
    at : (b : Bool) → (a == x) ≡ b → among x (range_with_len (a + 1) n) ≡ false → (b || among x (range_with_len (a + 1) n)) ≡ false
    at true is rest = absurd (no (eqb-true a x is))
      where
        no : a ≡ x → ⊥
        no e = omega (arith, below, e)
    at false is rest = rest

pub range_apart : (a n : ℕ) → AreApart (range_with_len a n)
range_apart a zero = tt
range_apart a (suc n) = (range_above (a + 1) n a (omega arith), range_apart (a + 1) n)

pub range_has : (a n x : ℕ) → a ≤ x → x < a + n → among x (range_with_len a n) ≡ true
range_has a zero x low high = absurd (omega (arith, low, high))
range_has a (suc n) x low high = at (a == x) refl (λ above. range_has (a + 1) n x above (omega (arith, high)))
  where
    at : (b : Bool) → (a == x) ≡ b → (a + 1 ≤ x → among x (range_with_len (a + 1) n) ≡ true) → (b || among x (range_with_len (a + 1) n)) ≡ true
    at true is rest = refl
    at false is rest = rest (grind (arith, is, low))

-- ---- the ids of items

concat-map : (items : List Item) → concat (map item_ids items) ≡ ids_in items
concat-map [] = refl
concat-map (item ∷ items) = ap (λ more. item_ids item ++ more) (concat-map items)

pub ids-Area : (id name owner : ℕ) (items : List Item) → item_ids (Area id name owner items) ≡ id ∷ ids_in items
unfolding item_ids
ids-Area id name owner items = fold-Area ids_step id name owner items ∙ ap (λ more. id ∷ more) (concat-map items)

pub ids-If : (id : ℕ) (cond : Expr) (items : List Item) → item_ids (If id cond items) ≡ id ∷ ids_in items
unfolding item_ids
ids-If id cond items = fold-If ids_step id cond items ∙ ap (λ more. id ∷ more) (concat-map items)

pub ids-Each : (id store : ℕ) (items : List Item) → item_ids (Each id store items) ≡ id ∷ ids_in items
unfolding item_ids
ids-Each id store items = fold-Each ids_step id store items ∙ ap (λ more. id ∷ more) (concat-map items)

pub ids-Element : (tag : ℕ) (closed : Bool) (attrs : List Attr) (items : List Item) → item_ids (Element tag closed attrs items) ≡ flat_map attr_ids attrs ++ ids_in items
unfolding item_ids
ids-Element tag closed attrs items = fold-Element ids_step tag closed attrs items ∙ ap (λ more. flat_map attr_ids attrs ++ more) (concat-map items)

either_first : (a b : Bool) → a ≡ true → (a || b) ≡ true
either_first true b h = refl
either_first false b h = cc

either_second : (a b : Bool) → b ≡ true → (a || b) ≡ true
either_second true b h = refl
either_second false b h = h

among_first : (x : ℕ) (xs ys : List ℕ) → among x xs ≡ true → among x (xs ++ ys) ≡ true
among_first x xs ys h = among-append x xs ys ∙ either_first (among x xs) (among x ys) h

among_second : (x : ℕ) (xs ys : List ℕ) → among x ys ≡ true → among x (xs ++ ys) ≡ true
among_second x xs ys h = among-append x xs ys ∙ either_second (among x xs) (among x ys) h

-- the ids of an `each` are among those of the items that it stands in
each_among : (e : EachOf) (x : ℕ) (items : List Item) → StandsIn e items → among x (e.id ∷ ids_in e.items) ≡ true → among x (ids_in items) ≡ true
each_among e x items (here more) has = among_first x (item_ids (Each e.id e.store e.items)) (ids_in more) (ap (among x) (ids-Each e.id e.store e.items) ∙ has)
each_among e x items (later item more st) has = among_second x (item_ids item) (ids_in more) (each_among e x more st has)
each_among e x items (in_area id name owner inner more st) has = among_first x (item_ids (Area id name owner inner)) (ids_in more) (ap (among x) (ids-Area id name owner inner) ∙ either_second (id == x) (among x (ids_in inner)) (each_among e x inner st has))
each_among e x items (in_if id cond inner more st) has = among_first x (item_ids (If id cond inner)) (ids_in more) (ap (among x) (ids-If id cond inner) ∙ either_second (id == x) (among x (ids_in inner)) (each_among e x inner st has))
each_among e x items (in_element tag closed attrs inner more st) has = among_first x (item_ids (Element tag closed attrs inner)) (ids_in more) (ap (among x) (ids-Element tag closed attrs inner) ∙ among_second x (flat_map attr_ids attrs) (ids_in inner) (each_among e x inner st has))

-- ---- where items stand

pub all_stand : (s : Standing) (items : List Item) → stand_all s (map item_stands items) ≡ list_all (λ item. item_stands item s) items
all_stand s [] = refl
all_stand s (item ∷ items) = ap (λ b. item_stands item s && b) (all_stand s items)

stands-Area : (s : Standing) (id name owner : ℕ) (items : List Item) → item_stands (Area id name owner items) s ≡ (may_have_area s && stand_all (inside_area s) (map item_stands items))
unfolding item_stands
stands-Area s id name owner items = at-Area stands_step id name owner items s

stands-If : (s : Standing) (id : ℕ) (cond : Expr) (items : List Item) → item_stands (If id cond items) s ≡ stand_all (inside_if s) (map item_stands items)
unfolding item_stands
stands-If s id cond items = at-If stands_step id cond items s

stands-Each : (s : Standing) (id store : ℕ) (items : List Item) → item_stands (Each id store items) s ≡ (may_have_each s && stand_all (inside_each s) (map item_stands items))
unfolding item_stands
stands-Each s id store items = at-Each stands_step id store items s

stands-Element : (s : Standing) (tag : ℕ) (closed : Bool) (attrs : List Attr) (items : List Item) → item_stands (Element tag closed attrs items) s ≡ stand_all (inside_element s) (map item_stands items)
unfolding item_stands
stands-Element s tag closed attrs items = at-Element stands_step tag closed attrs items s

parts-rows : (view : View) (id store : ℕ) (items : List Item) (key : Option Code) → item_parts view (Each id store items) key ≡ each id store ∷ flat_map (λ k. row id k ∷ items_parts view items (Some k)) (view.keys id store)
unfolding item_parts
parts-rows view id store items key = at-Each (parts_step view) id store items key ∙ (λ i. each id store ∷ flat_map (λ k. row id k ∷ parts-joined view items (Some k) i) (view.keys id store))

-- ---- a part with this id, among items that have it inside of one of them

or_nothing : (b : Bool) → (b || false) ≡ b
or_nothing true = refl
or_nothing false = refl

module _ (view : View) (test : Part → Bool) (x : ℕ) (with_id : (part : Part) → test part ≡ true → has_id x part ≡ true) where
  none_with : (parts : List Part) → list_any (has_id x) parts ≡ false → list_any test parts ≡ false
  none_with parts h = none_leading test (has_id x) with_id parts h

  not_it : (part : Part) → has_id x part ≡ false → test part ≡ false
  not_it part h = contra (test part) (has_id x part) (with_id part) h

  none_in : (items : List Item) → among x (ids_in items) ≡ false → list_any test (items_parts view items None) ≡ false
  none_in items out = none_with (items_parts view items None) (items_without_id view x items None out)

  gated : (holds : Bool) (first : Part) (inner : List Part) → test first ≡ false → list_any test (if holds then first ∷ inner else []) ≡ (holds && list_any test inner)
  gated true first inner h = ap (λ b. b || list_any test inner) h
  gated false first inner h = refl

  only_first : (first : List Part) (more : List Item) (b : Bool) → list_any test first ≡ b → among x (ids_in more) ≡ false → list_any test (first ++ items_parts view more None) ≡ b
  only_first first more b is out =
      list_any-append test first (items_parts view more None)
      ∙ (λ i. is i || none_in more out i)
      ∙ or_nothing b

  pub any_later : (item : Item) (more : List Item) → AreApart (ids_in (item ∷ more)) → among x (ids_in more) ≡ true → list_any test (items_parts view (item ∷ more) None) ≡ list_any test (items_parts view more None)
  any_later item more apart has =
      list_any-append test (item_parts view item None) (items_parts view more None)
      ∙ ap (λ b. b || list_any test (items_parts view more None)) (none_with (item_parts view item None) (without_id view x item None (not_before (item_ids item) (ids_in more) x apart has)))

  -- behind an id of its own
  own_apart : (id : ℕ) (inner more : List ℕ) → AreApart (id ∷ inner ++ more) → among x inner ≡ true → ((id == x) || false) ≡ false
  own_apart id inner more apart has = not_before (id ∷ []) (inner ++ more) x apart (among_first x inner more has)

  pub any_area : (id name owner : ℕ) (inner more : List Item) → AreApart (ids_in (Area id name owner inner ∷ more)) → among x (ids_in inner) ≡ true → list_any test (items_parts view (Area id name owner inner ∷ more) None) ≡ (view.live owner && list_any test (items_parts view inner None))
  any_area id name owner inner more apart has =
      let split : AreApart (id ∷ ids_in inner ++ ids_in more) = subst AreApart (ap (λ l. l ++ ids_in more) (ids-Area id name owner inner)) apart in
      only_first (item_parts view (Area id name owner inner) None) more (view.live owner && list_any test (items_parts view inner None))
      (ap (list_any test) (parts-Area view id name owner inner None) ∙ gated (view.live owner) (area (place_at id None)) (items_parts view inner None) (not_it (area (place_at id None)) (own_apart id (ids_in inner) (ids_in more) split has)))
      (not_behind (ids_in inner) (ids_in more) x split.1 has)

  pub any_if : (id : ℕ) (cond : Expr) (inner more : List Item) → AreApart (ids_in (If id cond inner ∷ more)) → among x (ids_in inner) ≡ true → list_any test (items_parts view (If id cond inner ∷ more) None) ≡ (truth (view.value (place_at id None)) && list_any test (items_parts view inner None))
  any_if id cond inner more apart has =
      let split : AreApart (id ∷ ids_in inner ++ ids_in more) = subst AreApart (ap (λ l. l ++ ids_in more) (ids-If id cond inner)) apart in
      only_first (item_parts view (If id cond inner) None) more (truth (view.value (place_at id None)) && list_any test (items_parts view inner None))
      (ap (list_any test) (parts-If view id cond inner None) ∙ gated (truth (view.value (place_at id None))) (branch (place_at id None)) (items_parts view inner None) (not_it (branch (place_at id None)) (own_apart id (ids_in inner) (ids_in more) split has)))
      (not_behind (ids_in inner) (ids_in more) x split.1 has)

  pub any_element : (tag : ℕ) (closed : Bool) (attrs : List Attr) (inner more : List Item) → AreApart (ids_in (Element tag closed attrs inner ∷ more)) → among x (ids_in inner) ≡ true → list_any test (items_parts view (Element tag closed attrs inner ∷ more) None) ≡ list_any test (items_parts view inner None)
  any_element tag closed attrs inner more apart has =
      let split : AreApart ((flat_map attr_ids attrs ++ ids_in inner) ++ ids_in more) = subst AreApart (ap (λ l. l ++ ids_in more) (ids-Element tag closed attrs inner)) apart in
      let own : List Part = begins tag ∷ map (attr_part None) attrs in
      let some : List Part = begun ∷ items_parts view inner None in
      let attrs_none : list_any test own ≡ false = none_with own (without_attrs view x attrs None (not_before (flat_map attr_ids attrs) (ids_in inner) x (first_apart (flat_map attr_ids attrs ++ ids_in inner) (ids_in more) split) has)) in
      only_first (item_parts view (Element tag closed attrs inner) None) more (list_any test (items_parts view inner None))
      (ap (list_any test) (parts-Element view tag closed attrs inner None)
      ∙ list_any-append test (own ++ some) (ending tag closed)
      ∙ (λ i. list_any-append test own some i || none_with (ending tag closed) (without_end view x tag closed) i)
      ∙ or_nothing (list_any test own || list_any test some)
      ∙ ap (λ b. b || list_any test some) attrs_none
      ∙ ap (λ b. b || list_any test (items_parts view inner None)) (not_it begun refl))
      (not_behind (flat_map attr_ids attrs ++ ids_in inner) (ids_in more) x split (among_second x (flat_map attr_ids attrs) (ids_in inner) has))

-- ---- a part of one row

-- a test that only parts with this id in the row with this key pass
pub record IsOfRow (test : Part → Bool) (id : ℕ) (key : Code) : Type 0 where
  pub with_id : (part : Part) → test part ≡ true → has_id id part ≡ true
  pub with_key : (other : Code) → is_same key other ≡ false → (part : Part) → test part ≡ true → is_elsewhere (Some other) part ≡ true
  pub rows : (own : ℕ) (k : Code) → test (row own k) ≡ false
  pub eaches : (own store : ℕ) → test (each own store) ≡ false

repeats_with : (id : ℕ) (part : Part) → repeats id part ≡ true → has_id id part ≡ true
repeats_with id (plain number) h = cc
repeats_with id (shows q) h = cc
repeats_with id (begins tag) h = cc
repeats_with id (bare name) h = cc
repeats_with id (fixed name number) h = cc
repeats_with id (valued name q) h = cc
repeats_with id begun h = cc
repeats_with id (ends tag) h = cc
repeats_with id (area q) h = cc
repeats_with id (branch q) h = cc
repeats_with id (each own store) h = either_first (own == id) false h
repeats_with id (row own k) h = cc

and_assoc : (g h a x : Bool) → (g && ((h && a) && x)) ≡ (((g && h) && a) && x)
and_assoc true h a x = refl
and_assoc false h a x = refl

or_again : (x a : Bool) → (x || (a && x)) ≡ x
or_again true a = refl
or_again false true = refl
or_again false false = refl

module _ (view : View) (e : EachOf) (key : Code) (test : Part → Bool) (id : ℕ) (of : IsOfRow test id key) (has : among id (ids_in e.items) ≡ true) where
  abbrev own : Bool
  own = list_any test (items_parts (rowless view) e.items (Some key))

  abbrev HasRow : List Item → Type 0
  HasRow items = list_any test (items_parts view items None) ≡ ((has_rows (items_parts (rowless view) items None) e.id && list_any (is_same key) (view.keys e.id e.store)) && own)

  one_row : (s : Standing) (k : Code) → stand_all (inside_each s) (map item_stands e.items) ≡ true → (b : Bool) → is_same key k ≡ b → list_any test (row e.id k ∷ items_parts view e.items (Some k)) ≡ (b && own)
  one_row s k stands true is =
      let same : k ≡ key = sym (same_code key k is) in
      ap (λ t. t || list_any test (items_parts view e.items (Some k))) (of.rows e.id k)
      ∙ ap (list_any test) ((items_single view e.items (inside_each s) (Some k) refl stands).same)
      ∙ ap (λ (c : Code). list_any test (items_parts (rowless view) e.items (Some c))) same
  one_row s k stands false is =
      or_false (test (row e.id k)) (list_any test (items_parts view e.items (Some k))) (of.rows e.id k)
      (ap (list_any test) ((items_single view e.items (inside_each s) (Some k) refl stands).same)
      ∙ none_leading test (is_elsewhere (Some k)) (of.with_key k is) (items_parts (rowless view) e.items (Some k)) (items_placed view e.items (Some k)))

  any_rows : (s : Standing) (keys : List Code) → stand_all (inside_each s) (map item_stands e.items) ≡ true → list_any test (flat_map (λ k. row e.id k ∷ items_parts view e.items (Some k)) keys) ≡ (list_any (is_same key) keys && own)
  any_rows s [] stands = refl
  any_rows s (k ∷ keys) stands =
      list_any-append test (row e.id k ∷ items_parts view e.items (Some k)) (flat_map (λ k. row e.id k ∷ items_parts view e.items (Some k)) keys)
      ∙ (λ i. one_row s k stands (is_same key k) refl i || any_rows s keys stands i)
      ∙ merged (is_same key k) (list_any (is_same key) keys) own
    where
      merged : (a b x : Bool) → ((a && x) || (b && x)) ≡ ((a || b) && x)
      merged true b x = or_again x b
      merged false b x = refl

  each_there : (id store : ℕ) (rest : List Part) → has_rows (each id store ∷ rest) id ≡ true
  each_there id store rest = either_first (id == id) (has_rows rest id) (grind arith)

  pub has_row : (items : List Item) (s : Standing) → stand_all s (map item_stands items) ≡ true → AreApart (ids_in items) → StandsIn e items → HasRow items
  has_row items s stands apart (here more) =
      let both = and_cases (item_stands (Each e.id e.store e.items) s) (stand_all s (map item_stands more)) stands in
      let inner = (and_cases (may_have_each s) (stand_all (inside_each s) (map item_stands e.items)) (sym (stands-Each s e.id e.store e.items) ∙ both.0)).1 in
      let split : AreApart ((e.id ∷ ids_in e.items) ++ ids_in more) = subst AreApart (ap (λ l. l ++ ids_in more) (ids-Each e.id e.store e.items)) apart in
      let there : has_rows (items_parts (rowless view) (Each e.id e.store e.items ∷ more) None) e.id ≡ true = ap (λ l. has_rows (l ++ items_parts (rowless view) more None) e.id) (parts-Each view e.id e.store e.items None) ∙ each_there e.id e.store (items_parts (rowless view) more None) in
      only_first view test id of.with_id (item_parts view (Each e.id e.store e.items) None) more (list_any (is_same key) (view.keys e.id e.store) && own)
      (ap (list_any test) (parts-rows view e.id e.store e.items None) ∙ ap (λ t. t || list_any test (flat_map (λ k. row e.id k ∷ items_parts view e.items (Some k)) (view.keys e.id e.store))) (of.eaches e.id e.store) ∙ any_rows s (view.keys e.id e.store) inner)
      (not_behind (e.id ∷ ids_in e.items) (ids_in more) id split (either_second (e.id == id) (among id (ids_in e.items)) has))
      ∙ ap (λ t. (t && list_any (is_same key) (view.keys e.id e.store)) && own) (sym there)
  has_row items s stands apart (later item more st) =
      let both = and_cases (item_stands item s) (stand_all s (map item_stands more)) stands in
      any_later view test id of.with_id item more apart (each_among e id more st (either_second (e.id == id) (among id (ids_in e.items)) has))
      ∙ has_row more s both.1 (second_apart (item_ids item) (ids_in more) apart) st
      ∙ ap (λ t. (t && list_any (is_same key) (view.keys e.id e.store)) && own) (sym (any_later (rowless view) (repeats e.id) e.id (repeats_with e.id) item more apart (each_among e e.id more st (either_first (e.id == e.id) (among e.id (ids_in e.items)) (grind arith)))))
  has_row items s stands apart (in_area n name owner inner more st) =
      let both = and_cases (item_stands (Area n name owner inner) s) (stand_all s (map item_stands more)) stands in
      let deep = (and_cases (may_have_area s) (stand_all (inside_area s) (map item_stands inner)) (sym (stands-Area s n name owner inner) ∙ both.0)).1 in
      let split : AreApart ((n ∷ ids_in inner) ++ ids_in more) = subst AreApart (ap (λ l. l ++ ids_in more) (ids-Area n name owner inner)) apart in
      any_area view test id of.with_id n name owner inner more apart (each_among e id inner st (either_second (e.id == id) (among id (ids_in e.items)) has))
      ∙ ap (λ b. view.live owner && b) (has_row inner (inside_area s) deep (first_apart (ids_in inner) (ids_in more) split.1) st)
      ∙ and_assoc (view.live owner) (has_rows (items_parts (rowless view) inner None) e.id) (list_any (is_same key) (view.keys e.id e.store)) own
      ∙ ap (λ t. (t && list_any (is_same key) (view.keys e.id e.store)) && own) (sym (any_area (rowless view) (repeats e.id) e.id (repeats_with e.id) n name owner inner more apart (each_among e e.id inner st (either_first (e.id == e.id) (among e.id (ids_in e.items)) (grind arith)))))
  has_row items s stands apart (in_if n cond inner more st) =
      let both = and_cases (item_stands (If n cond inner) s) (stand_all s (map item_stands more)) stands in
      let deep = sym (stands-If s n cond inner) ∙ both.0 in
      let split : AreApart ((n ∷ ids_in inner) ++ ids_in more) = subst AreApart (ap (λ l. l ++ ids_in more) (ids-If n cond inner)) apart in
      any_if view test id of.with_id n cond inner more apart (each_among e id inner st (either_second (e.id == id) (among id (ids_in e.items)) has))
      ∙ ap (λ b. truth (view.value (place_at n None)) && b) (has_row inner (inside_if s) deep (first_apart (ids_in inner) (ids_in more) split.1) st)
      ∙ and_assoc (truth (view.value (place_at n None))) (has_rows (items_parts (rowless view) inner None) e.id) (list_any (is_same key) (view.keys e.id e.store)) own
      ∙ ap (λ t. (t && list_any (is_same key) (view.keys e.id e.store)) && own) (sym (any_if (rowless view) (repeats e.id) e.id (repeats_with e.id) n cond inner more apart (each_among e e.id inner st (either_first (e.id == e.id) (among e.id (ids_in e.items)) (grind arith)))))
  has_row items s stands apart (in_element tag closed attrs inner more st) =
      let both = and_cases (item_stands (Element tag closed attrs inner) s) (stand_all s (map item_stands more)) stands in
      let deep = sym (stands-Element s tag closed attrs inner) ∙ both.0 in
      let split : AreApart ((flat_map attr_ids attrs ++ ids_in inner) ++ ids_in more) = subst AreApart (ap (λ l. l ++ ids_in more) (ids-Element tag closed attrs inner)) apart in
      any_element view test id of.with_id tag closed attrs inner more apart (each_among e id inner st (either_second (e.id == id) (among id (ids_in e.items)) has))
      ∙ has_row inner (inside_element s) deep (second_apart (flat_map attr_ids attrs) (ids_in inner) (first_apart (flat_map attr_ids attrs ++ ids_in inner) (ids_in more) split)) st
      ∙ ap (λ t. (t && list_any (is_same key) (view.keys e.id e.store)) && own) (sym (any_element (rowless view) (repeats e.id) e.id (repeats_with e.id) tag closed attrs inner more apart (each_among e e.id inner st (either_first (e.id == e.id) (among e.id (ids_in e.items)) (grind arith)))))

-- ---- an `each` that is mounted is that of its store

each_with : (id store : ℕ) (part : Part) → is_each id store part ≡ true → has_id id part ≡ true
each_with id store (plain number) h = cc
each_with id store (shows q) h = cc
each_with id store (begins tag) h = cc
each_with id store (bare name) h = cc
each_with id store (fixed name number) h = cc
each_with id store (valued name q) h = cc
each_with id store begun h = cc
each_with id store (ends tag) h = cc
each_with id store (area q) h = cc
each_with id store (branch q) h = cc
each_with id store (each own from) h = either_first (own == id) false (and_cases (own == id) (from == store) h).0
each_with id store (row own k) h = cc

pub repeats_each : (id store : ℕ) (part : Part) → is_each id store part ≡ true → repeats id part ≡ true
repeats_each id store (plain number) h = cc
repeats_each id store (shows q) h = cc
repeats_each id store (begins tag) h = cc
repeats_each id store (bare name) h = cc
repeats_each id store (fixed name number) h = cc
repeats_each id store (valued name q) h = cc
repeats_each id store begun h = cc
repeats_each id store (ends tag) h = cc
repeats_each id store (area q) h = cc
repeats_each id store (branch q) h = cc
repeats_each id store (each own from) h = (and_cases (own == id) (from == store) h).0
repeats_each id store (row own k) h = cc

module _ (view : View) (e : EachOf) where
  abbrev OneStore : List Item → Type 0
  OneStore items = has_each (items_parts view items None) e.id e.store ≡ has_rows (items_parts view items None) e.id

  in_it : (items : List Item) → StandsIn e items → among e.id (ids_in items) ≡ true
  in_it items st = each_among e e.id items st (either_first (e.id == e.id) (among e.id (ids_in e.items)) (grind arith))

  itself : (id store : ℕ) → ((id == id) && (store == store)) ≡ true
  itself id store = and_both (id == id) (store == store) (grind arith) (grind arith)

  pub one_store : (items : List Item) → AreApart (ids_in items) → StandsIn e items → OneStore items
  one_store items apart (here more) =
      let rest : List Part = flat_map (λ k. row e.id k ∷ items_parts view e.items (Some k)) (view.keys e.id e.store) ++ items_parts view more None in
      ap (λ l. has_each (l ++ items_parts view more None) e.id e.store) (parts-rows view e.id e.store e.items None)
      ∙ either_first ((e.id == e.id) && (e.store == e.store)) (has_each rest e.id e.store) (itself e.id e.store)
      ∙ sym (ap (λ l. has_rows (l ++ items_parts view more None) e.id) (parts-rows view e.id e.store e.items None) ∙ either_first (e.id == e.id) (has_rows rest e.id) (grind arith))
  one_store items apart (later item more st) =
      any_later view (is_each e.id e.store) e.id (each_with e.id e.store) item more apart (in_it more st)
      ∙ one_store more (second_apart (item_ids item) (ids_in more) apart) st
      ∙ sym (any_later view (repeats e.id) e.id (repeats_with e.id) item more apart (in_it more st))
  one_store items apart (in_area n name owner inner more st) =
      let split : AreApart ((n ∷ ids_in inner) ++ ids_in more) = subst AreApart (ap (λ l. l ++ ids_in more) (ids-Area n name owner inner)) apart in
      any_area view (is_each e.id e.store) e.id (each_with e.id e.store) n name owner inner more apart (in_it inner st)
      ∙ ap (λ b. view.live owner && b) (one_store inner (first_apart (ids_in inner) (ids_in more) split.1) st)
      ∙ sym (any_area view (repeats e.id) e.id (repeats_with e.id) n name owner inner more apart (in_it inner st))
  one_store items apart (in_if n cond inner more st) =
      let split : AreApart ((n ∷ ids_in inner) ++ ids_in more) = subst AreApart (ap (λ l. l ++ ids_in more) (ids-If n cond inner)) apart in
      any_if view (is_each e.id e.store) e.id (each_with e.id e.store) n cond inner more apart (in_it inner st)
      ∙ ap (λ b. truth (view.value (place_at n None)) && b) (one_store inner (first_apart (ids_in inner) (ids_in more) split.1) st)
      ∙ sym (any_if view (repeats e.id) e.id (repeats_with e.id) n cond inner more apart (in_it inner st))
  one_store items apart (in_element tag closed attrs inner more st) =
      let split : AreApart ((flat_map attr_ids attrs ++ ids_in inner) ++ ids_in more) = subst AreApart (ap (λ l. l ++ ids_in more) (ids-Element tag closed attrs inner)) apart in
      any_element view (is_each e.id e.store) e.id (each_with e.id e.store) tag closed attrs inner more apart (in_it inner st)
      ∙ one_store inner (second_apart (flat_map attr_ids attrs) (ids_in inner) (first_apart (flat_map attr_ids attrs ++ ids_in inner) (ids_in more) split)) st
      ∙ sym (any_element view (repeats e.id) e.id (repeats_with e.id) tag closed attrs inner more apart (in_it inner st))
