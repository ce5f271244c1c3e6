-- Places of mounted parts are distinct, and the rows of an `each` are those of its store.
use Rattle.std.proofs.Common.{◌≡◌, ℕ, suc, ◌+◌, ◌<◌, ◌≤◌, inl, inr, ◌⊎◌, ◌||◌, ◌&&◌, ◌==◌, not, if◌then◌else◌, Bool, true, false, List, [], ◌∷◌, ◌++◌, map, length, Option, Some, None, refl, sym, ap, subst, ◌∙◌, arith, length-append}
use Rattle.std.specs.List.{list_any, list_all, flat_map, concat, range_with_len}
use Rattle.std.proofs.lemmas.Bool.{eqb-true}
use Rattle.std.proofs.lemmas.List.{append-nil}
use Rattle.std.proofs.lemmas.List.Concat.{flat_map-append}
use Rattle.std.proofs.lemmas.List.Folds.{list_any-append}
use Rattle.values.specs.declared.code.Code.{Code}
use Rattle.values.specs.Evaluation.{is_same, truth}
use Rattle.component_items.specs.declared.component.Attr.{Attr}
use Rattle.component_items.specs.declared.component.Attr.TheVariants as attr
use Rattle.component_items.specs.declared.component.Component.{Component}
use Rattle.component_items.specs.declared.component.Item.{Item}
use Rattle.component_items.specs.declared.component.Item.TheOpen as level
use Rattle.component_items.specs.declared.component.Item.TheOpen.{Item-F}
use Rattle.component_items.specs.declared.component.Item.TheViews.{roll-Item}
use Rattle.component_items.specs.declared.component.Item.TheFolds.{fold-roll-Item, map-Item, ind-Item}
use Rattle.component_items.specs.Ids.{attr_ids, ids_step, item_ids, ids_in}
use Rattle.component_items.specs.Kept.{Standing, standing_at_top, may_have_each, may_have_area, inside_area, inside_if, inside_each, inside_element, stand_all, stands_step, item_stands, are_distinct, IsKept}
use Rattle.plain_evaluation.specs.Page.{View}
use Rattle.plain_evaluation.specs.Place.{Place, same_key, same_place, place_at, outside}
use Rattle.plain_evaluation.proofs.Places.{and_cases, and_both, or_none, not_true, place_itself, same_code, code_itself}
use Rattle.view_meaning.specs.Parts.{Part, plain, shows, begins, bare, fixed, valued, begun, ends, area, branch, each, row, attr_part, parts_joined, ending, parts_step, item_parts, items_parts, parts_in, place_in, mounted_places, key_in_row, keys_mounted, is_each, has_each, places_apart, KeysDiffer}

-- ---- places with ids from one number to below another, and with one key

abbrev Within : ℕ → ℕ → List Place → Type 0
Within low high [] = Unit {0}
Within low high (p ∷ ps) = (low ≤ p.id) × (p.id < high) × Within low high ps

abbrev AllKeys : Option Code → List Place → Type 0
AllKeys key [] = Unit {0}
AllKeys key (p ∷ ps) = (p.key ≡ key) × AllKeys key ps

abbrev has_place : List Place → Place → Bool
has_place ps p = list_any (λ q. same_place q p) ps

within-append : (low high : ℕ) (xs ys : List Place) → Within low high xs → Within low high ys → Within low high (xs ++ ys)
within-append low high [] ys h g = g
within-append low high (x ∷ xs) ys h g = (h.0, h.1, within-append low high xs ys h.2 g)

within_both : (low high : ℕ) (xs ys : List Place) → Within low high (xs ++ ys) → Within low high xs × Within low high ys
within_both low high [] ys h = (tt, h)
within_both low high (x ∷ xs) ys h = let more = within_both low high xs ys h.2 in ((h.0, h.1, more.0), more.1)

wider : (low high low' high' : ℕ) (ps : List Place) → low' ≤ low → high ≤ high' → Within low high ps → Within low' high' ps
wider low high low' high' [] below above h = tt
wider low high low' high' (p ∷ ps) below above h = (omega (arith, h.0), omega (arith, h.1), wider low high low' high' ps below above h.2)

keys-append : (key : Option Code) (xs ys : List Place) → AllKeys key xs → AllKeys key ys → AllKeys key (xs ++ ys)
keys-append key [] ys h g = g
keys-append key (x ∷ xs) ys h g = (h.0, keys-append key xs ys h.1 g)

keys_both : (key : Option Code) (xs ys : List Place) → AllKeys key (xs ++ ys) → AllKeys key xs × AllKeys key ys
keys_both key [] ys h = (tt, h)
keys_both key (x ∷ xs) ys h = let more = keys_both key xs ys h.1 in ((h.0, more.0), more.1)

or_false : (a b : Bool) → a ≡ false → b ≡ false → (a || b) ≡ false
or_false a b h g = (λ i. h i || b) ∙ g

and_false : (a b : Bool) → b ≡ false → (a && b) ≡ false
and_false true b h = h
and_false false b h = refl

no_place : (b : Bool) → (b ≡ true → ⊥) → b ≡ false
no_place true h = absurd (h refl)
no_place false h = refl

has_place-append : (xs ys : List Place) (p : Place) → has_place (xs ++ ys) p ≡ (has_place xs p || has_place ys p)
has_place-append xs ys p = list_any-append (λ q. same_place q p) xs ys

differ-append : (xs ys : List Place) → places_apart xs ≡ true → places_apart ys ≡ true → ((p : Place) → has_place xs p ≡ true → has_place ys p ≡ false) → places_apart (xs ++ ys) ≡ true
differ-append [] ys first second apart = second
differ-append (x ∷ xs) ys first second apart =
    let both = and_cases (not (has_place xs x)) (places_apart xs) first in
    let here : has_place ys x ≡ false = apart x (ap (λ b. b || has_place xs x) (place_itself x)) in
    and_both _ _ (ap not (has_place-append xs ys x ∙ or_false _ _ (not_true _ both.0) here)) (differ-append xs ys both.1 second (λ p has. apart p (further (same_place x p) (has_place xs p) has)))
  where
    further : (a b : Bool) → b ≡ true → (a || b) ≡ true
    further true b h = refl
    further false b h = h

-- a place of the list has an id of its range
id_within : (low high : ℕ) (ps : List Place) (p : Place) → Within low high ps → has_place ps p ≡ true → (low ≤ p.id) × (p.id < high)
id_within low high [] p within has = cc
id_within low high (q ∷ ps) p within has = at (same_place q p) refl has (id_within low high ps p within.2)
  where
    at : (b : Bool) → same_place q p ≡ b → (b || has_place ps p) ≡ true → (has_place ps p ≡ true → (low ≤ p.id) × (p.id < high)) → (low ≤ p.id) × (p.id < high)
    at true same has later =
        let e : q.id ≡ p.id = eqb-true q.id p.id (and_cases (q.id == p.id) (same_key q.key p.key) same).0 in
        (omega (arith, within.0, e), omega (arith, within.1, e))
    at false same has later = later has

differ_by_ids : (low mid high : ℕ) (xs ys : List Place) → Within low mid xs → Within mid high ys → places_apart xs ≡ true → places_apart ys ≡ true → places_apart (xs ++ ys) ≡ true
differ_by_ids low mid high xs ys wx wy first second = differ-append xs ys first second (λ p has. no_place (has_place ys p) (λ other. (let a = id_within low mid xs p wx has in let b = id_within mid high ys p wy other in omega (arith, a.1, b.0))))

-- a place of the list has its key
key_within : (key : Option Code) (ps : List Place) (p : Place) → AllKeys key ps → has_place ps p ≡ true → same_key key p.key ≡ true
key_within key [] p keys has = cc
key_within key (q ∷ ps) p keys has = at (same_place q p) refl has (key_within key ps p keys.1)
  where
    at : (b : Bool) → same_place q p ≡ b → (b || has_place ps p) ≡ true → (has_place ps p ≡ true → same_key key p.key ≡ true) → same_key key p.key ≡ true
    at true same has later = subst (λ k. same_key k p.key ≡ true) keys.0 (and_cases (q.id == p.id) (same_key q.key p.key) same).1
    at false same has later = later has

-- what stands in rows is not outside of all
none_outside : (key : Code) (ps : List Place) (id : ℕ) → AllKeys (Some key) ps → has_place ps (outside id) ≡ false
none_outside key [] id keys = refl
none_outside key (p ∷ ps) id keys = or_false _ _ (and_false (p.id == id) (same_key p.key None) (ap (λ k. same_key k None) keys.0)) (none_outside key ps id keys.1)

-- ---- parts by their places

places-append : (xs ys : List Part) → mounted_places (xs ++ ys) ≡ mounted_places xs ++ mounted_places ys
places-append xs ys = flat_map-append place_in xs ys

rows-append : (xs ys : List Part) (id : ℕ) → keys_mounted (xs ++ ys) id ≡ keys_mounted xs id ++ keys_mounted ys id
rows-append xs ys id = flat_map-append (key_in_row id) xs ys

each-append : (xs ys : List Part) (id store : ℕ) → has_each (xs ++ ys) id store ≡ (has_each xs id store || has_each ys id store)
each-append xs ys id store = list_any-append (is_each id store) xs ys

the_each : (id store : ℕ) (part : Part) → is_each id store part ≡ true → part ≡ each id store
the_each id store (plain number) is = cc
the_each id store (shows p) is = cc
the_each id store (begins tag) is = cc
the_each id store (bare name) is = cc
the_each id store (fixed name number) is = cc
the_each id store (valued name p) is = cc
the_each id store begun is = cc
the_each id store (ends tag) is = cc
the_each id store (area p) is = cc
the_each id store (branch p) is = cc
the_each id store (each own from) is =
    let both = and_cases (own == id) (from == store) is in
    λ i. each (eqb-true own id both.0 i) (eqb-true from store both.1 i)
the_each id store (row own key) is = cc

-- a part has no key of a row of this `each`, or it is that row
the_row : (id : ℕ) (part : Part) → (key_in_row id part ≡ []) ⊎ ((key : Code) × (part ≡ row id key))
the_row id (plain number) = inl refl
the_row id (shows p) = inl refl
the_row id (begins tag) = inl refl
the_row id (bare name) = inl refl
the_row id (fixed name number) = inl refl
the_row id (valued name p) = inl refl
the_row id begun = inl refl
the_row id (ends tag) = inl refl
the_row id (area p) = inl refl
the_row id (branch p) = inl refl
the_row id (each own store) = inl refl
the_row id (row own key) = at (own == id) refl
  where
    at : (b : Bool) → (own == id) ≡ b → ((if b then key ∷ [] else []) ≡ []) ⊎ ((k : Code) × (row own key ≡ row id k))
    at true same = inr (key, ap (λ n. row n key) (eqb-true own id same))
    at false same = inl refl

each_within : (low high id store : ℕ) (parts : List Part) → Within low high (mounted_places parts) → has_each parts id store ≡ true → (low ≤ id) × (id < high)
each_within low high id store [] within has = cc
each_within low high id store (part ∷ parts) within has =
    let both = within_both low high (place_in part) (mounted_places parts) within in
    at both.0 (is_each id store part) refl has (each_within low high id store parts both.1)
  where
    at : Within low high (place_in part) → (b : Bool) → is_each id store part ≡ b → (b || has_each parts id store) ≡ true → (has_each parts id store ≡ true → (low ≤ id) × (id < high)) → (low ≤ id) × (id < high)
    at here true is has later = let w = subst (λ x. Within low high (place_in x)) (the_each id store part is) here in (w.0, w.1)
    at here false is has later = later has

-- no row of an `each` whose id is not in the range
rows_elsewhere : (low high id : ℕ) (parts : List Part) → Within low high (mounted_places parts) → (low ≤ id → id < high → ⊥) → keys_mounted parts id ≡ []
rows_elsewhere low high id [] within out = refl
rows_elsewhere low high id (part ∷ parts) within out =
    let both = within_both low high (place_in part) (mounted_places parts) within in
    at both.0 (the_row id part) (rows_elsewhere low high id parts both.1 out)
  where
    at : Within low high (place_in part) → (key_in_row id part ≡ []) ⊎ ((key : Code) × (part ≡ row id key)) → keys_mounted parts id ≡ [] → key_in_row id part ++ keys_mounted parts id ≡ []
    at here (inl none) later = λ i. none i ++ later i
    at here (inr found) later = let w = subst (λ x. Within low high (place_in x)) found.1 here in absurd (out w.0 w.1)

-- in a row there is no `each`
no_each : (key : Code) (parts : List Part) (id store : ℕ) → AllKeys (Some key) (mounted_places parts) → has_each parts id store ≡ false
no_each key [] id store keys = refl
no_each key (part ∷ parts) id store keys =
    let both = keys_both (Some key) (place_in part) (mounted_places parts) keys in
    or_false _ _ (at both.0 (is_each id store part) refl) (no_each key parts id store both.1)
  where
    at : AllKeys (Some key) (place_in part) → (b : Bool) → is_each id store part ≡ b → b ≡ false
    at here true is = let k = subst (λ x. AllKeys (Some key) (place_in x)) (the_each id store part is) here in let e : None ≡ Some key = k.0 in absurd cc
    at here false is = refl

-- ---- one part of a list for each row

module _ (part : Code → List Part) where
  each_place : (key : Code) (keys : List Code) → mounted_places (flat_map part (key ∷ keys)) ≡ mounted_places (part key) ++ mounted_places (flat_map part keys)
  each_place key keys = places-append (part key) (flat_map part keys)

  all_within : (low high : ℕ) (keys : List Code) → ((key : Code) → Within low high (mounted_places (part key))) → Within low high (mounted_places (flat_map part keys))
  all_within low high [] every = tt
  all_within low high (key ∷ keys) every = subst (Within low high) (sym (each_place key keys)) (within-append low high (mounted_places (part key)) (mounted_places (flat_map part keys)) (every key) (all_within low high keys every))

  -- a place of a later row has another key
  other_key : (key : Code) (keys : List Code) (p : Place) → ((k : Code) → AllKeys (Some k) (mounted_places (part k))) → list_any (is_same key) keys ≡ false → same_key (Some key) p.key ≡ true → has_place (mounted_places (flat_map part keys)) p ≡ false
  other_key key [] p keyed none same = refl
  other_key key (k ∷ keys) p keyed none same =
      let both = or_none (is_same key k) (list_any (is_same key) keys) none in
      ap (λ ps. has_place ps p) (each_place k keys)
      ∙ has_place-append (mounted_places (part k)) (mounted_places (flat_map part keys)) p
      ∙ or_false _ _
      (no_place (has_place (mounted_places (part k)) p) (λ has. at p.key same (key_within (Some k) (mounted_places (part k)) p (keyed k) has) both.0))
      (other_key key keys p keyed both.1 same)
    where
      at : (of : Option Code) → same_key (Some key) of ≡ true → same_key (Some k) of ≡ true → is_same key k ≡ false → ⊥
      at None one two apart = cc
      at (Some c) one two apart =
          let e : key ≡ k = same_code key c one ∙ sym (same_code k c two) in
          let g : is_same key k ≡ true = subst (λ (x : Code). is_same key x ≡ true) e (code_itself key) in
          cc

  all_differ : (keys : List Code) → ((k : Code) → places_apart (mounted_places (part k)) ≡ true) → ((k : Code) → AllKeys (Some k) (mounted_places (part k))) → are_distinct keys ≡ true → places_apart (mounted_places (flat_map part keys)) ≡ true
  all_differ [] every keyed distinct = refl
  all_differ (key ∷ keys) every keyed distinct =
      let both = and_cases (not (list_any (is_same key) keys)) (are_distinct keys) distinct in
      ap places_apart (each_place key keys)
      ∙ differ-append (mounted_places (part key)) (mounted_places (flat_map part keys)) (every key) (all_differ keys every keyed both.1) (λ p has. other_key key keys p keyed (not_true _ both.0) (key_within (Some key) (mounted_places (part key)) p (keyed key) has))

  all_inside : (id : ℕ) (keys : List Code) → ((k : Code) → AllKeys (Some k) (mounted_places (part k))) → has_place (mounted_places (flat_map part keys)) (outside id) ≡ false
  all_inside id [] keyed = refl
  all_inside id (key ∷ keys) keyed =
      ap (λ ps. has_place ps (outside id)) (each_place key keys)
      ∙ has_place-append (mounted_places (part key)) (mounted_places (flat_map part keys)) (outside id)
      ∙ or_false _ _ (none_outside key (mounted_places (part key)) id (keyed key)) (all_inside id keys keyed)

  all_without : (id store : ℕ) (keys : List Code) → ((k : Code) → AllKeys (Some k) (mounted_places (part k))) → has_each (flat_map part keys) id store ≡ false
  all_without id store [] keyed = refl
  all_without id store (key ∷ keys) keyed =
      each-append (part key) (flat_map part keys) id store
      ∙ or_false _ _ (no_each key (part key) id store (keyed key)) (all_without id store keys keyed)

  no_rows : (id : ℕ) (keys : List Code) → ((k : Code) → keys_mounted (part k) id ≡ []) → keys_mounted (flat_map part keys) id ≡ []
  no_rows id [] none = refl
  no_rows id (key ∷ keys) none = rows-append (part key) (flat_map part keys) id ∙ (λ i. none key i ++ no_rows id keys none i)

  one_row_each : (id : ℕ) (keys : List Code) → ((k : Code) → keys_mounted (part k) id ≡ k ∷ []) → keys_mounted (flat_map part keys) id ≡ keys
  one_row_each id [] one = refl
  one_row_each id (key ∷ keys) one = rows-append (part key) (flat_map part keys) id ∙ (λ i. one key i ++ one_row_each id keys one i)

own_row : (id : ℕ) (key : Code) (inner : List Part) → keys_mounted inner id ≡ [] → keys_mounted (row id key ∷ inner) id ≡ key ∷ []
own_row id key inner none = at (id == id) (grind arith)
  where
    at : (b : Bool) → b ≡ true → (if b then key ∷ [] else []) ++ keys_mounted inner id ≡ key ∷ []
    at true same = ap (λ more. key ∷ more) none
    at false same = cc

other_row : (id other : ℕ) (key : Code) (inner : List Part) → (id == other) ≡ false → keys_mounted inner other ≡ [] → keys_mounted (row id key ∷ inner) other ≡ []
other_row id other key inner apart none = λ i. (if apart i then key ∷ [] else []) ++ none i

-- ---- ranges of ids

range_split : (xs ys : List ℕ) (n : ℕ) → xs ++ ys ≡ range_with_len n (length (xs ++ ys)) → (xs ≡ range_with_len n (length xs)) × (ys ≡ range_with_len (n + length xs) (length ys))
range_split [] ys n is = let e : n + 0 ≡ n = omega arith in (refl, rw e is)
range_split (x ∷ xs) ys n is =
    let first : x ≡ n = cc in
    let rest : xs ++ ys ≡ range_with_len (n + 1) (length (xs ++ ys)) = cc in
    let both = range_split xs ys (n + 1) rest in
    ((λ i. first i ∷ both.0 i), both.1 ∙ ap (λ k. range_with_len k (length ys)) {x = n + 1 + length xs} {y = n + suc (length xs)} (omega arith))

first_is : (id n : ℕ) (ids : List ℕ) → id ∷ ids ≡ range_with_len n (suc (length ids)) → (id ≡ n) × (ids ≡ range_with_len (n + 1) (length ids))
first_is id n ids is = (cc, cc)

-- ---- what holds of the parts of one item

-- the rows of an `each` that is mounted are those of its store, and there are none of another
pub record RowsStand (view : View) (parts : List Part) : Type 0 where
  pub seen : (id store : ℕ) → has_each parts id store ≡ true → keys_mounted parts id ≡ view.keys id store
  pub none : (id : ℕ) → ((store : ℕ) → has_each parts id store ≡ false) → keys_mounted parts id ≡ []

-- where there is a row around, an `each` is
abbrev Good : Standing → Option Code → Type 0
Good s key = (k : Code) → key ≡ Some k → s.repeated ≡ true

module _ (view : View) where
  record Apart (ids : List ℕ) (n : ℕ) (key : Option Code) (parts : List Part) : Type 0 where
    pub within : Within n (n + length ids) (mounted_places parts)
    pub differ : KeysDiffer view → places_apart (mounted_places parts) ≡ true
    pub keyed : (k : Code) → key ≡ Some k → AllKeys (Some k) (mounted_places parts)
    pub rows : RowsStand view parts

  no_parts : (ids : List ℕ) (n : ℕ) (key : Option Code) → Apart ids n key []
  no_parts ids n key = record { within = tt; differ = λ keys. refl; keyed = λ k is. tt; rows = record { seen = λ id store has. cc; none = λ id out. refl } }

  -- a part with no place
  blank : (ids : List ℕ) (n : ℕ) (key : Option Code) (first : Part) (parts : List Part) → place_in first ≡ [] → ((id store : ℕ) → is_each id store first ≡ false) → ((id : ℕ) → key_in_row id first ≡ []) → Apart ids n key parts → Apart ids n key (first ∷ parts)
  blank ids n key first parts free no_store no_key apart =
      let e : mounted_places (first ∷ parts) ≡ mounted_places parts = ap (λ ps. ps ++ mounted_places parts) free in
      record {
        within = subst (Within n (n + length ids)) (sym e) apart.within;
        differ = λ keys. ap places_apart e ∙ apart.differ keys;
        keyed = λ k is. subst (AllKeys (Some k)) (sym e) (apart.keyed k is);
        rows = record {
          seen = λ id store has. ap (λ ks. ks ++ keys_mounted parts id) (no_key id) ∙ apart.rows.seen id store (sym (ap (λ b. b || has_each parts id store) (no_store id store)) ∙ has);
          none = λ id out. ap (λ ks. ks ++ keys_mounted parts id) (no_key id) ∙ apart.rows.none id (λ store. sym (ap (λ b. b || has_each parts id store) (no_store id store)) ∙ out store);
        };
      }

  -- one that stands in its place
  one_part : (id n : ℕ) (key : Option Code) (first : Part) → id ≡ n → place_in first ≡ place_at id key ∷ [] → ((e store : ℕ) → is_each e store first ≡ false) → ((e : ℕ) → key_in_row e first ≡ []) → Apart (id ∷ []) n key (first ∷ [])
  one_part id n key first is at_place no_store no_key =
      let e : mounted_places (first ∷ []) ≡ place_at id key ∷ [] = ap (λ ps. ps ++ []) at_place in
      record {
        within = subst (Within n (n + 1)) (sym e) (omega (arith, is), omega (arith, is), tt);
        differ = λ keys. ap places_apart e;
        keyed = λ k some. subst (AllKeys (Some k)) (sym e) (some, tt);
        rows = record {
          seen = λ other store has. (let none : false ≡ true = sym (ap (λ b. b || false) (no_store other store)) ∙ has in absurd cc);
          none = λ other out. ap (λ ks. ks ++ []) (no_key other);
        };
      }

  -- parts one after another
  both_parts : (xs ys : List ℕ) (n : ℕ) (key : Option Code) (first second : List Part) → Apart xs n key first → Apart ys (n + length xs) key second → Apart (xs ++ ys) n key (first ++ second)
  both_parts xs ys n key first second a b = record {
    within = subst (Within n (n + length (xs ++ ys))) (sym e) (within-append n (n + length (xs ++ ys)) (mounted_places first) (mounted_places second) (wider n (n + length xs) n (n + length (xs ++ ys)) (mounted_places first) (omega arith) (omega (arith, long)) a.within) (wider (n + length xs) (n + length xs + length ys) n (n + length (xs ++ ys)) (mounted_places second) (omega arith) (omega (arith, long)) b.within));
    differ = λ keys. ap places_apart e ∙ differ_by_ids n (n + length xs) (n + length xs + length ys) (mounted_places first) (mounted_places second) a.within b.within (a.differ keys) (b.differ keys);
    keyed = λ k is. subst (AllKeys (Some k)) (sym e) (keys-append (Some k) (mounted_places first) (mounted_places second) (a.keyed k is) (b.keyed k is));
    rows = record {
      seen = λ id store has. at id store (has_each first id store) refl (sym (each-append first second id store) ∙ has);
      none = λ id out.
          rows-append first second id
          ∙ (λ i. a.rows.none id (λ store. (or_none (has_each first id store) (has_each second id store) (sym (each-append first second id store) ∙ out store)).0) i
          ++ b.rows.none id (λ store. (or_none (has_each first id store) (has_each second id store) (sym (each-append first second id store) ∙ out store)).1) i);
    };
  }
    where
      e : mounted_places (first ++ second) ≡ mounted_places first ++ mounted_places second
      e = places-append first second

      long : length (xs ++ ys) ≡ length xs + length ys
      long = length-append xs ys

      at : (id store : ℕ) (b : Bool) → has_each first id store ≡ b → (b || has_each second id store) ≡ true → keys_mounted (first ++ second) id ≡ view.keys id store
      at id store true is has =
          let w = each_within n (n + length xs) id store first a.within is in
          rows-append first second id
          ∙ ap (λ ks. keys_mounted first id ++ ks) (rows_elsewhere (n + length xs) (n + length xs + length ys) id second b.within (λ low high. (let above = w.1 in omega (arith, above, low))))
          ∙ append-nil (keys_mounted first id)
          ∙ a.rows.seen id store is
      at id store false is has =
          let w = each_within (n + length xs) (n + length xs + length ys) id store second b.within has in
          rows-append first second id
          ∙ ap (λ ks. ks ++ keys_mounted second id) (rows_elsewhere n (n + length xs) id first a.within (λ low high. (let above = w.0 in omega (arith, above, high))))
          ∙ b.rows.seen id store has

  -- what stands there where a condition holds
  gated : (holds : Bool) (id n : ℕ) (ids : List ℕ) (key : Option Code) (first : Part) (inner : List Part) → Apart (id ∷ []) n key (first ∷ []) → Apart ids (n + 1) key inner → Apart (id ∷ ids) n key (if holds then first ∷ inner else [])
  gated true id n ids key first inner a b = both_parts (id ∷ []) ids n key (first ∷ []) inner a b
  gated false id n ids key first inner a b = no_parts (id ∷ ids) n key

  -- an `each` with its rows
  rows_apart : (id store n : ℕ) (ids : List ℕ) (key : Option Code) (inner : Code → List Part) → id ≡ n → ((k : Code) → key ≡ Some k → ⊥) → ((k : Code) → Apart ids (n + 1) (Some k) (inner k)) → Apart (id ∷ ids) n key (each id store ∷ flat_map (λ k. row id k ∷ inner k) (view.keys id store))
  rows_apart id store n ids key inner is out blocks = record {
    within = (omega (arith, is), omega (arith, is), all_within part n (n + suc (length ids)) (view.keys id store) (λ k. (omega (arith, is), omega (arith, is), wider (n + 1) (n + 1 + length ids) n (n + suc (length ids)) (mounted_places (inner k)) (omega arith) (omega arith) (blocks k).within)));
    differ = λ keys. and_both _ _ (ap not (all_inside part id (view.keys id store) keyed)) (all_differ part (view.keys id store) (λ k. row_differs k keys) keyed (keys id store));
    keyed = λ k some. absurd (out k some);
    rows = record {
      seen = λ other from has. mine other from (id == other) (store == from) refl refl has;
      none = λ other none. (let apart = (or_none (id == other) false (or_nothing (id == other) (store == store) (has_each (flat_map part (view.keys id store)) other store) (grind arith) (none store))).0 in no_rows part other (view.keys id store) (λ k. other_row id other k (inner k) apart ((blocks k).rows.none other (λ s. no_each k (inner k) other s ((blocks k).keyed k refl)))));
    };
  }
    where
      part : Code → List Part
      part k = row id k ∷ inner k

      keyed : (k : Code) → AllKeys (Some k) (mounted_places (part k))
      keyed k = (refl, (blocks k).keyed k refl)

      row_differs : (k : Code) → KeysDiffer view → places_apart (mounted_places (part k)) ≡ true
      row_differs k keys =
          and_both _ _
          (ap not (no_place (has_place (mounted_places (inner k)) (record { id = id; key = Some k })) (λ has. (let w = id_within (n + 1) (n + 1 + length ids) (mounted_places (inner k)) (record { id = id; key = Some k }) (blocks k).within has in omega (arith, w.0, is)))))
          ((blocks k).differ keys)

      -- the second of an `and` holds, so the first does not
      or_nothing : (a b c : Bool) → b ≡ true → ((a && b) || c) ≡ false → (a || false) ≡ false
      or_nothing true true c h none = cc
      or_nothing true false c h none = cc
      or_nothing false b c h none = refl

      own : keys_mounted (flat_map part (view.keys id store)) id ≡ view.keys id store
      own = one_row_each part id (view.keys id store) (λ k. own_row id k (inner k) (rows_elsewhere (n + 1) (n + 1 + length ids) id (inner k) (blocks k).within (λ low high. omega (arith, low, is))))

      mine : (other from : ℕ) (a b : Bool) → (id == other) ≡ a → (store == from) ≡ b → ((a && b) || has_each (flat_map part (view.keys id store)) other from) ≡ true → keys_mounted (flat_map part (view.keys id store)) other ≡ view.keys other from
      mine other from true true same too has =
          subst (λ e. keys_mounted (flat_map part (view.keys id store)) e ≡ view.keys e from) (eqb-true id other same) (own ∙ ap (view.keys id) (eqb-true store from too))
      mine other from true false same too has = let none = all_without part other from (view.keys id store) keyed in absurd cc
      mine other from false b same too has = let none = all_without part other from (view.keys id store) keyed in absurd cc

  abbrev Differs : (Standing → Bool) → List ℕ → (Option Code → List Part) → Type 0
  Differs stands ids parts = (key : Option Code) (s : Standing) (n : ℕ) → stands s ≡ true → ids ≡ range_with_len n (length ids) → Good s key → Apart ids n key (parts key)

  abbrev ItemDiffers : Item → Type 0
  ItemDiffers item = Differs (item_stands item) (item_ids item) (item_parts view item)

  abbrev Proven : Type 0
  Proven = (item : Item) × ItemDiffers item

  abbrev items_of : List Proven → List Item
  items_of known = map (λ k. k.0) known

  abbrev FormDiffers : Item-F Item → Type 0
  FormDiffers x = Differs (stands_step (map-Item Item (Standing → Bool) item_stands x)) (ids_step (map-Item Item (List ℕ) item_ids x)) (parts_step view (map-Item Item (Option Code → List Part) (item_parts view) x))

  rolled : (x : Item-F Item) → FormDiffers x → ItemDiffers (roll-Item x)
  unfolding item_stands item_ids item_parts
  rolled x differs =
      subst (λ f. Differs f (item_ids (roll-Item x)) (item_parts view (roll-Item x))) (sym (fold-roll-Item (Standing → Bool) stands_step x))
      (subst (λ f. Differs (stands_step (map-Item Item (Standing → Bool) item_stands x)) f (item_parts view (roll-Item x))) (sym (fold-roll-Item (List ℕ) ids_step x))
      (subst (λ f. Differs (stands_step (map-Item Item (Standing → Bool) item_stands x)) (ids_step (map-Item Item (List ℕ) item_ids x)) f) (sym (fold-roll-Item (Option Code → List Part) (parts_step view) x))
      differs))

  block : (known : List Proven) (key : Option Code) (s : Standing) (n : ℕ) → stand_all s (map item_stands (items_of known)) ≡ true → concat (map item_ids (items_of known)) ≡ range_with_len n (length (concat (map item_ids (items_of known)))) → Good s key → Apart (concat (map item_ids (items_of known))) n key (parts_joined (map (item_parts view) (items_of known)) key)
  block [] key s n stands ids good = no_parts [] n key
  block (k ∷ known) key s n stands ids good =
      let stand = and_cases (item_stands k.0 s) (stand_all s (map item_stands (items_of known))) stands in
      let id = range_split (item_ids k.0) (concat (map item_ids (items_of known))) n ids in
      both_parts (item_ids k.0) (concat (map item_ids (items_of known))) n key (item_parts view k.0 key) (parts_joined (map (item_parts view) (items_of known)) key)
      (k.1 key s n stand.0 id.0 good)
      (block known key s (n + length (item_ids k.0)) stand.1 id.1 good)

  attrs_apart : (attrs : List Attr) (key : Option Code) (n : ℕ) → flat_map attr_ids attrs ≡ range_with_len n (length (flat_map attr_ids attrs)) → Apart (flat_map attr_ids attrs) n key (map (attr_part key) attrs)
  attrs_apart [] key n ids = no_parts [] n key
  attrs_apart (attr.Bare name ∷ attrs) key n ids = blank (flat_map attr_ids attrs) n key (bare name) (map (attr_part key) attrs) refl (λ id store. refl) (λ id. refl) (attrs_apart attrs key n ids)
  attrs_apart (attr.Fixed name text ∷ attrs) key n ids = blank (flat_map attr_ids attrs) n key (fixed name text) (map (attr_part key) attrs) refl (λ id store. refl) (λ id. refl) (attrs_apart attrs key n ids)
  attrs_apart (attr.Shown name id expr ∷ attrs) key n ids =
      let first = first_is id n (flat_map attr_ids attrs) ids in
      both_parts (id ∷ []) (flat_map attr_ids attrs) n key (valued name (place_at id key) ∷ []) (map (attr_part key) attrs)
      (one_part id n key (valued name (place_at id key)) first.0 refl (λ e store. refl) (λ e. refl))
      (attrs_apart attrs key (n + 1) first.1)

  ending_apart : (tag : ℕ) (closed : Bool) (n : ℕ) (key : Option Code) → Apart [] n key (ending tag closed)
  ending_apart tag true n key = blank [] n key (ends tag) [] refl (λ id store. refl) (λ id. refl) (no_parts [] n key)
  ending_apart tag false n key = no_parts [] n key

  by_form : (y : Item-F Proven) → FormDiffers (map-Item Proven Item (λ k. k.0) y)
  by_form (level.Signal id name start) key s n stands ids good = no_parts (id ∷ []) n key
  by_form (level.Memo id name expr) key s n stands ids good = no_parts (id ∷ []) n key
  by_form (level.Effect id name expr) key s n stands ids good = no_parts (id ∷ []) n key
  by_form (level.Resource id name after ks values) key s n stands ids good = no_parts (id ∷ []) n key
  by_form (level.Load id name resource expr) key s n stands ids good = no_parts (id ∷ suc id ∷ []) n key
  by_form (level.Store id name max fields starts) key s n stands ids good = no_parts (range_with_len id (2 + length fields)) n key
  by_form (level.Cleanup text) key s n stands ids good = no_parts [] n key
  by_form (level.Area id name owner known) key s n stands ids good =
      let stand = and_cases (may_have_area s) (stand_all (inside_area s) (map item_stands (items_of known))) stands in
      let first = first_is id n (concat (map item_ids (items_of known))) ids in
      gated (view.live owner) id n (concat (map item_ids (items_of known))) key (area (place_at id key)) (parts_joined (map (item_parts view) (items_of known)) key)
      (one_part id n key (area (place_at id key)) first.0 refl (λ e store. refl) (λ e. refl))
      (block known key (inside_area s) (n + 1) stand.1 first.1 good)
  by_form (level.If id cond known) key s n stands ids good =
      let first = first_is id n (concat (map item_ids (items_of known))) ids in
      gated (truth (view.value (place_at id key))) id n (concat (map item_ids (items_of known))) key (branch (place_at id key)) (parts_joined (map (item_parts view) (items_of known)) key)
      (one_part id n key (branch (place_at id key)) first.0 refl (λ e store. refl) (λ e. refl))
      (block known key (inside_if s) (n + 1) stands first.1 good)
  by_form (level.Each id store known) key s n stands ids good =
      let stand = and_cases (may_have_each s) (stand_all (inside_each s) (map item_stands (items_of known))) stands in
      let first = first_is id n (concat (map item_ids (items_of known))) ids in
      let once = not_true s.repeated stand.0 in
      rows_apart id store n (concat (map item_ids (items_of known))) key (λ k. parts_joined (map (item_parts view) (items_of known)) (Some k)) first.0
      (λ k some. (let again = good k some in absurd cc))
      (λ k. block known (Some k) (inside_each s) (n + 1) stand.1 first.1 (λ c is. refl))
  by_form (level.Element tag closed attrs known) key s n stands ids good =
      let id = range_split (flat_map attr_ids attrs) (concat (map item_ids (items_of known))) n ids in
      let own : List ℕ = flat_map attr_ids attrs in
      let inner : List ℕ = concat (map item_ids (items_of known)) in
      let first : List Part = begins tag ∷ map (attr_part key) attrs in
      let second : List Part = begun ∷ parts_joined (map (item_parts view) (items_of known)) key in
      subst (λ l. Apart l n key (first ++ second ++ ending tag closed)) (append-nil (own ++ inner))
      (both_parts (own ++ inner) [] n key (first ++ second) (ending tag closed)
      (both_parts own inner n key first second
      (blank own n key (begins tag) (map (attr_part key) attrs) refl (λ e store. refl) (λ e. refl) (attrs_apart attrs key n id.0))
      (blank inner (n + length own) key begun (parts_joined (map (item_parts view) (items_of known)) key) refl (λ e store. refl) (λ e. refl) (block known key (inside_element s) (n + length own) stands id.1 good)))
      (ending_apart tag closed (n + length (own ++ inner)) key))
  by_form (level.Text text) key s n stands ids good = blank [] n key (plain text) [] refl (λ e store. refl) (λ e. refl) (no_parts [] n key)
  by_form (level.Shown id expr) key s n stands ids good = one_part id n key (shows (place_at id key)) (first_is id n [] ids).0 refl (λ e store. refl) (λ e. refl)

  item_differs : (item : Item) → ItemDiffers item
  item_differs = ind-Item ItemDiffers (λ x y is. subst (λ z. ItemDiffers (roll-Item z)) is (rolled (map-Item Proven Item (λ k. k.0) y) (by_form y)))

  text_differs : (items : List Item) (key : Option Code) (s : Standing) (n : ℕ) → list_all (λ item. item_stands item s) items ≡ true → ids_in items ≡ range_with_len n (length (ids_in items)) → Good s key → Apart (ids_in items) n key (items_parts view items key)
  text_differs [] key s n stands ids good = no_parts [] n key
  text_differs (item ∷ items) key s n stands ids good =
      let stand = and_cases (item_stands item s) (list_all (λ item. item_stands item s) items) stands in
      let id = range_split (item_ids item) (ids_in items) n ids in
      both_parts (item_ids item) (ids_in items) n key (item_parts view item key) (items_parts view items key)
      (item_differs item key s n stand.0 id.0 good)
      (text_differs items key s (n + length (item_ids item)) stand.1 id.1 good)

  all_apart : (component : Component) → IsKept component → Apart (ids_in component.items) 0 None (parts_in view component.items)
  all_apart component kept = at (view.live 0)
    where
      at : (live : Bool) → Apart (ids_in component.items) 0 None (if live then items_parts view component.items None else [])
      at true = text_differs component.items None standing_at_top 0 kept.stand kept.numbered.ids (λ k is. cc)
      at false = no_parts (ids_in component.items) 0 None

  pub places_differ : (component : Component) → IsKept component → KeysDiffer view → places_apart (mounted_places (parts_in view component.items)) ≡ true
  places_differ component kept keys = (all_apart component kept).differ keys

  pub rows_stand : (component : Component) → IsKept component → RowsStand view (parts_in view component.items)
  rows_stand component kept = (all_apart component kept).rows
