-- In a text of a component no place stands twice.
use Rattle.std.proofs.Common.{◌≡◌, ℕ, suc, ◌+◌, ◌<◌, ◌≤◌, inl, inr, ◌||◌, ◌&&◌, ◌==◌, not, nat_le, if◌then◌else◌, Bool, true, false, List, [], ◌∷◌, ◌++◌, map, length, Option, Some, None, is_some, refl, sym, ap, subst, ◌∙◌, arith, length-append}
use Rattle.std.specs.List.{list_any, list_all, flat_map, concat, range_with_len}
use Rattle.std.specs.Option.{option_map}
use Rattle.std.proofs.lemmas.List.Folds.{list_any-append}
use Rattle.std.proofs.lemmas.Bool.{eqb-true}
use Rattle.std.proofs.lemmas.List.FromFn.{length-range_with_len}
use Rattle.values.specs.declared.code.Code.{Code}
use Rattle.values.specs.Evaluation.{is_same}
use Rattle.values.specs.declared.plan.Kind.TheVariants as kind
use Rattle.store_fields.specs.declared.row.Row.{Row}
use Rattle.component_items.specs.declared.component.Attr.{Attr}
use Rattle.component_items.specs.declared.component.Attr.TheVariants as attr
use Rattle.component_items.specs.declared.component.Component.{Component}
use Rattle.component_items.specs.declared.component.Item.{Item}
use Rattle.component_items.specs.declared.component.Item.TheOpen as level
use Rattle.component_items.specs.declared.component.Item.TheOpen.{Item-F}
use Rattle.component_items.specs.declared.component.Item.TheViews.{roll-Item}
use Rattle.component_items.specs.declared.component.Item.TheFolds.{fold-roll-Item, map-Item, ind-Item}
use Rattle.component_items.specs.Ids.{attr_ids, ids_step, item_ids, ids_in}
use Rattle.component_items.specs.Kept.{Standing, standing_at_top, is_in_owner, may_have_each, may_have_area, inside_area, inside_if, inside_each, inside_element, stand_all, stands_step, item_stands, IsKept}
use Rattle.plain_evaluation.specs.Place.{Place, same_key, same_place, place_at}
use Rattle.plain_evaluation.specs.Written.{State, RowAround, Scene, Says, given, derived, Written, place_of, key_in, in_row, in_area, put, write_attr, write_fields, write_all, write_step, write_item, write_items, pairs_among, written_in, at_top}
use Rattle.plain_evaluation.specs.Sound.{has_place, places_differ}
use Rattle.plain_evaluation.specs.Fits.{all_fit, fits_step, item_fits, keys_differ, RowsFit, store_fits}
use Rattle.plain_evaluation.proofs.Places.{and_cases, and_both, or_none, not_true, place_itself, same_code, code_itself}
use Rattle.plain_evaluation.proofs.Covers.{RowAmong}

-- ---- ids from one number to below another, and one key

abbrev pub Within : ℕ → ℕ → List Written → Type 0
Within low high [] = Unit {0}
Within low high (w ∷ ws) = (low ≤ w.id) × (w.id < high) × Within low high ws

abbrev pub AllKeys : Option Code → List Written → Type 0
AllKeys key [] = Unit {0}
AllKeys key (w ∷ ws) = (key_in w.scene ≡ key) × AllKeys key ws

within-append : (low high : ℕ) (xs ys : List Written) → Within low high xs → Within low high ys → Within low high (xs ++ ys)
within-append low high [] ys h g = g
within-append low high (x ∷ xs) ys h g = (h.0, h.1, within-append low high xs ys h.2 g)

wider : (low high low' high' : ℕ) (ws : List Written) → low' ≤ low → high ≤ high' → Within low high ws → Within low' high' ws
wider low high low' high' [] below above h = tt
wider low high low' high' (w ∷ ws) below above h = (omega (arith, h.0), omega (arith, h.1), wider low high low' high' ws below above h.2)

keys-append : (key : Option Code) (xs ys : List Written) → AllKeys key xs → AllKeys key ys → AllKeys key (xs ++ ys)
keys-append key [] ys h g = g
keys-append key (x ∷ xs) ys h g = (h.0, keys-append key xs ys h.1 g)

has_place-append : (xs ys : List Written) (p : Place) → has_place (xs ++ ys) p ≡ (has_place xs p || has_place ys p)
has_place-append xs ys p = list_any-append (λ w. same_place (place_of w) p) xs ys

or_false : (a b : Bool) → a ≡ false → b ≡ false → (a || b) ≡ false
or_false a b h g = (λ i. h i || b) ∙ g

-- a list after another that has none of its places
pub differ-append : (xs ys : List Written) → places_differ xs ≡ true → places_differ ys ≡ true → ((p : Place) → has_place xs p ≡ true → has_place ys p ≡ false) → places_differ (xs ++ ys) ≡ true
differ-append [] ys first second apart = second
differ-append (x ∷ xs) ys first second apart =
    let both = and_cases (not (has_place xs (place_of x))) (places_differ xs) first in
    let here : has_place ys (place_of x) ≡ false = apart (place_of x) (ap (λ b. b || has_place xs (place_of x)) (itself (place_of x))) in
    and_both _ _ (ap not (has_place-append xs ys (place_of x) ∙ or_false _ _ (not_true _ both.0) here)) (differ-append xs ys both.1 second (λ p has. apart p (further (same_place (place_of x) p) (has_place xs p) has)))
  where
    itself : (p : Place) → same_place p p ≡ true
    itself p = place_itself p

    further : (a b : Bool) → b ≡ true → (a || b) ≡ true
    further true b h = refl
    further false b h = h

id_of : (p q : Place) → same_place p q ≡ true → p.id ≡ q.id
id_of p q h = eqb-true p.id q.id (and_cases (p.id == q.id) (same_key p.key q.key) h).0

-- a place of the list has an id of its range
id_within : (low high : ℕ) (ws : List Written) (p : Place) → Within low high ws → has_place ws p ≡ true → (low ≤ p.id) × (p.id < high)
id_within low high [] p within has = cc
id_within low high (w ∷ ws) p within has = at (same_place (place_of w) p) refl has (id_within low high ws p within.2)
  where
    at : (b : Bool) → same_place (place_of w) p ≡ b → (b || has_place ws p) ≡ true → (has_place ws p ≡ true → (low ≤ p.id) × (p.id < high)) → (low ≤ p.id) × (p.id < high)
    at true same has later = let e = id_of (place_of w) p same in (omega (arith, within.0, e), omega (arith, within.1, e))
    at false same has later = later has

no_place : (b : Bool) → (b ≡ true → ⊥) → b ≡ false
no_place true h = absurd (h refl)
no_place false h = refl

differ_by_ids : (low mid high : ℕ) (xs ys : List Written) → Within low mid xs → Within mid high ys → places_differ xs ≡ true → places_differ ys ≡ true → places_differ (xs ++ ys) ≡ true
differ_by_ids low mid high xs ys wx wy first second = differ-append xs ys first second (λ p has. no_place (has_place ys p) (λ other. (let a = id_within low mid xs p wx has in let b = id_within mid high ys p wy other in omega (arith, a.1, b.0))))

-- a place of the list has its key
key_within : (key : Option Code) (ws : List Written) (p : Place) → AllKeys key ws → has_place ws p ≡ true → same_key key p.key ≡ true
key_within key [] p keys has = cc
key_within key (w ∷ ws) p keys has = at (same_place (place_of w) p) refl has (key_within key ws p keys.1)
  where
    at : (b : Bool) → same_place (place_of w) p ≡ b → (b || has_place ws p) ≡ true → (has_place ws p ≡ true → same_key key p.key ≡ true) → same_key key p.key ≡ true
    at true same has later = subst (λ k. same_key k p.key ≡ true) keys.0 (and_cases (w.id == p.id) (same_key (key_in w.scene) p.key) same).1
    at false same has later = later has

-- ---- one part for each row

rows_within : (low high : ℕ) (part : Row → List Written) (rows : List Row) → ((row : Row) → RowAmong rows row → Within low high (part row)) → Within low high (flat_map part rows)
rows_within low high part [] each = tt
rows_within low high part (row ∷ rows) each = within-append low high (part row) (flat_map part rows) (each row (inl refl)) (rows_within low high part rows (λ r among. each r (inr among)))

-- a place of a later part has another key
other_key : (part : Row → List Written) (key : Code) (rows : List Row) (p : Place) → ((row : Row) → AllKeys (Some row.key) (part row)) → list_any (λ other. is_same key other.key) rows ≡ false → same_key (Some key) p.key ≡ true → has_place (flat_map part rows) p ≡ false
other_key part key [] p keys none same = refl
other_key part key (row ∷ rows) p keys none same =
    let both = or_none (is_same key row.key) (list_any (λ other. is_same key other.key) rows) none in
    has_place-append (part row) (flat_map part rows) p ∙ or_false _ _
    (no_place (has_place (part row) p) (λ has. at p.key same (key_within (Some row.key) (part row) p (keys row) has) both.0))
    (other_key part key rows p keys both.1 same)
  where
    at : (k : Option Code) → same_key (Some key) k ≡ true → same_key (Some row.key) k ≡ true → is_same key row.key ≡ false → ⊥
    at None one two apart = cc
    at (Some k) one two apart =
        let e : key ≡ row.key = same_code key k one ∙ sym (same_code row.key k two) in
        let g : is_same key row.key ≡ true = subst (λ (x : Code). is_same key x ≡ true) e (code_itself key) in
        cc

rows_differ : (part : Row → List Written) (rows : List Row) → ((row : Row) → places_differ (part row) ≡ true) → ((row : Row) → AllKeys (Some row.key) (part row)) → keys_differ rows ≡ true → places_differ (flat_map part rows) ≡ true
rows_differ part [] each keys differ = refl
rows_differ part (row ∷ rows) each keys differ =
    let both = and_cases (not (list_any (λ other. is_same row.key other.key) rows)) (keys_differ rows) differ in
    differ-append (part row) (flat_map part rows) (each row) (rows_differ part rows each keys both.1) (λ p has. other_key part row.key rows p keys (not_true _ both.0) (key_within (Some row.key) (part row) p (keys row) has))

-- ---- ranges of ids

range_split : (xs ys : List ℕ) (n : ℕ) → xs ++ ys ≡ range_with_len n (length (xs ++ ys)) → (xs ≡ range_with_len n (length xs)) × (ys ≡ range_with_len (n + length xs) (length ys))
range_split [] ys n is = let e : n + 0 ≡ n = omega arith in (refl, rw e is)
range_split (x ∷ xs) ys n is =
    let first : x ≡ n = cc in
    let rest : xs ++ ys ≡ range_with_len (n + 1) (length (xs ++ ys)) = cc in
    let both = range_split xs ys (n + 1) rest in
    ((λ i. first i ∷ both.0 i), both.1 ∙ ap (λ k. range_with_len k (length ys)) {x = n + 1 + length xs} {y = n + suc (length xs)} (omega arith))

first_is : (id n : ℕ) (ids : List ℕ) → id ∷ ids ≡ range_with_len n (suc (length ids)) → (id ≡ n) × (ids ≡ range_with_len (n + 1) (length ids))
first_is id n ids is = (cc, cc)

-- ---- what holds of one item

abbrev Good : Standing → Scene → Type 0
Good s scene = (s.repeated ≡ is_some scene.row) × (s.repeated ≡ true → (s.branched ≡ true) × (is_in_owner s.inner ≡ false))

abbrev Apart : List ℕ → ℕ → Scene → List Written → Type 0
Apart ids n scene ws = Within n (n + length ids) ws × (places_differ ws ≡ true) × ((row : RowAround) → scene.row ≡ Some row → AllKeys (Some row.key) ws)

abbrev Differs : (Standing → Bool) → Bool → List ℕ → (Scene → List Written) → Type 0
Differs stands fits ids writes = (scene : Scene) (s : Standing) (n : ℕ) → stands s ≡ true → fits ≡ true → ids ≡ range_with_len n (length ids) → Good s scene → Apart ids n scene (writes scene)

key_of : (scene : Scene) (row : RowAround) → scene.row ≡ Some row → key_in scene ≡ Some row.key
key_of scene row is = ap (option_map (λ r. r.key)) is

-- one place
one_place : (id n : ℕ) (more : List ℕ) (says : Says) (scene : Scene) → id ≡ n → Apart (id ∷ more) n scene (put id says scene)
one_place id n more says scene is = ((omega (arith, is), omega (arith, is), tt), refl, λ row some. (key_of scene row some, tt))

no_places : (ids : List ℕ) (n : ℕ) (scene : Scene) → Apart ids n scene []
no_places ids n scene = (tt, refl, λ row some. tt)

-- nothing is declared inside a row
outside_rows : (s : Standing) (scene : Scene) (row : RowAround) → Good s scene → scene.row ≡ Some row → (s.branched ≡ true) × (is_in_owner s.inner ≡ false) × (s.repeated ≡ true)
outside_rows s scene row good some =
    let repeated : s.repeated ≡ true = good.0 ∙ ap is_some some in
    let both = good.1 repeated in
    (both.0, both.1, repeated)

other : (id : ℕ) → (id == suc id) ≡ false
other id = grind arith

-- parts one after another
both_parts : (xs ys : List ℕ) (n : ℕ) (scene : Scene) (first second : List Written) → Apart xs n scene first → Apart ys (n + length xs) scene second → Apart (xs ++ ys) n scene (first ++ second)
both_parts xs ys n scene first second a b =
    let long : length (xs ++ ys) ≡ length xs + length ys = length-append xs ys in (
      within-append n (n + length (xs ++ ys)) first second (wider n (n + length xs) n (n + length (xs ++ ys)) first (omega arith) (omega (arith, long)) a.0) (wider (n + length xs) (n + length xs + length ys) n (n + length (xs ++ ys)) second (omega arith) (omega (arith, long)) b.0),
      differ_by_ids n (n + length xs) (n + length xs + length ys) first second a.0 b.0 a.1 b.1,
      λ row some. keys-append (Some row.key) first second (a.2 row some) (b.2 row some),
    )

-- the fields of a row
fields_apart : (first : ℕ) (codes : List Code) (scene : Scene) → Within first (first + length codes) (write_fields first codes scene) × (places_differ (write_fields first codes scene) ≡ true) × AllKeys (key_in scene) (write_fields first codes scene)
fields_apart first [] scene = (tt, refl, tt)
fields_apart first (code ∷ codes) scene =
    let rest = fields_apart (suc first) codes scene in (
      (omega arith, omega arith, wider (suc first) (suc first + length codes) first (first + suc (length codes)) (write_fields (suc first) codes scene) (omega arith) (omega arith) rest.0),
      differ_by_ids first (suc first) (suc first + length codes) (put first (given kind.Field code) scene) (write_fields (suc first) codes scene) (omega arith, omega arith, tt) rest.0 refl rest.1,
      (refl, rest.2),
    )

all_among : (p : Row → Bool) (rows : List Row) (row : Row) → list_all p rows ≡ true → RowAmong rows row → p row ≡ true
all_among p [] row all among = absurd among
all_among p (r ∷ rows) row all (inl here) = subst (λ q. p q ≡ true) here (and_cases (p r) (list_all p rows) all).0
all_among p (r ∷ rows) row all (inr later) = all_among p rows row (and_cases (p r) (list_all p rows) all).1 later

store_first : (id n k : ℕ) → range_with_len id (2 + k) ≡ range_with_len n (length (range_with_len id (2 + k))) → id ≡ n
store_first id n k is =
    let e : 2 + k ≡ suc (suc k) = omega arith in
    let long : length (range_with_len id (2 + k)) ≡ suc (suc k) = length-range_with_len id (2 + k) ∙ e in
    let f : range_with_len id (suc (suc k)) ≡ range_with_len n (suc (suc k)) = ap (range_with_len id) (sym e) ∙ is ∙ ap (range_with_len n) long in
    cc

area : (live : Bool) (id n : ℕ) (ids : List ℕ) (scene there : Scene) (ws : List Written) → there.row ≡ scene.row → Apart ids (n + 1) there ws → Apart (id ∷ ids) n scene (if live then ws else [])
area true id n ids scene there ws same apart = (wider (n + 1) (n + 1 + length ids) n (n + suc (length ids)) ws (omega arith) (omega arith) apart.0, apart.1, λ row some. apart.2 row (same ∙ some))
area false id n ids scene there ws same apart = no_places (id ∷ ids) n scene

module _ (state : State) (pairs : ℕ → List (Code × Code)) (keys : (id : ℕ) → keys_differ (state.rows id) ≡ true) where
  abbrev ItemDiffers : Item → Type 0
  ItemDiffers item = Differs (item_stands item) (item_fits (store_fits state) item) (item_ids item) (write_item state pairs item)

  abbrev Proven : Type 0
  Proven = (item : Item) × ItemDiffers item

  abbrev items_of : List Proven → List Item
  items_of known = map (λ k. k.0) known

  abbrev FormDiffers : Item-F Item → Type 0
  FormDiffers x = Differs (stands_step (map-Item Item (Standing → Bool) item_stands x)) (fits_step (store_fits state) (map-Item Item Bool (item_fits (store_fits state)) x)) (ids_step (map-Item Item (List ℕ) item_ids x)) (write_step state pairs (map-Item Item (Scene → List Written) (write_item state pairs) x))

  rolled : (x : Item-F Item) → FormDiffers x → ItemDiffers (roll-Item x)
  unfolding item_stands item_fits item_ids write_item
  rolled x differs =
      subst (λ f. Differs f (item_fits (store_fits state) (roll-Item x)) (item_ids (roll-Item x)) (write_item state pairs (roll-Item x))) (sym (fold-roll-Item (Standing → Bool) stands_step x))
      (subst (λ f. Differs (stands_step (map-Item Item (Standing → Bool) item_stands x)) f (item_ids (roll-Item x)) (write_item state pairs (roll-Item x))) (sym (fold-roll-Item Bool (fits_step (store_fits state)) x))
      (subst (λ f. Differs (stands_step (map-Item Item (Standing → Bool) item_stands x)) (fits_step (store_fits state) (map-Item Item Bool (item_fits (store_fits state)) x)) f (write_item state pairs (roll-Item x))) (sym (fold-roll-Item (List ℕ) ids_step x))
      (subst (λ f. Differs (stands_step (map-Item Item (Standing → Bool) item_stands x)) (fits_step (store_fits state) (map-Item Item Bool (item_fits (store_fits state)) x)) (ids_step (map-Item Item (List ℕ) item_ids x)) f) (sym (fold-roll-Item (Scene → List Written) (write_step state pairs) x))
      differs)))

  block : (known : List Proven) (scene : Scene) (s : Standing) (n : ℕ) → stand_all s (map item_stands (items_of known)) ≡ true → all_fit (map (item_fits (store_fits state)) (items_of known)) ≡ true → concat (map item_ids (items_of known)) ≡ range_with_len n (length (concat (map item_ids (items_of known)))) → Good s scene → Apart (concat (map item_ids (items_of known))) n scene (write_all (map (write_item state pairs) (items_of known)) scene)
  block [] scene s n stands fits ids good = no_places [] n scene
  block (k ∷ known) scene s n stands fits ids good =
      let stand = and_cases (item_stands k.0 s) (stand_all s (map item_stands (items_of known))) stands in
      let fit = and_cases (item_fits (store_fits state) k.0) (all_fit (map (item_fits (store_fits state)) (items_of known))) fits in
      let id = range_split (item_ids k.0) (concat (map item_ids (items_of known))) n ids in
      both_parts (item_ids k.0) (concat (map item_ids (items_of known))) n scene (write_item state pairs k.0 scene) (write_all (map (write_item state pairs) (items_of known)) scene)
      (k.1 scene s n stand.0 fit.0 id.0 good)
      (block known scene s (n + length (item_ids k.0)) stand.1 fit.1 id.1 good)

  attrs_apart : (attrs : List Attr) (scene : Scene) (n : ℕ) → flat_map attr_ids attrs ≡ range_with_len n (length (flat_map attr_ids attrs)) → Apart (flat_map attr_ids attrs) n scene (flat_map (write_attr scene) attrs)
  attrs_apart [] scene n ids = no_places [] n scene
  attrs_apart (attr.Bare name ∷ attrs) scene n ids = attrs_apart attrs scene n ids
  attrs_apart (attr.Fixed name text ∷ attrs) scene n ids = attrs_apart attrs scene n ids
  attrs_apart (attr.Shown name id expr ∷ attrs) scene n ids =
      let first = first_is id n (flat_map attr_ids attrs) ids in
      both_parts (id ∷ []) (flat_map attr_ids attrs) n scene (put id (derived kind.Memo expr) scene) (flat_map (write_attr scene) attrs) (one_place id n [] (derived kind.Memo expr) scene first.0) (attrs_apart attrs scene (n + 1) first.1)

  by_form : (y : Item-F Proven) → FormDiffers (map-Item Proven Item (λ k. k.0) y)
  by_form (level.Signal id name start) scene s n stands fits ids good = one_place id n [] (given kind.Signal (state.value (place_at id (key_in scene)))) scene (first_is id n [] ids).0
  by_form (level.Memo id name expr) scene s n stands fits ids good = one_place id n [] (derived kind.Memo expr) scene (first_is id n [] ids).0
  by_form (level.Effect id name expr) scene s n stands fits ids good = one_place id n [] (derived kind.Effect expr) scene (first_is id n [] ids).0
  by_form (level.Resource id name after ks values) scene s n stands fits ids good = no_places (id ∷ []) n scene
  by_form (level.Load id name resource key) scene s n stands fits ids good =
      let first = first_is id n (suc id ∷ []) ids in
      let e : id ≡ n = first.0 in
      ((omega arith, omega arith, (omega arith, omega arith, tt)), ap (λ b. not ((b && same_key (key_in scene) (key_in scene)) || false) && true) (other id), λ row some. (key_of scene row some, (key_of scene row some, tt)))
  by_form (level.Store id name max fields starts) scene s n stands fits ids good =
      let e = store_first id n (length fields) ids in
      let fit = and_cases (list_all (λ row. length row.fields == length fields) (state.rows id)) (nat_le (length (state.rows id)) max) fits in
      let part : Row → List Written = λ row. write_fields (2 + id) row.fields (in_row id row.key scene) in
      let long : length (range_with_len id (2 + length fields)) ≡ 2 + length fields = length-range_with_len id (2 + length fields) in (
        wider (2 + id) (2 + id + length fields) n (n + length (range_with_len id (2 + length fields))) (flat_map part (state.rows id)) (omega arith) (omega arith)
            (rows_within (2 + id) (2 + id + length fields) part (state.rows id) (λ row among.
            let wide : length row.fields ≡ length fields = eqb-true (length row.fields) (length fields) (all_among (λ row. length row.fields == length fields) (state.rows id) row fit.0 among) in
            subst (λ k. Within (2 + id) (2 + id + k) (part row)) wide (fields_apart (2 + id) row.fields (in_row id row.key scene)).0)),
        rows_differ part (state.rows id) (λ row. (fields_apart (2 + id) row.fields (in_row id row.key scene)).1) (λ row. (fields_apart (2 + id) row.fields (in_row id row.key scene)).2) (keys id),
        λ row some. (let o = outside_rows s scene row good some in cc),
      )
  by_form (level.Cleanup text) scene s n stands fits ids good = no_places [] n scene
  by_form (level.Area id name owner known) scene s n stands fits ids good =
      let stand = and_cases (may_have_area s) (stand_all (inside_area s) (map item_stands (items_of known))) stands in
      let first = first_is id n (concat (map item_ids (items_of known))) ids in
      area (state.live owner) id n (concat (map item_ids (items_of known))) scene (in_area owner scene) (write_all (map (write_item state pairs) (items_of known)) (in_area owner scene)) refl
      (block known (in_area owner scene) (inside_area s) (n + 1) stand.1 fits first.1 (good.0, λ repeated. absurd (let o = (good.1 repeated).0 in let free = not_true s.branched stand.0 in cc)))
  by_form (level.If id cond known) scene s n stands fits ids good =
      let first = first_is id n (concat (map item_ids (items_of known))) ids in
      both_parts (id ∷ []) (concat (map item_ids (items_of known))) n scene (put id (derived kind.Memo cond) scene) (write_all (map (write_item state pairs) (items_of known)) scene)
      (one_place id n [] (derived kind.Memo cond) scene first.0)
      (block known scene (inside_if s) (n + 1) stands fits first.1 (good.0, λ repeated. (refl, refl)))
  by_form (level.Each id store known) scene s n stands fits ids good =
      let stand = and_cases (may_have_each s) (stand_all (inside_each s) (map item_stands (items_of known))) stands in
      let first = first_is id n (concat (map item_ids (items_of known))) ids in
      let inner : List ℕ = concat (map item_ids (items_of known)) in
      let part : Row → List Written = λ row. write_all (map (write_item state pairs) (items_of known)) (in_row store row.key scene) in
      let each : (row : Row) → Apart inner (n + 1) (in_row store row.key scene) (part row) = λ row. block known (in_row store row.key scene) (inside_each s) (n + 1) stand.1 fits first.1 (refl, λ repeated. (refl, refl)) in (
        wider (n + 1) (n + 1 + length inner) n (n + suc (length inner)) (flat_map part (state.rows store)) (omega arith) (omega arith) (rows_within (n + 1) (n + 1 + length inner) part (state.rows store) (λ row among. (each row).0)),
        rows_differ part (state.rows store) (λ row. (each row).1) (λ row. (each row).2 (record { store = store; key = row.key }) refl) (keys store),
        λ row some. absurd (let o = (outside_rows s scene row good some).2 in let free = not_true s.repeated stand.0 in cc),
      )
  by_form (level.Element tag closed attrs known) scene s n stands fits ids good =
      let id = range_split (flat_map attr_ids attrs) (concat (map item_ids (items_of known))) n ids in
      both_parts (flat_map attr_ids attrs) (concat (map item_ids (items_of known))) n scene (flat_map (write_attr scene) attrs) (write_all (map (write_item state pairs) (items_of known)) scene)
      (attrs_apart attrs scene n id.0)
      (block known scene (inside_element s) (n + length (flat_map attr_ids attrs)) stands fits id.1 (good.0, λ repeated. ((good.1 repeated).0, refl)))
  by_form (level.Text text) scene s n stands fits ids good = no_places [] n scene
  by_form (level.Shown id expr) scene s n stands fits ids good = one_place id n [] (derived kind.Memo expr) scene (first_is id n [] ids).0

  item_differs : (item : Item) → ItemDiffers item
  item_differs = ind-Item ItemDiffers (λ x y is. subst (λ z. ItemDiffers (roll-Item z)) is (rolled (map-Item Proven Item (λ k. k.0) y) (by_form y)))

  text_differs : (items : List Item) (scene : Scene) (s : Standing) (n : ℕ) → list_all (λ item. item_stands item s) items ≡ true → list_all (item_fits (store_fits state)) items ≡ true → ids_in items ≡ range_with_len n (length (ids_in items)) → Good s scene → Apart (ids_in items) n scene (write_items state pairs items scene)
  text_differs [] scene s n stands fits ids good = no_places [] n scene
  text_differs (item ∷ items) scene s n stands fits ids good =
      let stand = and_cases (item_stands item s) (list_all (λ item. item_stands item s) items) stands in
      let fit = and_cases (item_fits (store_fits state) item) (list_all (item_fits (store_fits state)) items) fits in
      let id = range_split (item_ids item) (ids_in items) n ids in
      both_parts (item_ids item) (ids_in items) n scene (write_item state pairs item scene) (write_items state pairs items scene)
      (item_differs item scene s n stand.0 fit.0 id.0 good)
      (text_differs items scene s (n + length (item_ids item)) stand.1 fit.1 id.1 good)

pub places_are_apart : (component : Component) (state : State) → IsKept component → RowsFit component state → places_differ (written_in component state) ≡ true
places_are_apart component state kept fits = at (state.live 0)
  where
    at : (live : Bool) → places_differ (if live then write_items state (pairs_among component.items) component.items at_top else []) ≡ true
    at true = (text_differs state (pairs_among component.items) fits.keys component.items at_top standing_at_top 0 kept.stand fits.stores kept.numbered.ids (refl, λ repeated. cc)).1
    at false = refl
