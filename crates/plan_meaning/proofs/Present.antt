-- What is due is written out.
use Rattle.std.proofs.Common.{◌≡◌, ℕ, suc, ◌+◌, ◌<◌, ◌≤◌, ◌&&◌, ◌||◌, not, ◌==◌, nat_le, if◌then◌else◌, Bool, true, false, List, [], ◌∷◌, ◌++◌, map, length, Option, Some, None, is_some, refl, sym, ap, subst, ◌∙◌, arith}
use Rattle.std.specs.List.{flat_map, list_all}
use Rattle.std.specs.Option.{option_map}
use Rattle.std.proofs.lemmas.Bool.{eqb-true}
use Rattle.values.specs.declared.code.Code.{Code}
use Rattle.values.specs.declared.code.Code.TheVariants.{Empty}
use Rattle.values.specs.declared.plan.Kind.TheVariants as kind
use Rattle.values.specs.Evaluation.{is_same}
use Rattle.store_fields.specs.declared.row.Row.{Row}
use Rattle.component_items.specs.declared.component.Attr.{Attr}
use Rattle.component_items.specs.declared.component.Attr.TheVariants as attr
use Rattle.component_items.specs.declared.component.Component.{Component}
use Rattle.component_items.specs.declared.component.Item.{Item}
use Rattle.component_items.specs.declared.component.Item.TheOpen as level
use Rattle.component_items.specs.declared.component.Item.TheOpen.{Item-F}
use Rattle.component_items.specs.declared.component.Item.TheViews.{roll-Item}
use Rattle.component_items.specs.declared.component.Item.TheFolds.{fold-roll-Item, map-Item, ind-Item}
use Rattle.component_items.specs.Kept.{Standing, may_have_area, may_have_each, inside_area, inside_if, inside_each, inside_element, stand_all, stands_step, item_stands, standing_at_top, IsKept}
use Rattle.plain_evaluation.specs.Fits.{all_fit, fits_step, item_fits, store_fits, RowsFit}
use Rattle.plain_evaluation.specs.Killed.{nest_all, nests_step, item_nests}
use Rattle.plain_evaluation.specs.Lookup.{found_in}
use Rattle.plain_evaluation.specs.Origins.{Told, nothing_told, source, loads, derives, Around, Origin, no_origin, around_of, tell_attr, tell_fields, tell_all, tell_step, tell_item, tell_items, top_around, origin_in}
use Rattle.plain_evaluation.specs.Place.{Place, place_at}
use Rattle.plain_evaluation.specs.Sound.{has_place}
use Rattle.plain_evaluation.specs.Written.{State, RowAround, Scene, Says, given, loaded, derived, Written, key_in, in_row, in_area, put, write_attr, write_fields, write_all, write_step, write_item, write_items, pairs_among, written_in, at_top}
use Rattle.plain_evaluation.proofs.Places.{and_cases, or_right, not_true, same_code, place_itself, has_place-append}
use Rattle.plan_meaning.specs.There.{has_key, has_row, is_there, AreNested}
use Rattle.plan_meaning.specs.Told.{kind_told}
use Rattle.plan_meaning.proofs.Lines.{StandsSo, no_row}
use Rattle.plan_meaning.proofs.There.{due}

-- ---- pairs of a table

abbrev EachPair : (ℕ → Origin → Type 0) → List (ℕ × Origin) → Type 0
EachPair P [] = Unit {0}
EachPair P (pair ∷ pairs) = P pair.0 pair.1 × EachPair P pairs

each-append : (P : ℕ → Origin → Type 0) (xs ys : List (ℕ × Origin)) → EachPair P xs → EachPair P ys → EachPair P (xs ++ ys)
each-append P [] ys h g = g
each-append P (x ∷ xs) ys h g = (h.0, each-append P xs ys h.1 g)

each_map : (P Q : ℕ → Origin → Type 0) (pairs : List (ℕ × Origin)) → ((id : ℕ) (origin : Origin) → P id origin → Q id origin) → EachPair P pairs → EachPair Q pairs
each_map P Q [] weaker h = tt
each_map P Q (pair ∷ pairs) weaker h = (weaker pair.0 pair.1 h.0, each_map P Q pairs weaker h.1)

-- what is found in the table is one of its pairs
found_pair : (P : ℕ → Origin → Type 0) (pairs : List (ℕ × Origin)) (id : ℕ) → EachPair P pairs → is_some (kind_told (found_in no_origin pairs id).told) ≡ true → P id (found_in no_origin pairs id)
found_pair P [] id h some = cc
found_pair P (pair ∷ pairs) id h some = at (pair.0 == id) refl some (found_pair P pairs id h.1)
  where
    at : (b : Bool) → (pair.0 == id) ≡ b → is_some (kind_told (if b then pair.1 else found_in no_origin pairs id).told) ≡ true → (is_some (kind_told (found_in no_origin pairs id).told) ≡ true → P id (found_in no_origin pairs id)) → P id (if b then pair.1 else found_in no_origin pairs id)
    at true same some later = subst (λ n. P n pair.1) (eqb-true pair.0 id same) h.0
    at false same some later = later some

-- ---- what is due in a scene

-- the keys of the places of an id, written in a scene with this row around it
abbrev IsDue : State → Option RowAround → Option ℕ → Option Code → Type 0
IsDue state None store key = has_row state store key ≡ true
IsDue state (Some r) store key = key ≡ Some r.key

record IsPresent (state : State) (scene : Scene) (ws : List Written) (id : ℕ) (origin : Origin) : Type 0 where
  -- what is around its owner is live where that is
  nested : state.live origin.around.owner ≡ true → state.live scene.owner ≡ true
  inner : (r : RowAround) → scene.row ≡ Some r → origin.around.store ≡ Some r.store
  present : is_some (kind_told origin.told) ≡ true → state.live origin.around.owner ≡ true → (key : Option Code) → IsDue state scene.row origin.around.store key → has_place ws (place_at id key) ≡ true

here_inner : (row : Option RowAround) (r : RowAround) → row ≡ Some r → option_map (λ (x : RowAround). x.store) row ≡ Some r.store
here_inner None r is = cc
here_inner (Some x) r is = let e : x ≡ r = cc in ap (λ (y : RowAround). Some y.store) e

here_key : (state : State) (row : Option RowAround) (key : Option Code) → IsDue state row (option_map (λ (r : RowAround). r.store) row) key → key ≡ option_map (λ (r : RowAround). r.key) row
here_key state None None due = refl
here_key state None (Some key) due = cc
here_key state (Some r) key due = due

-- a line of the scene itself
line_present : (state : State) (scene : Scene) (ws : List Written) (id : ℕ) (told : Told) → has_place ws (place_at id (key_in scene)) ≡ true → IsPresent state scene ws id (record { around = around_of scene; told = told })
line_present state scene ws id told has = record {
  nested = λ live. live;
  inner = here_inner scene.row;
  present = λ some live key due. subst (λ k. has_place ws (place_at id k) ≡ true) (sym (here_key state scene.row key due)) has;
}

-- an id with no place
nothing_present : (state : State) (scene : Scene) (ws : List Written) (id : ℕ) → IsPresent state scene ws id (record { around = around_of scene; told = nothing_told })
nothing_present state scene ws id = record { nested = λ live. live; inner = here_inner scene.row; present = λ some live key due. cc }

left_place : (xs ys : List Written) (p : Place) → has_place xs p ≡ true → has_place (xs ++ ys) p ≡ true
left_place xs ys p has = has_place-append xs ys p ∙ ap (λ b. b || has_place ys p) has

right_place : (xs ys : List Written) (p : Place) → has_place ys p ≡ true → has_place (xs ++ ys) p ≡ true
right_place xs ys p has = has_place-append xs ys p ∙ or_right (has_place xs p) (has_place ys p) has

present_left : (state : State) (scene : Scene) (xs ys : List Written) (pairs : List (ℕ × Origin)) → EachPair (IsPresent state scene xs) pairs → EachPair (IsPresent state scene (xs ++ ys)) pairs
present_left state scene xs ys pairs = each_map (IsPresent state scene xs) (IsPresent state scene (xs ++ ys)) pairs (λ id origin h. record { nested = h.nested; inner = h.inner; present = λ some live key due. left_place xs ys (place_at id key) (h.present some live key due) })

present_right : (state : State) (scene : Scene) (xs ys : List Written) (pairs : List (ℕ × Origin)) → EachPair (IsPresent state scene ys) pairs → EachPair (IsPresent state scene (xs ++ ys)) pairs
present_right state scene xs ys pairs = each_map (IsPresent state scene ys) (IsPresent state scene (xs ++ ys)) pairs (λ id origin h. record { nested = h.nested; inner = h.inner; present = λ some live key due. right_place xs ys (place_at id key) (h.present some live key due) })

attrs_present : (state : State) (attrs : List Attr) (scene : Scene) → EachPair (IsPresent state scene (flat_map (write_attr scene) attrs)) (flat_map (tell_attr (around_of scene)) attrs)
attrs_present state [] scene = tt
attrs_present state (attr.Bare name ∷ attrs) scene = attrs_present state attrs scene
attrs_present state (attr.Fixed name text ∷ attrs) scene = attrs_present state attrs scene
attrs_present state (attr.Shown name id expr ∷ attrs) scene = (
  line_present state scene (put id (derived kind.Memo expr) scene ++ flat_map (write_attr scene) attrs) id (derives kind.Memo expr) (ap (λ b. b || has_place (flat_map (write_attr scene) attrs) (place_at id (key_in scene))) (place_itself (place_at id (key_in scene)))),
  present_right state scene (put id (derived kind.Memo expr) scene) (flat_map (write_attr scene) attrs) (flat_map (tell_attr (around_of scene)) attrs) (attrs_present state attrs scene),
)

-- ---- the fields of a store

field_there : (first : ℕ) (codes : List Code) (scene : Scene) (id : ℕ) → first ≤ id → id < first + length codes → has_place (write_fields first codes scene) (place_at id (key_in scene)) ≡ true
field_there first [] scene id above below = absurd (omega arith)
field_there first (code ∷ codes) scene id above below = at (first == id) refl (λ lt. field_there (suc first) codes scene id lt (omega arith))
  where
    rest : Bool
    rest = has_place (write_fields (suc first) codes scene) (place_at id (key_in scene))

    at : (b : Bool) → (first == id) ≡ b → (suc first ≤ id → rest ≡ true) → has_place (put first (given kind.Field code) scene ++ write_fields (suc first) codes scene) (place_at id (key_in scene)) ≡ true
    at true same later = subst (λ n. has_place (put n (given kind.Field code) scene ++ write_fields (suc first) codes scene) (place_at id (key_in scene)) ≡ true) (sym (eqb-true first id same)) (ap (λ b. b || rest) (place_itself (place_at id (key_in scene))))
    at false other later = or_right _ rest (later (grind arith))

row_there : (id count : ℕ) (rows : List Row) (scene : Scene) (field : ℕ) (key : Code) → list_all (λ r. length r.fields == count) rows ≡ true → 2 + id ≤ field → field < 2 + id + count → has_key rows key ≡ true → has_place (flat_map (λ r. write_fields (2 + id) r.fields (in_row id r.key scene)) rows) (place_at field (Some key)) ≡ true
row_there id count [] scene field key fit above below has = cc
row_there id count (r ∷ rows) scene field key fit above below has =
    let both = and_cases (length r.fields == count) (list_all (λ x. length x.fields == count) rows) fit in
    let wide : length r.fields ≡ count = eqb-true (length r.fields) count both.0 in
    at (is_same r.key key) refl has wide (row_there id count rows scene field key both.1 above below)
  where
    first : List Written
    first = write_fields (2 + id) r.fields (in_row id r.key scene)

    more : List Written
    more = flat_map (λ q. write_fields (2 + id) q.fields (in_row id q.key scene)) rows

    at : (b : Bool) → is_same r.key key ≡ b → (b || has_key rows key) ≡ true → length r.fields ≡ count → (has_key rows key ≡ true → has_place more (place_at field (Some key)) ≡ true) → has_place (first ++ more) (place_at field (Some key)) ≡ true
    at true same has wide later = subst (λ k. has_place (first ++ more) (place_at field (Some k)) ≡ true) (same_code r.key key same) (left_place first more (place_at field (Some r.key)) (field_there (2 + id) r.fields (in_row id r.key scene) field above (omega (arith, wide))))
    at false other has wide later = right_place first more (place_at field (Some key)) (later has)

fields_present : (state : State) (scene : Scene) (ws : List Written) (id first : ℕ) (fields : List ℕ) → scene.row ≡ None → ((field : ℕ) (key : Code) → first ≤ field → field < first + length fields → has_key (state.rows id) key ≡ true → has_place ws (place_at field (Some key)) ≡ true) → EachPair (IsPresent state scene ws) (tell_fields first fields (record (around_of scene) { store = Some id }))
fields_present state scene ws id first [] none has = tt
fields_present state scene ws id first (name ∷ fields) none has = (
  record { nested = λ live. live; inner = λ r is. absurd (clash r (sym none ∙ is)); present = λ some live key due. keyed key (subst (λ row. IsDue state row (Some id) key) none due) },
  fields_present state scene ws id (suc first) fields none (λ field key above below key_there. has field key (omega arith) (omega arith) key_there),
)
  where
    clash : (r : RowAround) → None ≡ Some r → ⊥
    clash r h = cc

    keyed : (key : Option Code) → has_row state (Some id) key ≡ true → has_place ws (place_at first key) ≡ true
    keyed None due = cc
    keyed (Some key) due = has first key (omega arith) (omega arith) due

-- ---- one item, by what its folds give

abbrev Presents : State → (Standing → Bool) → Bool → (Bool → Bool) → (Around → List (ℕ × Origin)) → (Scene → List Written) → Type 0
Presents state stands fits nests tells writes = (scene : Scene) (s : Standing) → stands s ≡ true → StandsSo s scene → fits ≡ true → nests (state.live scene.owner) ≡ true → EachPair (IsPresent state scene (writes scene)) (tells (around_of scene))

module _ (state : State) (pairs : ℕ → List (Code × Code)) where
  abbrev ItemPresent : Item → Type 0
  ItemPresent item = Presents state (item_stands item) (item_fits (store_fits state) item) (item_nests state.live item) (tell_item pairs item) (write_item state pairs item)

  abbrev Proven : Type 0
  Proven = (item : Item) × ItemPresent item

  abbrev items_of : List Proven → List Item
  items_of known = map (λ k. k.0) known

  abbrev FormPresent : Item-F Item → Type 0
  FormPresent x = Presents state (stands_step (map-Item Item (Standing → Bool) item_stands x)) (fits_step (store_fits state) (map-Item Item Bool (item_fits (store_fits state)) x)) (nests_step state.live (map-Item Item (Bool → Bool) (item_nests state.live) x)) (tell_step pairs (map-Item Item (Around → List (ℕ × Origin)) (tell_item pairs) x)) (write_step state pairs (map-Item Item (Scene → List Written) (write_item state pairs) x))

  rolled : (x : Item-F Item) → FormPresent x → ItemPresent (roll-Item x)
  unfolding item_stands item_fits item_nests tell_item write_item
  rolled x is =
      subst (λ f. Presents state f (item_fits (store_fits state) (roll-Item x)) (item_nests state.live (roll-Item x)) (tell_item pairs (roll-Item x)) (write_item state pairs (roll-Item x))) (sym (fold-roll-Item (Standing → Bool) stands_step x))
      (subst (λ f. Presents state (stands_step (map-Item Item (Standing → Bool) item_stands x)) f (item_nests state.live (roll-Item x)) (tell_item pairs (roll-Item x)) (write_item state pairs (roll-Item x))) (sym (fold-roll-Item Bool (fits_step (store_fits state)) x))
      (subst (λ f. Presents state (stands_step (map-Item Item (Standing → Bool) item_stands x)) (fits_step (store_fits state) (map-Item Item Bool (item_fits (store_fits state)) x)) f (tell_item pairs (roll-Item x)) (write_item state pairs (roll-Item x))) (sym (fold-roll-Item (Bool → Bool) (nests_step state.live) x))
      (subst (λ f. Presents state (stands_step (map-Item Item (Standing → Bool) item_stands x)) (fits_step (store_fits state) (map-Item Item Bool (item_fits (store_fits state)) x)) (nests_step state.live (map-Item Item (Bool → Bool) (item_nests state.live) x)) f (write_item state pairs (roll-Item x))) (sym (fold-roll-Item (Around → List (ℕ × Origin)) (tell_step pairs) x))
      (subst (λ f. Presents state (stands_step (map-Item Item (Standing → Bool) item_stands x)) (fits_step (store_fits state) (map-Item Item Bool (item_fits (store_fits state)) x)) (nests_step state.live (map-Item Item (Bool → Bool) (item_nests state.live) x)) (tell_step pairs (map-Item Item (Around → List (ℕ × Origin)) (tell_item pairs) x)) f) (sym (fold-roll-Item (Scene → List Written) (write_step state pairs) x))
      is))))

  block : (known : List Proven) (scene : Scene) (s : Standing) → stand_all s (map item_stands (items_of known)) ≡ true → StandsSo s scene → all_fit (map (item_fits (store_fits state)) (items_of known)) ≡ true → nest_all (map (item_nests state.live) (items_of known)) (state.live scene.owner) ≡ true → EachPair (IsPresent state scene (write_all (map (write_item state pairs) (items_of known)) scene)) (tell_all (map (tell_item pairs) (items_of known)) (around_of scene))
  block [] scene s stands so fits nests = tt
  block (k ∷ known) scene s stands so fits nests =
      let stand = and_cases (item_stands k.0 s) (stand_all s (map item_stands (items_of known))) stands in
      let fit = and_cases (item_fits (store_fits state) k.0) (all_fit (map (item_fits (store_fits state)) (items_of known))) fits in
      let nest = and_cases (item_nests state.live k.0 (state.live scene.owner)) (nest_all (map (item_nests state.live) (items_of known)) (state.live scene.owner)) nests in
      let first = write_item state pairs k.0 scene in
      let rest = write_all (map (write_item state pairs) (items_of known)) scene in
      each-append (IsPresent state scene (first ++ rest)) (tell_item pairs k.0 (around_of scene)) (tell_all (map (tell_item pairs) (items_of known)) (around_of scene))
      (present_left state scene first rest (tell_item pairs k.0 (around_of scene)) (k.1 scene s stand.0 so fit.0 nest.0))
      (present_right state scene first rest (tell_all (map (tell_item pairs) (items_of known)) (around_of scene)) (block known scene s stand.1 so fit.1 nest.1))

  -- what is in an area is there where the area is live
  area_present : (owner : ℕ) (scene : Scene) (ws : List Written) (told : List (ℕ × Origin)) → (state.live owner ≡ true → state.live scene.owner ≡ true) → EachPair (IsPresent state (in_area owner scene) ws) told → EachPair (IsPresent state scene (if state.live owner then ws else [])) told
  area_present owner scene ws told outer = each_map (IsPresent state (in_area owner scene) ws) (IsPresent state scene (if state.live owner then ws else [])) told (λ id origin h. record {
    nested = λ live. outer (h.nested live);
    inner = h.inner;
    present = λ some live key due. ap (λ (b : Bool). has_place (if b then ws else []) (place_at id key)) (h.nested live) ∙ h.present some live key due;
  })

  -- what is in an `each` is there for each row
  rows_present : (store : ℕ) (scene : Scene) (part : Row → List Written) (rows : List Row) (id : ℕ) (key : Code) → ((row : Row) → has_place (part row) (place_at id (Some row.key)) ≡ true) → has_key rows key ≡ true → has_place (flat_map part rows) (place_at id (Some key)) ≡ true
  rows_present store scene part [] id key each has = cc
  rows_present store scene part (row ∷ rows) id key each has = at (is_same row.key key) refl has (rows_present store scene part rows id key each)
    where
      at : (b : Bool) → is_same row.key key ≡ b → (b || has_key rows key) ≡ true → (has_key rows key ≡ true → has_place (flat_map part rows) (place_at id (Some key)) ≡ true) → has_place (part row ++ flat_map part rows) (place_at id (Some key)) ≡ true
      at true same has later = left_place (part row) (flat_map part rows) (place_at id (Some key)) (subst (λ k. has_place (part row) (place_at id (Some k)) ≡ true) (same_code row.key key same) (each row))
      at false other has later = right_place (part row) (flat_map part rows) (place_at id (Some key)) (later has)

  -- pairs that are present in the scene of each row are so outside
  each_present : (store : ℕ) (scene : Scene) (part : Row → List Written) (told : List (ℕ × Origin)) → scene.row ≡ None → ((row : Row) → EachPair (IsPresent state (in_row store row.key scene) (part row)) told) → EachPair (IsPresent state scene (flat_map part (state.rows store))) told
  each_present store scene part [] none each = tt
  each_present store scene part (pair ∷ told) none each = (
    record {
      nested = (each no_fields).0.nested;
      inner = λ r is. absurd (clash r (sym none ∙ is));
      present = λ some live key due. keyed some live key (subst (λ o. has_row state o key ≡ true) ((each no_fields).0.inner (record { store = store; key = Empty }) refl) (subst (λ row. IsDue state row pair.1.around.store key) none due));
    },
    each_present store scene part told none (λ row. (each row).1),
  )
    where
      no_fields : Row
      no_fields = record { key = Empty; fields = [] }

      clash : (r : RowAround) → None ≡ Some r → ⊥
      clash r h = cc

      keyed : is_some (kind_told pair.1.told) ≡ true → state.live pair.1.around.owner ≡ true → (key : Option Code) → has_row state (Some store) key ≡ true → has_place (flat_map part (state.rows store)) (place_at pair.0 key) ≡ true
      keyed some live None due = cc
      keyed some live (Some key) due = rows_present store scene part (state.rows store) pair.0 key (λ row. (each row).0.present some live (Some row.key) refl) due

  at_line : (scene : Scene) (id : ℕ) (says : Says) (more : List Written) → has_place (put id says scene ++ more) (place_at id (key_in scene)) ≡ true
  at_line scene id says more = ap (λ b. b || has_place more (place_at id (key_in scene))) (place_itself (place_at id (key_in scene)))

  by_form : (y : Item-F Proven) → FormPresent (map-Item Proven Item (λ k. k.0) y)
  by_form (level.Signal id name start) scene s stands so fits nests = (line_present state scene (put id (given kind.Signal (state.value (place_at id (key_in scene)))) scene) id (source kind.Signal) (at_line scene id (given kind.Signal (state.value (place_at id (key_in scene)))) []), tt)
  by_form (level.Memo id name expr) scene s stands so fits nests = (line_present state scene (put id (derived kind.Memo expr) scene) id (derives kind.Memo expr) (at_line scene id (derived kind.Memo expr) []), tt)
  by_form (level.Effect id name expr) scene s stands so fits nests = (line_present state scene (put id (derived kind.Effect expr) scene) id (derives kind.Effect expr) (at_line scene id (derived kind.Effect expr) []), tt)
  by_form (level.Resource id name after keys values) scene s stands so fits nests = (nothing_present state scene [] id, tt)
  by_form (level.Load id name resource key) scene s stands so fits nests =
      let first : List Written = put (suc id) (derived kind.Memo key) scene in
      let last : List Written = put id (loaded (pairs resource) (state.arrived id)) scene in (
        line_present state scene (first ++ last) id (loads (pairs resource)) (right_place first last (place_at id (key_in scene)) (at_line scene id (loaded (pairs resource) (state.arrived id)) [])),
        (line_present state scene (first ++ last) (suc id) (derives kind.Memo key) (at_line scene (suc id) (derived kind.Memo key) last), tt),
      )
  by_form (level.Store id name max fields starts) scene s stands so fits nests =
      let rows = state.rows id in
      let fit = and_cases (list_all (λ row. length row.fields == length fields) rows) (nat_le (length rows) max) fits in
      let ws : List Written = flat_map (λ row. write_fields (2 + id) row.fields (in_row id row.key scene)) rows in
      let none = no_row scene.row (sym so.same ∙ so.owner stands) in
      (nothing_present state scene ws id, (nothing_present state scene ws (suc id), fields_present state scene ws id (2 + id) fields none (λ field key above below has. row_there id (length fields) rows scene field key fit.0 above below has)))
  by_form (level.Cleanup text) scene s stands so fits nests = tt
  by_form (level.Area id name owner known) scene s stands so fits nests =
      let stand = and_cases (may_have_area s) (stand_all (inside_area s) (map item_stands (items_of known))) stands in
      let nest = and_cases (state.live scene.owner || not (state.live owner)) (nest_all (map (item_nests state.live) (items_of known)) (state.live owner)) nests in
      let alone = so.branch (not_true s.branched stand.0) in
      let ws = write_all (map (write_item state pairs) (items_of known)) (in_area owner scene) in (
        nothing_present state scene (if state.live owner then ws else []) id,
        area_present owner scene ws (tell_all (map (tell_item pairs) (items_of known)) (around_of (in_area owner scene))) (outer (state.live scene.owner) (state.live owner) nest.0)
            (block known (in_area owner scene) (inside_area s) stand.1 (record { same = so.same; owner = λ is. alone; branch = so.branch }) fits nest.1),
      )
    where
      outer : (a b : Bool) → (a || not b) ≡ true → b ≡ true → a ≡ true
      outer true b h is = refl
      outer false b h is = cc
  by_form (level.If id cond known) scene s stands so fits nests =
      let first : List Written = put id (derived kind.Memo cond) scene in
      let rest = write_all (map (write_item state pairs) (items_of known)) scene in (
        line_present state scene (first ++ rest) id (derives kind.Memo cond) (at_line scene id (derived kind.Memo cond) rest),
        present_right state scene first rest (tell_all (map (tell_item pairs) (items_of known)) (around_of scene)) (block known scene (inside_if s) stands (record { same = so.same; owner = λ is. cc; branch = λ is. cc }) fits nests),
      )
  by_form (level.Each id store known) scene s stands so fits nests =
      let stand = and_cases (may_have_each s) (stand_all (inside_each s) (map item_stands (items_of known))) stands in
      let none = no_row scene.row (sym so.same ∙ not_true s.repeated stand.0) in
      let part : Row → List Written = (λ row. write_all (map (write_item state pairs) (items_of known)) (in_row store row.key scene)) in (
        nothing_present state scene (flat_map part (state.rows store)) id,
        each_present store scene part (tell_all (map (tell_item pairs) (items_of known)) (record (around_of scene) { store = Some store })) none (λ row. block known (in_row store row.key scene) (inside_each s) stand.1 (record { same = refl; owner = λ is. cc; branch = λ is. cc }) fits nests),
      )
  by_form (level.Element tag closed attrs known) scene s stands so fits nests =
      let first = flat_map (write_attr scene) attrs in
      let rest = write_all (map (write_item state pairs) (items_of known)) scene in
      each-append (IsPresent state scene (first ++ rest)) (flat_map (tell_attr (around_of scene)) attrs) (tell_all (map (tell_item pairs) (items_of known)) (around_of scene))
      (present_left state scene first rest (flat_map (tell_attr (around_of scene)) attrs) (attrs_present state attrs scene))
      (present_right state scene first rest (tell_all (map (tell_item pairs) (items_of known)) (around_of scene)) (block known scene (inside_element s) stands (record { same = so.same; owner = λ is. cc; branch = so.branch }) fits nests))
  by_form (level.Text text) scene s stands so fits nests = tt
  by_form (level.Shown id expr) scene s stands so fits nests = (line_present state scene (put id (derived kind.Memo expr) scene) id (derives kind.Memo expr) (at_line scene id (derived kind.Memo expr) []), tt)

  item_present : (item : Item) → ItemPresent item
  item_present = ind-Item ItemPresent (λ x y is. subst (λ z. ItemPresent (roll-Item z)) is (rolled (map-Item Proven Item (λ k. k.0) y) (by_form y)))

  text_present : (items : List Item) (scene : Scene) (s : Standing) → list_all (λ item. item_stands item s) items ≡ true → StandsSo s scene → list_all (item_fits (store_fits state)) items ≡ true → list_all (λ item. item_nests state.live item (state.live scene.owner)) items ≡ true → EachPair (IsPresent state scene (write_items state pairs items scene)) (tell_items pairs items (around_of scene))
  text_present [] scene s stands so fits nests = tt
  text_present (item ∷ items) scene s stands so fits nests =
      let stand = and_cases (item_stands item s) (list_all (λ item. item_stands item s) items) stands in
      let fit = and_cases (item_fits (store_fits state) item) (list_all (item_fits (store_fits state)) items) fits in
      let nest = and_cases (item_nests state.live item (state.live scene.owner)) (list_all (λ item. item_nests state.live item (state.live scene.owner)) items) nests in
      let first = write_item state pairs item scene in
      let rest = write_items state pairs items scene in
      each-append (IsPresent state scene (first ++ rest)) (tell_item pairs item (around_of scene)) (tell_items pairs items (around_of scene))
      (present_left state scene first rest (tell_item pairs item (around_of scene)) (item_present item scene s stand.0 so fit.0 nest.0))
      (present_right state scene first rest (tell_items pairs items (around_of scene)) (text_present items scene s stand.1 so fit.1 nest.1))

is_written : (component : Component) (state : State) → IsKept component → RowsFit component state → AreNested component state → (p : Place) → is_there component state p ≡ true → has_place (written_in component state) p ≡ true
is_written component state kept fits nested p there =
    let whole = and_cases (is_some (kind_told (origin_in component p.id).told) && state.live (origin_in component p.id).around.owner) (has_row state (origin_in component p.id).around.store p.key) there in
    let both = and_cases (is_some (kind_told (origin_in component p.id).told)) (state.live (origin_in component p.id).around.owner) whole.0 in
    let one = found_pair (IsPresent state at_top text) (tell_items pairs component.items top_around) p.id all both.0 in
    at (state.live 0) (one.nested both.1) (one.present both.0 both.1 p.key whole.1)
  where
    pairs : ℕ → List (Code × Code)
    pairs = pairs_among component.items

    text : List Written
    text = write_items state pairs component.items at_top

    all : EachPair (IsPresent state at_top text) (tell_items pairs component.items top_around)
    all = text_present state pairs component.items at_top standing_at_top kept.stand (record { same = refl; owner = λ is. refl; branch = λ is. refl }) fits.stores nested

    at : (live : Bool) → live ≡ true → has_place text p ≡ true → has_place (if live then text else []) p ≡ true
    at true is has = has
    at false is has = cc

pub written_as_due : (component : Component) (state : State) → IsKept component → RowsFit component state → AreNested component state → (p : Place) → has_place (written_in component state) p ≡ is_there component state p
written_as_due component state kept fits nested p = same (has_place (written_in component state) p) (is_there component state p) (due component state kept fits p) (is_written component state kept fits nested p)
  where
    same : (a b : Bool) → (a ≡ true → b ≡ true) → (b ≡ true → a ≡ true) → a ≡ b
    same true b there back = sym (there refl)
    same false true there back = back refl
    same false false there back = refl
