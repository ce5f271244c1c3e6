-- Two states that differ in values of signals and fields alone have one layout.
use Rattle.std.proofs.Common.{◌≡◌, ℕ, suc, ◌+◌, if◌then◌else◌, not, Bool, true, false, List, [], ◌∷◌, ◌++◌, map, length, slice_get, Option, Some, refl, sym, ap, subst, ◌∙◌, arith}
use Rattle.std.specs.List.{flat_map, filter}
use Rattle.std.proofs.lemmas.List.{map-append}
use Rattle.values.specs.declared.code.Code.{Code}
use Rattle.values.specs.declared.code.Code.TheVariants.{Empty}
use Rattle.values.specs.declared.plan.Kind.TheVariants as kind
use Rattle.store_fields.specs.declared.row.Row.{Row}
use Rattle.component_items.specs.declared.component.Component.{Component}
use Rattle.component_items.specs.declared.component.Item.{Item}
use Rattle.component_items.specs.declared.component.Item.TheOpen as level
use Rattle.component_items.specs.declared.component.Item.TheOpen.{Item-F}
use Rattle.component_items.specs.declared.component.Item.TheViews.{roll-Item}
use Rattle.component_items.specs.declared.component.Item.TheFolds.{fold-roll-Item, map-Item, ind-Item}
use Rattle.plain_evaluation.specs.Keyed.{is_keyed}
use Rattle.plain_evaluation.specs.Place.{Place}
use Rattle.plain_evaluation.specs.Written.{State, Scene, Says, given, loaded, derived, Written, place_of, in_row, in_area, write_attr, write_fields, write_all, write_step, write_item, write_items, pairs_among, written_in, at_top}
use Rattle.plan_meaning.specs.Layout.{is_computed, rows_of, places_of, node_of, nodes_of_text, plan_of}
use Rattle.plan_meaning.specs.Owners.{plan_owners}
use Rattle.plan_meaning.proofs.Rows.{map_at, at_map}

-- the same keys in order, and as many fields of each
abbrev pub RowsAlike : List Row → List Row → Type 0
RowsAlike [] [] = Unit {0}
RowsAlike [] (other ∷ others) = ⊥
RowsAlike (row ∷ rows) [] = ⊥
RowsAlike (row ∷ rows) (other ∷ others) = (row.key ≡ other.key) × (length row.fields ≡ length other.fields) × RowsAlike rows others

-- what is said, but for values
abbrev bare_says : Says → Says
bare_says (given k code) = given k Empty
bare_says (loaded pairs arrived) = loaded pairs arrived
bare_says (derived k expr) = derived k expr

abbrev bare : Written → Written
bare w = record w { says = bare_says w.says }

bare-append : (xs ys xs2 ys2 : List Written) → map bare xs ≡ map bare xs2 → map bare ys ≡ map bare ys2 → map bare (xs ++ ys) ≡ map bare (xs2 ++ ys2)
bare-append xs ys xs2 ys2 e f = map-append bare xs ys ∙ (λ i. e i ++ f i) ∙ sym (map-append bare xs2 ys2)

rows_bare : (part part2 : Row → List Written) (rows others : List Row) → RowsAlike rows others → ((row other : Row) → row.key ≡ other.key → length row.fields ≡ length other.fields → map bare (part row) ≡ map bare (part2 other)) → map bare (flat_map part rows) ≡ map bare (flat_map part2 others)
rows_bare part part2 [] [] alike each = refl
rows_bare part part2 [] (other ∷ others) alike each = absurd alike
rows_bare part part2 (row ∷ rows) [] alike each = absurd alike
rows_bare part part2 (row ∷ rows) (other ∷ others) alike each = bare-append (part row) (flat_map part rows) (part2 other) (flat_map part2 others) (each row other alike.0 alike.1) (rows_bare part part2 rows others alike.2 each)

fields_bare : (id : ℕ) (codes others : List Code) (scene : Scene) → length codes ≡ length others → map bare (write_fields id codes scene) ≡ map bare (write_fields id others scene)
fields_bare id [] [] scene long = refl
fields_bare id [] (other ∷ others) scene long = absurd (omega arith)
fields_bare id (code ∷ codes) [] scene long = absurd (omega arith)
fields_bare id (code ∷ codes) (other ∷ others) scene long = ap (λ ws. bare (record { id = id; scene = scene; says = given kind.Field Empty }) ∷ ws) (fields_bare (suc id) codes others scene (omega arith))

-- ---- one item

module _ (state : State) (value : Place → Code) (rows : ℕ → List Row) (alike : (id : ℕ) → RowsAlike (state.rows id) (rows id)) (pairs : ℕ → List (Code × Code)) where
  abbrev other : State
  other = record state { value = value; rows = rows }

  abbrev Bares : (Scene → List Written) → (Scene → List Written) → Type 0
  Bares writes writes2 = (scene : Scene) → map bare (writes scene) ≡ map bare (writes2 scene)

  abbrev ItemIs : Item → Type 0
  ItemIs item = Bares (write_item state pairs item) (write_item other pairs item)

  abbrev Proven : Type 0
  Proven = (item : Item) × ItemIs item

  abbrev items_of : List Proven → List Item
  items_of known = map (λ k. k.0) known

  abbrev FormIs : Item-F Item → Type 0
  FormIs x = Bares (write_step state pairs (map-Item Item (Scene → List Written) (write_item state pairs) x)) (write_step other pairs (map-Item Item (Scene → List Written) (write_item other pairs) x))

  rolled : (x : Item-F Item) → FormIs x → ItemIs (roll-Item x)
  unfolding write_item
  rolled x is =
      subst (λ f. Bares f (write_item other pairs (roll-Item x))) (sym (fold-roll-Item (Scene → List Written) (write_step state pairs) x))
      (subst (λ f. Bares (write_step state pairs (map-Item Item (Scene → List Written) (write_item state pairs) x)) f) (sym (fold-roll-Item (Scene → List Written) (write_step other pairs) x))
      is)

  block : (known : List Proven) → Bares (write_all (map (write_item state pairs) (items_of known))) (write_all (map (write_item other pairs) (items_of known)))
  block [] scene = refl
  block (k ∷ known) scene = bare-append (write_item state pairs k.0 scene) (write_all (map (write_item state pairs) (items_of known)) scene) (write_item other pairs k.0 scene) (write_all (map (write_item other pairs) (items_of known)) scene) (k.1 scene) (block known scene)

  area : (live : Bool) (xs ys : List Written) → map bare xs ≡ map bare ys → map bare (if live then xs else []) ≡ map bare (if live then ys else [])
  area true xs ys e = e
  area false xs ys e = refl

  by_form : (y : Item-F Proven) → FormIs (map-Item Proven Item (λ k. k.0) y)
  by_form (level.Signal id name start) scene = refl
  by_form (level.Memo id name expr) scene = refl
  by_form (level.Effect id name expr) scene = refl
  by_form (level.Resource id name after keys values) scene = refl
  by_form (level.Load id name resource key) scene = refl
  by_form (level.Store id name max fields starts) scene =
      rows_bare (λ row. write_fields (2 + id) row.fields (in_row id row.key scene)) (λ row. write_fields (2 + id) row.fields (in_row id row.key scene)) (state.rows id) (rows id) (alike id) (λ row twin key long.
      fields_bare (2 + id) row.fields twin.fields (in_row id row.key scene) long ∙ ap (λ (k : Code). map bare (write_fields (2 + id) twin.fields (in_row id k scene))) key)
  by_form (level.Cleanup text) scene = refl
  by_form (level.Area id name owner known) scene = area (state.live owner) (write_all (map (write_item state pairs) (items_of known)) (in_area owner scene)) (write_all (map (write_item other pairs) (items_of known)) (in_area owner scene)) (block known (in_area owner scene))
  by_form (level.If id cond known) scene = ap (λ ws. bare (record { id = id; scene = scene; says = derived kind.Memo cond }) ∷ ws) (block known scene)
  by_form (level.Each id store known) scene =
      rows_bare (λ row. write_all (map (write_item state pairs) (items_of known)) (in_row store row.key scene)) (λ row. write_all (map (write_item other pairs) (items_of known)) (in_row store row.key scene)) (state.rows store) (rows store) (alike store) (λ row twin key long.
      block known (in_row store row.key scene) ∙ ap (λ (k : Code). map bare (write_all (map (write_item other pairs) (items_of known)) (in_row store k scene))) key)
  by_form (level.Element tag closed attrs known) scene = bare-append (flat_map (write_attr scene) attrs) (write_all (map (write_item state pairs) (items_of known)) scene) (flat_map (write_attr scene) attrs) (write_all (map (write_item other pairs) (items_of known)) scene) refl (block known scene)
  by_form (level.Text text) scene = refl
  by_form (level.Shown id expr) scene = refl

  item_is : (item : Item) → ItemIs item
  item_is = ind-Item ItemIs (λ x y is. subst (λ z. ItemIs (roll-Item z)) is (rolled (map-Item Proven Item (λ k. k.0) y) (by_form y)))

  text_is : (items : List Item) → Bares (write_items state pairs items) (write_items other pairs items)
  text_is [] scene = refl
  text_is (item ∷ items) scene = bare-append (write_item state pairs item scene) (write_items state pairs items scene) (write_item other pairs item scene) (write_items other pairs items scene) (item_is item scene) (text_is items scene)

-- ---- the layout of bare lines

same_computed : (says : Says) → is_computed (bare_says says) ≡ is_computed says
same_computed (given k code) = refl
same_computed (loaded pairs arrived) = refl
same_computed (derived k expr) = refl

filter_bare : (f : Bool → Bool) (ws : List Written) → map bare (filter (λ w. f (is_computed w.says)) ws) ≡ filter (λ w. f (is_computed w.says)) (map bare ws)
filter_bare f [] = refl
filter_bare f (w ∷ ws) = at (f (is_computed w.says)) refl (filter_bare f ws)
  where
    at : (b : Bool) → f (is_computed w.says) ≡ b → map bare (filter (λ w. f (is_computed w.says)) ws) ≡ filter (λ w. f (is_computed w.says)) (map bare ws) → map bare (filter (λ w. f (is_computed w.says)) (w ∷ ws)) ≡ filter (λ w. f (is_computed w.says)) (map bare (w ∷ ws))
    at true e rest = simp (e, same_computed, rest)
    at false e rest = simp (e, same_computed, rest)

rows_of_bare : (ws : List Written) → map bare (rows_of ws) ≡ rows_of (map bare ws)
rows_of_bare ws = map-append bare (filter (λ w. not (is_computed w.says)) ws) (filter (λ w. is_computed w.says) ws) ∙ (λ i. filter_bare not ws i ++ filter_bare (λ b. b) ws i)

places_bare : (ws : List Written) → map place_of (map bare ws) ≡ map place_of ws
places_bare [] = refl
places_bare (w ∷ ws) = ap (λ ps. place_of w ∷ ps) (places_bare ws)

same_node : (keyed : ℕ → Bool) (places : List Place) (w : Written) → node_of keyed places (bare w) ≡ node_of keyed places w
same_node keyed places w = at w.says
  where
    at : (says : Says) → node_of keyed places (record w { says = bare_says says }) ≡ node_of keyed places (record w { says = says })
    at (given k code) = refl
    at (loaded pairs arrived) = refl
    at (derived k expr) = refl

nodes_bare : (keyed : ℕ → Bool) (places : List Place) (ws : List Written) → map (node_of keyed places) (map bare ws) ≡ map (node_of keyed places) ws
nodes_bare keyed places [] = refl
nodes_bare keyed places (w ∷ ws) = λ i. same_node keyed places w i ∷ nodes_bare keyed places ws i

same_rows : (xs ys : List Written) → map bare xs ≡ map bare ys → map bare (rows_of xs) ≡ map bare (rows_of ys)
same_rows xs ys e = rows_of_bare xs ∙ ap rows_of e ∙ sym (rows_of_bare ys)

same_places : (xs ys : List Written) → map bare xs ≡ map bare ys → places_of xs ≡ places_of ys
same_places xs ys e = sym (places_bare (rows_of xs)) ∙ ap (map place_of) (same_rows xs ys e) ∙ places_bare (rows_of ys)

same_nodes : (keyed : ℕ → Bool) (xs ys : List Written) → map bare xs ≡ map bare ys → nodes_of_text keyed xs ≡ nodes_of_text keyed ys
same_nodes keyed xs ys e =
    ap (λ places. map (node_of keyed places) (rows_of xs)) (same_places xs ys e)
    ∙ sym (nodes_bare keyed (places_of ys) (rows_of xs))
    ∙ ap (map (node_of keyed (places_of ys))) (same_rows xs ys e)
    ∙ nodes_bare keyed (places_of ys) (rows_of ys)

-- what is said alike of a load is the same
loaded_alike : (says others : Says) (pairs : List (Code × Code)) (key : Option Code) → bare_says says ≡ bare_says others → others ≡ loaded pairs key → says ≡ others
loaded_alike (given k code) others pairs key e is = let f : given k Empty ≡ loaded pairs key = e ∙ ap bare_says is in cc
loaded_alike (loaded mine arrived) others pairs key e is = e ∙ ap bare_says is ∙ sym is
loaded_alike (derived k expr) others pairs key e is = let f : derived k expr ≡ loaded pairs key = e ∙ ap bare_says is in cc

-- ---- the whole

module _ (component : Component) (state : State) (value : Place → Code) (rows : ℕ → List Row) (alike : (id : ℕ) → RowsAlike (state.rows id) (rows id)) where
  same_text : map bare (written_in component state) ≡ map bare (written_in component (record state { value = value; rows = rows }))
  same_text = at (state.live 0)
    where
      at : (live : Bool) → map bare (if live then write_items state (pairs_among component.items) component.items at_top else []) ≡ map bare (if live then write_items (record state { value = value; rows = rows }) (pairs_among component.items) component.items at_top else [])
      at true = text_is state value rows alike (pairs_among component.items) component.items at_top
      at false = refl

  pub places_stay : places_of (written_in component (record state { value = value; rows = rows })) ≡ places_of (written_in component state)
  places_stay = sym (same_places (written_in component state) (written_in component (record state { value = value; rows = rows })) same_text)

  pub plan_stays : plan_of component (record state { value = value; rows = rows }) ≡ plan_of component state
  plan_stays = λ i. record { nodes = sym (same_nodes (is_keyed component) (written_in component state) (written_in component (record state { value = value; rows = rows })) same_text) i; owners = plan_owners component }

  -- and a load has its line
  pub loads_stay : (n : ℕ) (w : Written) (pairs : List (Code × Code)) (key : Option Code) → slice_get (rows_of (written_in component (record state { value = value; rows = rows }))) n ≡ Some w → w.says ≡ loaded pairs key
      → (v : Written) × (slice_get (rows_of (written_in component state)) n ≡ Some v) × (place_of v ≡ place_of w) × (v.says ≡ w.says)
  loads_stay n w pairs key at says =
      let later : List Written = rows_of (written_in component (record state { value = value; rows = rows })) in
      let before : List Written = rows_of (written_in component state) in
      let one = map_at bare before n (bare w) (ap (λ (ws : List Written). slice_get ws n) (same_rows (written_in component state) (written_in component (record state { value = value; rows = rows })) same_text) ∙ at_map bare later n w at) in
      (one.0, one.1, ap place_of one.2, loaded_alike one.0.says w.says pairs key (ap (λ (v : Written). v.says) one.2) says)
