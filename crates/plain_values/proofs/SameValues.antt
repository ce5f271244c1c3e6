-- Evaluation in the order of the text is plain evaluation of what is written out.
use Rattle.std.proofs.Common.{◌≡◌, ℕ, suc, ◌+◌, ◌==◌, ◌&&◌, if◌then◌else◌, Bool, true, false, List, [], ◌∷◌, ◌++◌, Option, Some, None, map, refl, sym, ap, subst, ◌∙◌, arith}
use Rattle.std.specs.List.{flat_map, zip}
use Rattle.values.specs.declared.code.Code.{Code}
use Rattle.values.specs.Evaluation.{is_same}
use Rattle.store_fields.specs.declared.row.Row.{Row}
use Rattle.component_items.specs.declared.component.Attr.{Attr}
use Rattle.component_items.specs.declared.component.Attr.TheVariants as attr
use Rattle.component_items.specs.declared.component.Component.{Component}
use Rattle.component_items.specs.declared.component.Item.{Item}
use Rattle.component_items.specs.declared.component.Item.TheOpen as level
use Rattle.component_items.specs.declared.component.Item.TheOpen.{Item-F}
use Rattle.component_items.specs.declared.component.Item.TheViews.{out-Item, roll-Item}
use Rattle.component_items.specs.declared.component.Item.TheFolds.{fold-roll-Item, map-Item, ind-Item}
use Rattle.plain_evaluation.specs.Place.{of_row}
use Rattle.plain_evaluation.specs.Held.{Held, is_live}
use Rattle.plain_evaluation.specs.Written.{State, state_of, RowAround, Scene, Written, place_of, in_row, in_area, write_attr, write_fields, write_all, write_step, write_item, write_items, pairs_step, pairs_among, at_top}
use Rattle.plain_evaluation.specs.Keyed.{is_keyed}
use Rattle.plain_evaluation.specs.Scratch.{Values, no_values, with_value, load_value, value_by, value_said, seen_from, values_in, scratch}
use Rattle.plain_values.specs.Evaluated.{Given, place_in, in_row_of, evaluated, arrived_value, after_attrs, after_fields, after_rows, in_order, for_each, after_step, after_item, after_items}
use Rattle.plain_values.specs.Pairs.{with_pairs, with_resource, pairs_of}

values-append : (keyed : ℕ → Bool) (xs ys : List Written) (values : Values) → values_in keyed (xs ++ ys) values ≡ values_in keyed ys (values_in keyed xs values)
values-append keyed [] ys values = refl
values-append keyed (w ∷ xs) ys values = values-append keyed xs ys (with_value (place_of w) (value_said w.says w.id (seen_from keyed values w.scene)) values)

module _ (state : State) (pairs : ℕ → List (Code × Code)) (keyed : ℕ → Bool) where
  abbrev told : Given
  told = record { state = state; keyed = keyed; by_key = λ id key. value_by (pairs id) key }

  abbrev IsSame : (Scene → List Written) → (Option RowAround → Values → Values) → Type 0
  IsSame writes after = (scene : Scene) (values : Values) → values_in keyed (writes scene) values ≡ after scene.row values

  abbrev ItemSame : Item → Type 0
  ItemSame item = IsSame (write_item state pairs item) (after_item told item)

  abbrev Proven : Type 0
  Proven = (item : Item) × ItemSame item

  abbrev items_of : List Proven → List Item
  items_of known = map (λ k. k.0) known

  abbrev FormSame : Item-F Item → Type 0
  FormSame x = IsSame (write_step state pairs (map-Item Item (Scene → List Written) (write_item state pairs) x)) (after_step told (map-Item Item (Option RowAround → Values → Values) (after_item told) x))

  rolled : (x : Item-F Item) → FormSame x → ItemSame (roll-Item x)
  unfolding write_item after_item
  rolled x same =
      subst (λ f. IsSame f (after_item told (roll-Item x))) (sym (fold-roll-Item (Scene → List Written) (write_step state pairs) x))
      (subst (λ f. IsSame (write_step state pairs (map-Item Item (Scene → List Written) (write_item state pairs) x)) f) (sym (fold-roll-Item (Option RowAround → Values → Values) (after_step told) x))
      same)

  block : (known : List Proven) → IsSame (write_all (map (write_item state pairs) (items_of known))) (in_order (map (after_item told) (items_of known)))
  block [] scene values = refl
  block (k ∷ known) scene values =
      values-append keyed (write_item state pairs k.0 scene) (write_all (map (write_item state pairs) (items_of known)) scene) values
      ∙ ap (values_in keyed (write_all (map (write_item state pairs) (items_of known)) scene)) (k.1 scene values)
      ∙ block known scene (after_item told k.0 scene.row values)

  attrs_same : (attrs : List Attr) → IsSame (λ scene. flat_map (write_attr scene) attrs) (after_attrs told attrs)
  attrs_same [] scene values = refl
  attrs_same (attr.Bare name ∷ attrs) scene values = attrs_same attrs scene values
  attrs_same (attr.Fixed name text ∷ attrs) scene values = attrs_same attrs scene values
  attrs_same (attr.Shown name id expr ∷ attrs) scene values = attrs_same attrs scene (evaluated told id expr scene.row values)

  fields_same : (id : ℕ) (codes : List Code) (store : ℕ) (key : Code) (scene : Scene) (values : Values) → values_in keyed (write_fields id codes (in_row store key scene)) values ≡ after_fields id codes key values
  fields_same id [] store key scene values = refl
  fields_same id (code ∷ codes) store key scene values =
      fields_same (suc id) codes store key scene (with_value (of_row id key) code values)
      ∙ ap (λ (n : ℕ). after_fields n codes key (with_value (of_row id key) code values)) {x = suc id} {y = id + 1} (omega arith)

  rows_same : (id : ℕ) (rows : List Row) (scene : Scene) (values : Values) → values_in keyed (flat_map (λ row. write_fields (2 + id) row.fields (in_row id row.key scene)) rows) values ≡ after_rows id rows values
  rows_same id [] scene values = refl
  rows_same id (row ∷ rows) scene values =
      values-append keyed (write_fields (2 + id) row.fields (in_row id row.key scene)) (flat_map (λ row. write_fields (2 + id) row.fields (in_row id row.key scene)) rows) values
      ∙ ap (values_in keyed (flat_map (λ row. write_fields (2 + id) row.fields (in_row id row.key scene)) rows)) (fields_same (2 + id) row.fields id row.key scene values)
      ∙ rows_same id rows scene (after_fields (2 + id) row.fields row.key values)

  each_same : (known : List Proven) (store : ℕ) (rows : List Row) (scene : Scene) (values : Values) → values_in keyed (flat_map (λ row. write_all (map (write_item state pairs) (items_of known)) (in_row store row.key scene)) rows) values ≡ for_each (in_order (map (after_item told) (items_of known))) store rows values
  each_same known store [] scene values = refl
  each_same known store (row ∷ rows) scene values =
      values-append keyed (write_all (map (write_item state pairs) (items_of known)) (in_row store row.key scene)) (flat_map (λ row. write_all (map (write_item state pairs) (items_of known)) (in_row store row.key scene)) rows) values
      ∙ ap (values_in keyed (flat_map (λ row. write_all (map (write_item state pairs) (items_of known)) (in_row store row.key scene)) rows)) (block known (in_row store row.key scene) values)
      ∙ each_same known store rows scene (in_order (map (after_item told) (items_of known)) (in_row_of store row) values)

  load_same : (list : List (Code × Code)) (arrived : Option Code) (key : Code) → load_value list arrived key ≡ arrived_value (value_by list) arrived key
  load_same list None key = refl
  load_same list (Some code) key = refl

  by_form : (y : Item-F Proven) → FormSame (map-Item Proven Item (λ k. k.0) y)
  by_form (level.Signal id name start) scene values = refl
  by_form (level.Memo id name expr) scene values = refl
  by_form (level.Effect id name expr) scene values = refl
  by_form (level.Resource id name after keys codes) scene values = refl
  by_form (level.Load id name resource key) scene values =
      let before : Values = evaluated told (suc id) key scene.row values in
      ap (λ (code : Code). with_value (place_in scene.row id) code before) (load_same (pairs resource) (state.arrived id) (seen_from keyed before scene (suc id)))
  by_form (level.Store id name max fields starts) scene values = rows_same id (state.rows id) scene values
  by_form (level.Cleanup text) scene values = refl
  by_form (level.Area id name owner known) scene values = at (state.live owner)
    where
      at : (live : Bool) → values_in keyed (if live then write_all (map (write_item state pairs) (items_of known)) (in_area owner scene) else []) values ≡ (if live then in_order (map (after_item told) (items_of known)) scene.row values else values)
      at true = block known (in_area owner scene) values
      at false = refl
  by_form (level.If id cond known) scene values = block known scene (evaluated told id cond scene.row values)
  by_form (level.Each id store known) scene values = each_same known store (state.rows store) scene values
  by_form (level.Element tag closed attrs known) scene values =
      values-append keyed (flat_map (write_attr scene) attrs) (write_all (map (write_item state pairs) (items_of known)) scene) values
      ∙ ap (values_in keyed (write_all (map (write_item state pairs) (items_of known)) scene)) (attrs_same attrs scene values)
      ∙ block known scene (after_attrs told attrs scene.row values)
  by_form (level.Text text) scene values = refl
  by_form (level.Shown id expr) scene values = refl

  item_same : (item : Item) → ItemSame item
  item_same = ind-Item ItemSame (λ x y is. subst (λ z. ItemSame (roll-Item z)) is (rolled (map-Item Proven Item (λ k. k.0) y) (by_form y)))

  pub items_same : (items : List Item) (scene : Scene) (values : Values) → values_in keyed (write_items state pairs items scene) values ≡ after_items told items scene.row values
  items_same [] scene values = refl
  items_same (item ∷ items) scene values =
      values-append keyed (write_item state pairs item scene) (write_items state pairs items scene) values
      ∙ ap (values_in keyed (write_items state pairs items scene)) (item_same item scene values)
      ∙ items_same items scene (after_item told item scene.row values)

-- ---- the pairs of resources

and_true : (b : Bool) (c : Bool) → b ≡ true → (b && c) ≡ c
and_true true c h = refl
and_true false c h = cc

and_false : (b : Bool) (c : Bool) → b ≡ false → (b && c) ≡ false
and_false true c h = cc
and_false false c h = refl

value_by-append : (xs ys : List (Code × Code)) (key : Code) (before : Values) (own id : ℕ) (b : Bool) → (own == id) ≡ b → before (of_row id key) ≡ value_by ys key → with_pairs own xs before (of_row id key) ≡ value_by ((if b then xs else []) ++ ys) key
value_by-append [] ys key before own id true is rest = rest
value_by-append [] ys key before own id false is rest = rest
value_by-append (pair ∷ xs) ys key before own id true is rest =
    (λ i. if and_true (own == id) (is_same pair.0 key) is i then pair.1 else with_pairs own xs before (of_row id key))
    ∙ ap (λ (code : Code). if is_same pair.0 key then pair.1 else code) (value_by-append xs ys key before own id true is rest)
value_by-append (pair ∷ xs) ys key before own id false is rest =
    (λ i. if and_false (own == id) (is_same pair.0 key) is i then pair.1 else with_pairs own xs before (of_row id key))
    ∙ value_by-append xs ys key before own id false is rest

pub pairs_right : (items : List Item) (id : ℕ) (key : Code) → pairs_of items (of_row id key) ≡ value_by (pairs_among items id) key
pairs_right [] id key = refl
pairs_right (item ∷ items) id key = at (out-Item item) (pairs_right items id key)
  where
    at : (form : Item-F Item) → pairs_of items (of_row id key) ≡ value_by (pairs_among items id) key → with_resource form (pairs_of items) (of_row id key) ≡ value_by (pairs_step id form ++ pairs_among items id) key
    at (level.Signal own name start) rest = rest
    at (level.Memo own name expr) rest = rest
    at (level.Effect own name expr) rest = rest
    at (level.Resource own name after keys codes) rest = value_by-append (zip keys codes) (pairs_among items id) key (pairs_of items) own id (own == id) refl rest
    at (level.Load own name resource expr) rest = rest
    at (level.Store own name max fields starts) rest = rest
    at (level.Cleanup text) rest = rest
    at (level.Area own name owner inner) rest = rest
    at (level.If own cond inner) rest = rest
    at (level.Each own store inner) rest = rest
    at (level.Element tag closed attrs inner) rest = rest
    at (level.Text text) rest = rest
    at (level.Shown own expr) rest = rest

-- ---- the whole

pub same_values : (component : Component) (held : Held) → (if is_live held 0 then after_items (record { state = state_of held; keyed = is_keyed component; by_key = λ id key. pairs_of component.items (of_row id key) }) component.items None no_values else no_values) ≡ scratch component held
same_values component held = at (is_live held 0)
  where
    given_same : ◌≡◌ {A = Given} (record { state = state_of held; keyed = is_keyed component; by_key = λ id key. pairs_of component.items (of_row id key) }) (record { state = state_of held; keyed = is_keyed component; by_key = λ id key. value_by (pairs_among component.items id) key })
    given_same = λ i. record { state = state_of held; keyed = is_keyed component; by_key = λ id key. pairs_right component.items id key i }

    at : (live : Bool) → (if live then after_items (record { state = state_of held; keyed = is_keyed component; by_key = λ id key. pairs_of component.items (of_row id key) }) component.items None no_values else no_values) ≡ values_in (is_keyed component) (if live then write_items (state_of held) (pairs_among component.items) component.items at_top else []) no_values
    at true = ap (λ (g : Given). after_items g component.items None no_values) given_same ∙ sym (items_same (state_of held) (pairs_among component.items) (is_keyed component) component.items at_top no_values)
    at false = refl
