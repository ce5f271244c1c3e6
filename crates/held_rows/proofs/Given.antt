-- What a text that is written out gives: each signal its value, outside every row, and each field its code in a row.
use Rattle.std.proofs.Common.{◌≡◌, ℕ, suc, ◌+◌, if◌then◌else◌, Bool, true, false, List, [], ◌∷◌, map, Option, Some, None, slice_get, refl, sym, ap, subst, ◌∙◌, arith}
use Rattle.std.specs.List.{flat_map, list_all}
use Rattle.std.specs.Option.{option_map}
use Rattle.values.specs.declared.code.Code.{Code}
use Rattle.values.specs.declared.plan.Kind.TheVariants as kind
use Rattle.store_fields.specs.declared.row.Row.{Row}
use Rattle.component_items.specs.declared.component.Attr.{Attr}
use Rattle.component_items.specs.declared.component.Attr.TheVariants as attr
use Rattle.component_items.specs.declared.component.Component.{Component}
use Rattle.component_items.specs.declared.component.Item.{Item}
use Rattle.component_items.specs.declared.component.Item.TheOpen as level
use Rattle.component_items.specs.declared.component.Item.TheOpen.{Item-F}
use Rattle.component_items.specs.declared.component.Item.TheViews.{roll-Item}
use Rattle.component_items.specs.declared.component.Item.TheFolds.{fold-roll-Item, map-Item, ind-Item}
use Rattle.component_items.specs.Kept.{Standing, may_have_area, may_have_each, inside_area, inside_if, inside_each, inside_element, stand_all, stands_step, item_stands, standing_at_top, IsKept}
use Rattle.plain_evaluation.specs.Place.{place_at, outside}
use Rattle.plain_evaluation.specs.Sound.{Among}
use Rattle.plain_evaluation.specs.Written.{State, RowAround, Scene, Says, given, loaded, derived, Written, in_row, in_area, write_attr, write_fields, write_all, write_step, write_item, write_items, pairs_among, written_in, at_top}
use Rattle.plain_evaluation.proofs.Every.{Every, every-append, every_among}
use Rattle.plain_evaluation.proofs.Places.{and_cases, not_true}
use Rattle.plan_meaning.proofs.Lines.{StandsSo, no_row}

-- the code is that of a field of a row of a store
pub record IsField (state : State) (id : ℕ) (around : Option RowAround) (code : Code) : Type 0 where
  pub store : ℕ
  pub place : ℕ
  pub field : ℕ
  pub row : Row
  pub row_at : slice_get (state.rows store) place ≡ Some row
  pub id_is : id ≡ 2 + store + field
  pub around_is : around ≡ Some (record { store = store; key = row.key })
  pub code_at : slice_get row.fields field ≡ Some code

abbrev pub GivenSo : State → ℕ → Option RowAround → Says → Type 0
GivenSo state id around (given kind.Signal code) = (around ≡ None) × (code ≡ state.value (outside id))
GivenSo state id around (given kind.Field code) = IsField state id around code
GivenSo state id around (given kind.Load code) = ⊥
GivenSo state id around (given kind.Memo code) = ⊥
GivenSo state id around (given kind.Effect code) = ⊥
GivenSo state id around (loaded pairs arrived) = Unit {0}
GivenSo state id around (derived kind expr) = Unit {0}

abbrev IsGiven : State → Written → Type 0
IsGiven state w = GivenSo state w.id w.scene.row w.says

abbrev Givens : State → (Standing → Bool) → (Scene → List Written) → Type 0
Givens state stands writes = (scene : Scene) (s : Standing) → stands s ≡ true → StandsSo s scene → Every (IsGiven state) (writes scene)

fields_given : (state : State) (store place : ℕ) (row : Row) (scene : Scene) → slice_get (state.rows store) place ≡ Some row → (first behind : ℕ) (codes : List Code) → first ≡ 2 + store + behind → ((j : ℕ) (code : Code) → slice_get codes j ≡ Some code → slice_get row.fields (behind + j) ≡ Some code) → Every (IsGiven state) (write_fields first codes (in_row store row.key scene))
fields_given state store place row scene at first behind [] is has = tt
fields_given state store place row scene at first behind (code ∷ codes) is has = (
  record { store = store; place = place; field = behind; row = row; row_at = at; id_is = is; around_is = refl; code_at = (let e : behind ≡ behind + 0 = omega arith in ap (slice_get row.fields) e ∙ has 0 code refl) },
  fields_given state store place row scene at (suc first) (suc behind) codes (omega arith) (λ j c here. (let e : suc behind + j ≡ behind + suc j = omega arith in ap (slice_get row.fields) e ∙ has (suc j) c here)),
)

store_given : (state : State) (store : ℕ) (scene : Scene) (before : ℕ) (rows : List Row) → ((j : ℕ) (row : Row) → slice_get rows j ≡ Some row → slice_get (state.rows store) (before + j) ≡ Some row) → Every (IsGiven state) (flat_map (λ row. write_fields (2 + store) row.fields (in_row store row.key scene)) rows)
store_given state store scene before [] has = tt
store_given state store scene before (row ∷ rows) has = every-append (IsGiven state) (write_fields (2 + store) row.fields (in_row store row.key scene)) (flat_map (λ r. write_fields (2 + store) r.fields (in_row store r.key scene)) rows)
    (fields_given state store before row scene (let e : before ≡ before + 0 = omega arith in ap (slice_get (state.rows store)) e ∙ has 0 row refl) (2 + store) 0 row.fields (omega arith) (λ j code here. (let e : 0 + j ≡ j = omega arith in ap (slice_get row.fields) e ∙ here)))
    (store_given state store scene (suc before) rows (λ j r here. (let e : suc before + j ≡ before + suc j = omega arith in ap (slice_get (state.rows store)) e ∙ has (suc j) r here)))

rows_given : (state : State) (part : Row → List Written) (rows : List Row) → ((row : Row) → Every (IsGiven state) (part row)) → Every (IsGiven state) (flat_map part rows)
rows_given state part [] each = tt
rows_given state part (row ∷ rows) each = every-append (IsGiven state) (part row) (flat_map part rows) (each row) (rows_given state part rows each)

attrs_given : (state : State) (attrs : List Attr) (scene : Scene) → Every (IsGiven state) (flat_map (write_attr scene) attrs)
attrs_given state [] scene = tt
attrs_given state (attr.Bare name ∷ attrs) scene = attrs_given state attrs scene
attrs_given state (attr.Fixed name text ∷ attrs) scene = attrs_given state attrs scene
attrs_given state (attr.Shown name id expr ∷ attrs) scene = (tt, attrs_given state attrs scene)

module _ (state : State) (pairs : ℕ → List (Code × Code)) where
  abbrev ItemIs : Item → Type 0
  ItemIs item = Givens state (item_stands item) (write_item state pairs item)

  abbrev Proven : Type 0
  Proven = (item : Item) × ItemIs item

  abbrev items_of : List Proven → List Item
  items_of known = map (λ k. k.0) known

  abbrev FormIs : Item-F Item → Type 0
  FormIs x = Givens state (stands_step (map-Item Item (Standing → Bool) item_stands x)) (write_step state pairs (map-Item Item (Scene → List Written) (write_item state pairs) x))

  rolled : (x : Item-F Item) → FormIs x → ItemIs (roll-Item x)
  unfolding item_stands write_item
  rolled x is =
      subst (λ f. Givens state f (write_item state pairs (roll-Item x))) (sym (fold-roll-Item (Standing → Bool) stands_step x))
      (subst (λ f. Givens state (stands_step (map-Item Item (Standing → Bool) item_stands x)) f) (sym (fold-roll-Item (Scene → List Written) (write_step state pairs) x))
      is)

  block : (known : List Proven) (scene : Scene) (s : Standing) → stand_all s (map item_stands (items_of known)) ≡ true → StandsSo s scene → Every (IsGiven state) (write_all (map (write_item state pairs) (items_of known)) scene)
  block [] scene s stands so = tt
  block (k ∷ known) scene s stands so =
      let stand = and_cases (item_stands k.0 s) (stand_all s (map item_stands (items_of known))) stands in
      every-append (IsGiven state) (write_item state pairs k.0 scene) (write_all (map (write_item state pairs) (items_of known)) scene) (k.1 scene s stand.0 so) (block known scene s stand.1 so)

  area : (live : Bool) (ws : List Written) → Every (IsGiven state) ws → Every (IsGiven state) (if live then ws else [])
  area true ws every = every
  area false ws every = tt

  by_form : (y : Item-F Proven) → FormIs (map-Item Proven Item (λ k. k.0) y)
  by_form (level.Signal id name start) scene s stands so =
      let none = no_row scene.row (sym so.same ∙ so.owner stands) in
      ((none, ap (λ (r : Option RowAround). state.value (place_at id (option_map (λ (x : RowAround). x.key) r))) none), tt)
  by_form (level.Memo id name expr) scene s stands so = (tt, tt)
  by_form (level.Effect id name expr) scene s stands so = (tt, tt)
  by_form (level.Resource id name after keys values) scene s stands so = tt
  by_form (level.Load id name resource key) scene s stands so = (tt, (tt, tt))
  by_form (level.Store id name max fields starts) scene s stands so = store_given state id scene 0 (state.rows id) (λ j row here. (let e : 0 + j ≡ j = omega arith in ap (slice_get (state.rows id)) e ∙ here))
  by_form (level.Cleanup text) scene s stands so = tt
  by_form (level.Area id name owner known) scene s stands so =
      let stand = and_cases (may_have_area s) (stand_all (inside_area s) (map item_stands (items_of known))) stands in
      let alone = so.branch (not_true s.branched stand.0) in
      area (state.live owner) (write_all (map (write_item state pairs) (items_of known)) (in_area owner scene)) (block known (in_area owner scene) (inside_area s) stand.1 (record { same = so.same; owner = λ is. alone; branch = so.branch }))
  by_form (level.If id cond known) scene s stands so = (tt, block known scene (inside_if s) stands (record { same = so.same; owner = λ is. cc; branch = λ is. cc }))
  by_form (level.Each id store known) scene s stands so =
      let stand = and_cases (may_have_each s) (stand_all (inside_each s) (map item_stands (items_of known))) stands in
      rows_given state (λ row. write_all (map (write_item state pairs) (items_of known)) (in_row store row.key scene)) (state.rows store) (λ row. block known (in_row store row.key scene) (inside_each s) stand.1 (record { same = refl; owner = λ is. cc; branch = λ is. cc }))
  by_form (level.Element tag closed attrs known) scene s stands so =
      every-append (IsGiven state) (flat_map (write_attr scene) attrs) (write_all (map (write_item state pairs) (items_of known)) scene) (attrs_given state attrs scene) (block known scene (inside_element s) stands (record { same = so.same; owner = λ is. cc; branch = so.branch }))
  by_form (level.Text text) scene s stands so = tt
  by_form (level.Shown id expr) scene s stands so = (tt, tt)

  item_is : (item : Item) → ItemIs item
  item_is = ind-Item ItemIs (λ x y is. subst (λ z. ItemIs (roll-Item z)) is (rolled (map-Item Proven Item (λ k. k.0) y) (by_form y)))

  text_is : (items : List Item) (scene : Scene) (s : Standing) → list_all (λ item. item_stands item s) items ≡ true → StandsSo s scene → Every (IsGiven state) (write_items state pairs items scene)
  text_is [] scene s stands so = tt
  text_is (item ∷ items) scene s stands so =
      let stand = and_cases (item_stands item s) (list_all (λ item. item_stands item s) items) stands in
      every-append (IsGiven state) (write_item state pairs item scene) (write_items state pairs items scene) (item_is item scene s stand.0 so) (text_is items scene s stand.1 so)

all_given : (component : Component) (state : State) → IsKept component → Every (IsGiven state) (written_in component state)
all_given component state kept = at (state.live 0)
  where
    at : (live : Bool) → Every (IsGiven state) (if live then write_items state (pairs_among component.items) component.items at_top else [])
    at true = text_is state (pairs_among component.items) component.items at_top standing_at_top kept.stand (record { same = refl; owner = λ is. refl; branch = λ is. refl })
    at false = tt

pub are_given : (component : Component) (state : State) → IsKept component → (w : Written) → Among (written_in component state) w → GivenSo state w.id w.scene.row w.says
are_given component state kept w = every_among (IsGiven state) (written_in component state) w (all_given component state kept)
