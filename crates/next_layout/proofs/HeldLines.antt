-- What each line of a text says, against the state that it is written out in.
use Rattle.std.proofs.Common.{◌≡◌, ℕ, suc, ◌+◌, if◌then◌else◌, Bool, true, false, List, [], ◌∷◌, map, slice_get, Some, refl, sym, ap, subst, ◌∙◌, arith}
use Rattle.std.specs.List.{flat_map}
use Rattle.values.specs.declared.code.Code.{Code}
use Rattle.values.specs.declared.plan.Kind.TheVariants as kind
use Rattle.values.specs.PlanValues.{is_derived}
use Rattle.store_fields.specs.declared.row.Row.{Row}
use Rattle.component_items.specs.declared.component.Attr.{Attr}
use Rattle.component_items.specs.declared.component.Attr.TheVariants as attr
use Rattle.component_items.specs.declared.component.Component.{Component}
use Rattle.component_items.specs.declared.component.Item.{Item}
use Rattle.component_items.specs.declared.component.Item.TheOpen as level
use Rattle.component_items.specs.declared.component.Item.TheOpen.{Item-F}
use Rattle.component_items.specs.declared.component.Item.TheViews.{roll-Item}
use Rattle.component_items.specs.declared.component.Item.TheFolds.{fold-roll-Item, map-Item, ind-Item}
use Rattle.plain_evaluation.specs.Sound.{Among}
use Rattle.plain_evaluation.specs.Written.{State, Scene, Says, given, loaded, derived, Written, place_of, in_row, in_area, write_attr, write_fields, write_all, write_step, write_item, write_items, pairs_among, written_in, at_top}
use Rattle.plain_evaluation.proofs.Every.{Every, every-append, every_among}

-- ---- what a line says

-- the value of a field of a row that is there
pub record IsFieldOf (state : State) (id : ℕ) (scene : Scene) (code : Code) : Type 0 where
  pub store : ℕ
  pub place : ℕ
  pub row : Row
  pub there : slice_get (state.rows store) place ≡ Some row
  pub around : scene.row ≡ Some (record { store = store; key = row.key })
  pub field : ℕ
  pub id_is : id ≡ 2 + store + field
  pub is_code : slice_get row.fields field ≡ Some code

abbrev pub SaysHeld : State → Written → Says → Type 0
SaysHeld state w (given kind.Signal code) = code ≡ state.value (place_of w)
SaysHeld state w (given kind.Field code) = IsFieldOf state w.id w.scene code
SaysHeld state w (given kind.Load code) = ⊥
SaysHeld state w (given kind.Memo code) = ⊥
SaysHeld state w (given kind.Effect code) = ⊥
SaysHeld state w (loaded pairs arrived) = Unit {0}
SaysHeld state w (derived k expr) = is_derived k ≡ true

-- ---- one item

module _ (state : State) (pairs : ℕ → List (Code × Code)) where
  abbrev P : Written → Type 0
  P w = SaysHeld state w w.says

  abbrev Helds : (Scene → List Written) → Type 0
  Helds writes = (scene : Scene) → Every P (writes scene)

  abbrev ItemIs : Item → Type 0
  ItemIs item = Helds (write_item state pairs item)

  abbrev Proven : Type 0
  Proven = (item : Item) × ItemIs item

  abbrev items_of : List Proven → List Item
  items_of known = map (λ k. k.0) known

  abbrev FormIs : Item-F Item → Type 0
  FormIs x = Helds (write_step state pairs (map-Item Item (Scene → List Written) (write_item state pairs) x))

  rolled : (x : Item-F Item) → FormIs x → ItemIs (roll-Item x)
  unfolding write_item
  rolled x is = subst Helds (sym (fold-roll-Item (Scene → List Written) (write_step state pairs) x)) is

  block : (known : List Proven) → Helds (write_all (map (write_item state pairs) (items_of known)))
  block [] scene = tt
  block (k ∷ known) scene = every-append P (write_item state pairs k.0 scene) (write_all (map (write_item state pairs) (items_of known)) scene) (k.1 scene) (block known scene)

  each_row : (part : Row → List Written) (rows : List Row) → ((place : ℕ) (row : Row) → slice_get rows place ≡ Some row → Every P (part row)) → Every P (flat_map part rows)
  each_row part [] each = tt
  each_row part (row ∷ rows) each = every-append P (part row) (flat_map part rows) (each 0 row refl) (each_row part rows (λ place other at. each (suc place) other at))

  fields_held : (store place : ℕ) (row : Row) → slice_get (state.rows store) place ≡ Some row → (scene : Scene) → scene.row ≡ Some (record { store = store; key = row.key }) → (id field : ℕ) (codes : List Code) → id ≡ 2 + store + field
      → ((k : ℕ) (code : Code) → slice_get codes k ≡ Some code → slice_get row.fields (field + k) ≡ Some code) → Every P (write_fields id codes scene)
  fields_held store place row there scene around id field [] is at = tt
  fields_held store place row there scene around id field (code ∷ codes) is at =
      let first : field + 0 ≡ field = omega arith in (
        record { store = store; place = place; row = row; there = there; around = around; field = field; id_is = is; is_code = ap (slice_get row.fields) (sym first) ∙ at 0 code refl },
        fields_held store place row there scene around (suc id) (suc field) codes (omega arith) (λ k c here. (let next : suc field + k ≡ field + suc k = omega arith in ap (slice_get row.fields) next ∙ at (suc k) c here)),
      )

  attrs_held : (attrs : List Attr) (scene : Scene) → Every P (flat_map (write_attr scene) attrs)
  attrs_held [] scene = tt
  attrs_held (attr.Bare name ∷ attrs) scene = attrs_held attrs scene
  attrs_held (attr.Fixed name text ∷ attrs) scene = attrs_held attrs scene
  attrs_held (attr.Shown name id expr ∷ attrs) scene = (refl, attrs_held attrs scene)

  area : (live : Bool) (ws : List Written) → Every P ws → Every P (if live then ws else [])
  area true ws every = every
  area false ws every = tt

  by_form : (y : Item-F Proven) → FormIs (map-Item Proven Item (λ k. k.0) y)
  by_form (level.Signal id name start) scene = (refl, tt)
  by_form (level.Memo id name expr) scene = (refl, tt)
  by_form (level.Effect id name expr) scene = (refl, tt)
  by_form (level.Resource id name after keys values) scene = tt
  by_form (level.Load id name resource key) scene = (refl, (tt, tt))
  by_form (level.Store id name max fields starts) scene =
      each_row (λ row. write_fields (2 + id) row.fields (in_row id row.key scene)) (state.rows id) (λ place row there.
      fields_held id place row there (in_row id row.key scene) refl (2 + id) 0 row.fields (omega arith) (λ k code here. (let same : 0 + k ≡ k = omega arith in ap (slice_get row.fields) same ∙ here)))
  by_form (level.Cleanup text) scene = tt
  by_form (level.Area id name owner known) scene = area (state.live owner) (write_all (map (write_item state pairs) (items_of known)) (in_area owner scene)) (block known (in_area owner scene))
  by_form (level.If id cond known) scene = (refl, block known scene)
  by_form (level.Each id store known) scene = each_row (λ row. write_all (map (write_item state pairs) (items_of known)) (in_row store row.key scene)) (state.rows store) (λ place row there. block known (in_row store row.key scene))
  by_form (level.Element tag closed attrs known) scene = every-append P (flat_map (write_attr scene) attrs) (write_all (map (write_item state pairs) (items_of known)) scene) (attrs_held attrs scene) (block known scene)
  by_form (level.Text text) scene = tt
  by_form (level.Shown id expr) scene = (refl, tt)

  item_is : (item : Item) → ItemIs item
  item_is = ind-Item ItemIs (λ x y is. subst (λ z. ItemIs (roll-Item z)) is (rolled (map-Item Proven Item (λ k. k.0) y) (by_form y)))

  text_is : (items : List Item) → Helds (write_items state pairs items)
  text_is [] scene = tt
  text_is (item ∷ items) scene = every-append P (write_item state pairs item scene) (write_items state pairs items scene) (item_is item scene) (text_is items scene)

-- ---- the whole

-- a line says what is held
abbrev pub IsHeldLine : State → Written → Type 0
IsHeldLine state w = SaysHeld state w w.says

pub all_held : (component : Component) (state : State) → Every (IsHeldLine state) (written_in component state)
all_held component state = at (state.live 0)
  where
    at : (live : Bool) → Every (IsHeldLine state) (if live then write_items state (pairs_among component.items) component.items at_top else [])
    at true = text_is state (pairs_among component.items) component.items at_top
    at false = tt

pub is_held : (component : Component) (state : State) (w : Written) → Among (written_in component state) w → IsHeldLine state w
is_held component state w among = every_among (IsHeldLine state) (written_in component state) w (all_held component state) among
