-- What each line of a text is: its kind is derived where it is computed, and a load stands in no row, beside the line of its key.
use Rattle.std.proofs.Common.{◌≡◌, ℕ, suc, ◌+◌, inl, inr, if◌then◌else◌, Bool, true, false, List, [], ◌∷◌, ◌++◌, map, Option, Some, None, is_some, refl, sym, subst, ◌∙◌}
use Rattle.std.specs.List.{flat_map, list_all}
use Rattle.values.specs.declared.code.Code.{Code}
use Rattle.values.specs.declared.expr.Expr.{Expr}
use Rattle.values.specs.declared.plan.Kind.TheVariants as kind
use Rattle.values.specs.PlanValues.{is_derived}
use Rattle.store_fields.specs.declared.row.Row.{Row}
use Rattle.component_items.specs.declared.component.Attr.{Attr}
use Rattle.component_items.specs.declared.component.Attr.TheVariants as attr
use Rattle.component_items.specs.declared.component.Component.{Component}
use Rattle.component_items.specs.declared.component.Item.{Item}
use Rattle.component_items.specs.declared.component.Item.TheOpen as level
use Rattle.component_items.specs.declared.component.Item.TheOpen.{Item-F}
use Rattle.component_items.specs.declared.component.Item.TheViews.{roll-Item}
use Rattle.component_items.specs.declared.component.Item.TheFolds.{fold-roll-Item, map-Item, ind-Item}
use Rattle.component_items.specs.Kept.{Standing, is_in_owner, may_have_area, may_have_each, inside_area, inside_if, inside_each, inside_element, stand_all, stands_step, item_stands, standing_at_top, IsKept}
use Rattle.plain_evaluation.specs.Sound.{Among}
use Rattle.plain_evaluation.specs.Written.{State, RowAround, Scene, Says, given, loaded, derived, kind_said, Written, in_row, in_area, write_attr, write_fields, write_all, write_step, write_item, write_items, pairs_among, written_in, at_top}
use Rattle.plain_evaluation.proofs.Every.{Every, every-append, every_among}
use Rattle.plain_evaluation.proofs.Places.{and_cases, not_true}
use Rattle.plan_meaning.specs.Layout.{is_computed}
use Rattle.plan_meaning.proofs.Rows.{among-append}

-- the line of the key of a load
abbrev pub key_line : Written → Expr → Written
key_line w key = record { id = suc w.id; scene = w.scene; says = derived kind.Memo key }

pub record IsProper (all : List Written) (w : Written) : Type 0 where
  pub computed : is_derived (kind_said w.says) ≡ is_computed w.says
  pub load : (pairs : List (Code × Code)) (arrived : Option Code) → w.says ≡ loaded pairs arrived → (w.scene.row ≡ None) × ((key : Expr) × Among all (key_line w key))
  pub effect : kind_said w.says ≡ kind.Effect → w.scene.row ≡ None
  pub loads : kind_said w.says ≡ kind.Load → (pairs : List (Code × Code)) × (arrived : Option Code) × (w.says ≡ loaded pairs arrived)

-- what is neither load nor effect
other_line : (all : List Written) (id : ℕ) (scene : Scene) (says : Says) → is_derived (kind_said says) ≡ is_computed says → (kind_said says ≡ kind.Effect → ⊥) → (kind_said says ≡ kind.Load → ⊥) → ((pairs : List (Code × Code)) (arrived : Option Code) → says ≡ loaded pairs arrived → ⊥) → IsProper all (record { id = id; scene = scene; says = says })
other_line all id scene says same no_effect no_kind no_load = record { computed = same; load = λ pairs arrived is. absurd (no_load pairs arrived is); effect = λ is. absurd (no_effect is); loads = λ is. absurd (no_kind is) }

-- what is written in here is in the whole
abbrev IsIn : List Written → List Written → Type 0
IsIn ws all = (w : Written) → Among ws w → Among all w

in_left : (xs ys all : List Written) → IsIn (xs ++ ys) all → IsIn xs all
in_left xs ys all is w among = is w (among-append xs ys w (inl among))

in_right : (xs ys all : List Written) → IsIn (xs ++ ys) all → IsIn ys all
in_right xs ys all is w among = is w (among-append xs ys w (inr among))

-- what stands around, as the standing says it
pub record StandsSo (s : Standing) (scene : Scene) : Type 0 where
  pub same : s.repeated ≡ is_some scene.row
  pub owner : is_in_owner s.inner ≡ true → s.repeated ≡ false
  pub branch : s.branched ≡ false → s.repeated ≡ false

pub no_row : (row : Option RowAround) → is_some row ≡ false → row ≡ None
no_row None is = refl
no_row (Some row) is = cc

abbrev Propers : (Standing → Bool) → (Scene → List Written) → Type 0
Propers stands writes = (all : List Written) (scene : Scene) (s : Standing) → stands s ≡ true → StandsSo s scene → IsIn (writes scene) all → Every (IsProper all) (writes scene)

fields_proper : (all : List Written) (first : ℕ) (codes : List Code) (scene : Scene) → Every (IsProper all) (write_fields first codes scene)
fields_proper all first [] scene = tt
fields_proper all first (code ∷ codes) scene = (other_line all first scene (given kind.Field code) refl (λ is. cc) (λ is. cc) (λ pairs arrived is. cc), fields_proper all (suc first) codes scene)

rows_proper : (all : List Written) (part : Row → List Written) (rows : List Row) → ((row : Row) → IsIn (part row) all → Every (IsProper all) (part row)) → IsIn (flat_map part rows) all → Every (IsProper all) (flat_map part rows)
rows_proper all part [] each is = tt
rows_proper all part (row ∷ rows) each is = every-append (IsProper all) (part row) (flat_map part rows) (each row (in_left (part row) (flat_map part rows) all is)) (rows_proper all part rows each (in_right (part row) (flat_map part rows) all is))

attrs_proper : (all : List Written) (attrs : List Attr) (scene : Scene) → Every (IsProper all) (flat_map (write_attr scene) attrs)
attrs_proper all [] scene = tt
attrs_proper all (attr.Bare name ∷ attrs) scene = attrs_proper all attrs scene
attrs_proper all (attr.Fixed name text ∷ attrs) scene = attrs_proper all attrs scene
attrs_proper all (attr.Shown name id expr ∷ attrs) scene = (other_line all id scene (derived kind.Memo expr) refl (λ is. cc) (λ is. cc) (λ pairs arrived is. cc), attrs_proper all attrs scene)

module _ (state : State) (pairs : ℕ → List (Code × Code)) where
  abbrev ItemIs : Item → Type 0
  ItemIs item = Propers (item_stands item) (write_item state pairs item)

  abbrev Proven : Type 0
  Proven = (item : Item) × ItemIs item

  abbrev items_of : List Proven → List Item
  items_of known = map (λ k. k.0) known

  abbrev FormIs : Item-F Item → Type 0
  FormIs x = Propers (stands_step (map-Item Item (Standing → Bool) item_stands x)) (write_step state pairs (map-Item Item (Scene → List Written) (write_item state pairs) x))

  rolled : (x : Item-F Item) → FormIs x → ItemIs (roll-Item x)
  unfolding item_stands write_item
  rolled x is =
      subst (λ f. Propers f (write_item state pairs (roll-Item x))) (sym (fold-roll-Item (Standing → Bool) stands_step x))
      (subst (λ f. Propers (stands_step (map-Item Item (Standing → Bool) item_stands x)) f) (sym (fold-roll-Item (Scene → List Written) (write_step state pairs) x))
      is)

  block : (known : List Proven) (all : List Written) (scene : Scene) (s : Standing) → stand_all s (map item_stands (items_of known)) ≡ true → StandsSo s scene → IsIn (write_all (map (write_item state pairs) (items_of known)) scene) all → Every (IsProper all) (write_all (map (write_item state pairs) (items_of known)) scene)
  block [] all scene s stands so is = tt
  block (k ∷ known) all scene s stands so is =
      let stand = and_cases (item_stands k.0 s) (stand_all s (map item_stands (items_of known))) stands in
      let first = write_item state pairs k.0 scene in
      let rest = write_all (map (write_item state pairs) (items_of known)) scene in
      every-append (IsProper all) first rest (k.1 all scene s stand.0 so (in_left first rest all is)) (block known all scene s stand.1 so (in_right first rest all is))

  area : (live : Bool) (all ws : List Written) → (IsIn ws all → Every (IsProper all) ws) → IsIn (if live then ws else []) all → Every (IsProper all) (if live then ws else [])
  area true all ws every is = every is
  area false all ws every is = tt

  by_form : (y : Item-F Proven) → FormIs (map-Item Proven Item (λ k. k.0) y)
  by_form (level.Signal id name start) all scene s stands so is = (other_line all id scene (given kind.Signal _) refl (λ is. cc) (λ is. cc) (λ pairs arrived is. cc), tt)
  by_form (level.Memo id name expr) all scene s stands so is = (other_line all id scene (derived kind.Memo expr) refl (λ is. cc) (λ is. cc) (λ pairs arrived is. cc), tt)
  by_form (level.Effect id name expr) all scene s stands so is = (record { computed = refl; load = λ pairs arrived is. cc; effect = λ is. no_row scene.row (sym so.same ∙ so.owner stands); loads = λ is. cc }, tt)
  by_form (level.Resource id name after keys values) all scene s stands so is = tt
  by_form (level.Load id name resource key) all scene s stands so is = (
    other_line all (suc id) scene (derived kind.Memo key) refl (λ is. cc) (λ is. cc) (λ pairs arrived is. cc),
    (record { computed = refl; load = λ pairs arrived says. (no_row scene.row (sym so.same ∙ so.owner stands), (key, is (record { id = suc id; scene = scene; says = derived kind.Memo key }) (inl refl))); effect = λ is. cc; loads = λ is. (pairs resource, state.arrived id, refl) }, tt),
  )
  by_form (level.Store id name max fields starts) all scene s stands so is =
      rows_proper all (λ row. write_fields (2 + id) row.fields (in_row id row.key scene)) (state.rows id) (λ row here. fields_proper all (2 + id) row.fields (in_row id row.key scene)) is
  by_form (level.Cleanup text) all scene s stands so is = tt
  by_form (level.Area id name owner known) all scene s stands so is =
      let stand = and_cases (may_have_area s) (stand_all (inside_area s) (map item_stands (items_of known))) stands in
      let alone = so.branch (not_true s.branched stand.0) in
      area (state.live owner) all (write_all (map (write_item state pairs) (items_of known)) (in_area owner scene)) (block known all (in_area owner scene) (inside_area s) stand.1 (record { same = so.same; owner = λ is. alone; branch = so.branch })) is
  by_form (level.If id cond known) all scene s stands so is =
      (other_line all id scene (derived kind.Memo cond) refl (λ is. cc) (λ is. cc) (λ pairs arrived is. cc), block known all scene (inside_if s) stands (record { same = so.same; owner = λ is. cc; branch = λ is. cc }) (λ w among. is w (inr among)))
  by_form (level.Each id store known) all scene s stands so is =
      let stand = and_cases (may_have_each s) (stand_all (inside_each s) (map item_stands (items_of known))) stands in
      rows_proper all (λ row. write_all (map (write_item state pairs) (items_of known)) (in_row store row.key scene)) (state.rows store) (λ row. block known all (in_row store row.key scene) (inside_each s) stand.1 (record { same = refl; owner = λ is. cc; branch = λ is. cc })) is
  by_form (level.Element tag closed attrs known) all scene s stands so is =
      let first = flat_map (write_attr scene) attrs in
      let rest = write_all (map (write_item state pairs) (items_of known)) scene in
      every-append (IsProper all) first rest (attrs_proper all attrs scene) (block known all scene (inside_element s) stands (record { same = so.same; owner = λ is. cc; branch = so.branch }) (in_right first rest all is))
  by_form (level.Text text) all scene s stands so is = tt
  by_form (level.Shown id expr) all scene s stands so is = (other_line all id scene (derived kind.Memo expr) refl (λ is. cc) (λ is. cc) (λ pairs arrived is. cc), tt)

  item_is : (item : Item) → ItemIs item
  item_is = ind-Item ItemIs (λ x y is. subst (λ z. ItemIs (roll-Item z)) is (rolled (map-Item Proven Item (λ k. k.0) y) (by_form y)))

  text_is : (items : List Item) (all : List Written) (scene : Scene) (s : Standing) → list_all (λ item. item_stands item s) items ≡ true → StandsSo s scene → IsIn (write_items state pairs items scene) all → Every (IsProper all) (write_items state pairs items scene)
  text_is [] all scene s stands so is = tt
  text_is (item ∷ items) all scene s stands so is =
      let stand = and_cases (item_stands item s) (list_all (λ item. item_stands item s) items) stands in
      let first = write_item state pairs item scene in
      let rest = write_items state pairs items scene in
      every-append (IsProper all) first rest (item_is item all scene s stand.0 so (in_left first rest all is)) (text_is items all scene s stand.1 so (in_right first rest all is))

all_proper : (component : Component) (state : State) → IsKept component → Every (IsProper (written_in component state)) (written_in component state)
all_proper component state kept = at (state.live 0)
  where
    at : (live : Bool) → Every (IsProper (if live then write_items state (pairs_among component.items) component.items at_top else [])) (if live then write_items state (pairs_among component.items) component.items at_top else [])
    at true = text_is state (pairs_among component.items) component.items (write_items state (pairs_among component.items) component.items at_top) at_top standing_at_top kept.stand (record { same = refl; owner = λ is. refl; branch = λ is. refl }) (λ w among. among)
    at false = tt

pub are_proper : (component : Component) (state : State) → IsKept component → (w : Written) → Among (written_in component state) w → IsProper (written_in component state) w
are_proper component state kept w = every_among (IsProper (written_in component state)) (written_in component state) w (all_proper component state kept)
