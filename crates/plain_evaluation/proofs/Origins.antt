-- Each line of a written text has the origin that the text gives its id.
use Rattle.std.proofs.Common.{◌≡◌, ℕ, suc, ◌+◌, ◌==◌, nat_le, if◌then◌else◌, Bool, true, false, List, [], ◌∷◌, map, length, Some, sym, subst, arith}
use Rattle.std.specs.List.{flat_map, list_all}
use Rattle.values.specs.declared.code.Code.{Code}
use Rattle.store_fields.specs.declared.row.Row.{Row}
use Rattle.component_items.specs.declared.component.Attr.{Attr}
use Rattle.component_items.specs.declared.component.Attr.TheVariants as attr
use Rattle.component_items.specs.declared.component.Component.{Component}
use Rattle.component_items.specs.declared.component.Item.{Item}
use Rattle.component_items.specs.declared.component.Item.TheOpen as level
use Rattle.component_items.specs.declared.component.Item.TheOpen.{Item-F}
use Rattle.component_items.specs.declared.component.Item.TheViews.{roll-Item}
use Rattle.component_items.specs.declared.component.Item.TheFolds.{fold-roll-Item, map-Item, ind-Item}
use Rattle.component_items.specs.Kept.{IsKept}
use Rattle.plain_evaluation.specs.Written.{Scene, Written, in_row, in_area, write_attr, write_fields, write_all, write_step, write_item, write_items, pairs_among, written_in, at_top, State}
use Rattle.plain_evaluation.specs.Sound.{Among}
use Rattle.plain_evaluation.specs.Fits.{all_fit, fits_step, item_fits, store_fits, RowsFit}
use Rattle.plain_evaluation.proofs.Places.{and_cases}
use Rattle.plain_evaluation.specs.Origins.{Around, Origin, around_of, origin_of, tell_attr, tell_fields, tell_all, tell_step, tell_item, tell_items, top_around, origin_in}
use Rattle.plain_evaluation.proofs.Every.{Every, every-append, every_among}
use Rattle.plain_evaluation.proofs.Lookup.{AreFound, found-append}
use Rattle.plain_evaluation.proofs.Told.{origins_right}

abbrev pub HasOrigin : (ℕ → Origin) → Written → Type 0
HasOrigin told w = told w.id ≡ origin_of w

-- one item, by what its folds give
abbrev Tells : (ℕ → Origin) → Bool → (Around → List (ℕ × Origin)) → (Scene → List Written) → Type 0
Tells told fits tells writes = (scene : Scene) → fits ≡ true → AreFound told (tells (around_of scene)) → Every (HasOrigin told) (writes scene)

fields_told : (told : ℕ → Origin) (first : ℕ) (fields : List ℕ) (codes : List Code) (scene : Scene) → length codes ≡ length fields → AreFound told (tell_fields first fields (around_of scene)) → Every (HasOrigin told) (write_fields first codes scene)
fields_told told first fields [] scene fit are = tt
fields_told told first [] (code ∷ codes) scene fit are = absurd (omega (arith, fit))
fields_told told first (name ∷ fields) (code ∷ codes) scene fit are = (are.0, fields_told told (suc first) fields codes scene (omega (arith, fit)) are.1)

attrs_told : (told : ℕ → Origin) (attrs : List Attr) (scene : Scene) → AreFound told (flat_map (tell_attr (around_of scene)) attrs) → Every (HasOrigin told) (flat_map (write_attr scene) attrs)
attrs_told told [] scene are = tt
attrs_told told (attr.Bare name ∷ attrs) scene are = attrs_told told attrs scene are
attrs_told told (attr.Fixed name text ∷ attrs) scene are = attrs_told told attrs scene are
attrs_told told (attr.Shown name id expr ∷ attrs) scene are = (are.0, attrs_told told attrs scene are.1)

rows_told : (told : ℕ → Origin) (part : Row → List Written) (rows : List Row) → ((row : Row) → Every (HasOrigin told) (part row)) → Every (HasOrigin told) (flat_map part rows)
rows_told told part [] each = tt
rows_told told part (row ∷ rows) each = every-append (HasOrigin told) (part row) (flat_map part rows) (each row) (rows_told told part rows each)

module _ (state : State) (told : ℕ → Origin) (pairs : ℕ → List (Code × Code)) where
  abbrev ItemTells : Item → Type 0
  ItemTells item = Tells told (item_fits (store_fits state) item) (tell_item pairs item) (write_item state pairs item)

  abbrev Proven : Type 0
  Proven = (item : Item) × ItemTells item

  abbrev items_of : List Proven → List Item
  items_of known = map (λ k. k.0) known

  abbrev FormTells : Item-F Item → Type 0
  FormTells x = Tells told (fits_step (store_fits state) (map-Item Item Bool (item_fits (store_fits state)) x)) (tell_step pairs (map-Item Item (Around → List (ℕ × Origin)) (tell_item pairs) x)) (write_step state pairs (map-Item Item (Scene → List Written) (write_item state pairs) x))

  rolled : (x : Item-F Item) → FormTells x → ItemTells (roll-Item x)
  unfolding item_fits tell_item write_item
  rolled x tells =
      subst (λ f. Tells told f (tell_item pairs (roll-Item x)) (write_item state pairs (roll-Item x))) (sym (fold-roll-Item Bool (fits_step (store_fits state)) x))
      (subst (λ f. Tells told (fits_step (store_fits state) (map-Item Item Bool (item_fits (store_fits state)) x)) f (write_item state pairs (roll-Item x))) (sym (fold-roll-Item (Around → List (ℕ × Origin)) (tell_step pairs) x))
      (subst (λ f. Tells told (fits_step (store_fits state) (map-Item Item Bool (item_fits (store_fits state)) x)) (tell_step pairs (map-Item Item (Around → List (ℕ × Origin)) (tell_item pairs) x)) f) (sym (fold-roll-Item (Scene → List Written) (write_step state pairs) x))
      tells))

  block : (known : List Proven) → Tells told (all_fit (map (item_fits (store_fits state)) (items_of known))) (tell_all (map (tell_item pairs) (items_of known))) (write_all (map (write_item state pairs) (items_of known)))
  block [] scene fits are = tt
  block (k ∷ known) scene fits are =
      let fit = and_cases (item_fits (store_fits state) k.0) (all_fit (map (item_fits (store_fits state)) (items_of known))) fits in
      let both = found-append told (tell_item pairs k.0 (around_of scene)) (tell_all (map (tell_item pairs) (items_of known)) (around_of scene)) are in
      every-append (HasOrigin told) (write_item state pairs k.0 scene) (write_all (map (write_item state pairs) (items_of known)) scene) (k.1 scene fit.0 both.0) (block known scene fit.1 both.1)

  store_told : (id : ℕ) (fields : List ℕ) (rows : List Row) (scene : Scene) → list_all (λ row. length row.fields == length fields) rows ≡ true → AreFound told (tell_fields (2 + id) fields (record (around_of scene) { store = Some id })) → Every (HasOrigin told) (flat_map (λ row. write_fields (2 + id) row.fields (in_row id row.key scene)) rows)
  store_told id fields [] scene fit are = tt
  store_told id fields (row ∷ rows) scene fit are =
      let both = and_cases (length row.fields == length fields) (list_all (λ r. length r.fields == length fields) rows) fit in
      let long : length row.fields ≡ length fields = (let b = both.0 in grind arith) in
      every-append (HasOrigin told) (write_fields (2 + id) row.fields (in_row id row.key scene)) (flat_map (λ r. write_fields (2 + id) r.fields (in_row id r.key scene)) rows) (fields_told told (2 + id) fields row.fields (in_row id row.key scene) long are) (store_told id fields rows scene both.1 are)

  area : (live : Bool) (ws : List Written) → Every (HasOrigin told) ws → Every (HasOrigin told) (if live then ws else [])
  area true ws every = every
  area false ws every = tt

  by_form : (y : Item-F Proven) → FormTells (map-Item Proven Item (λ k. k.0) y)
  by_form (level.Signal id name start) scene fits are = (are.0, tt)
  by_form (level.Memo id name expr) scene fits are = (are.0, tt)
  by_form (level.Effect id name expr) scene fits are = (are.0, tt)
  by_form (level.Resource id name after ks values) scene fits are = tt
  by_form (level.Load id name resource key) scene fits are = (are.1.0, (are.0, tt))
  by_form (level.Store id name max fields starts) scene fits are =
      let fit = and_cases (list_all (λ row. length row.fields == length fields) (state.rows id)) (nat_le (length (state.rows id)) max) fits in
      store_told id fields (state.rows id) scene fit.0 are.1.1
  by_form (level.Cleanup text) scene fits are = tt
  by_form (level.Area id name owner known) scene fits are = area (state.live owner) (write_all (map (write_item state pairs) (items_of known)) (in_area owner scene)) (block known (in_area owner scene) fits are.1)
  by_form (level.If id cond known) scene fits are = (are.0, block known scene fits are.1)
  by_form (level.Each id store known) scene fits are = rows_told told (λ row. write_all (map (write_item state pairs) (items_of known)) (in_row store row.key scene)) (state.rows store) (λ row. block known (in_row store row.key scene) fits are.1)
  by_form (level.Element tag closed attrs known) scene fits are =
      let both = found-append told (flat_map (tell_attr (around_of scene)) attrs) (tell_all (map (tell_item pairs) (items_of known)) (around_of scene)) are in
      every-append (HasOrigin told) (flat_map (write_attr scene) attrs) (write_all (map (write_item state pairs) (items_of known)) scene) (attrs_told told attrs scene both.0) (block known scene fits both.1)
  by_form (level.Text text) scene fits are = tt
  by_form (level.Shown id expr) scene fits are = (are.0, tt)

  item_tells : (item : Item) → ItemTells item
  item_tells = ind-Item ItemTells (λ x y is. subst (λ z. ItemTells (roll-Item z)) is (rolled (map-Item Proven Item (λ k. k.0) y) (by_form y)))

  text_tells : (items : List Item) (scene : Scene) → list_all (item_fits (store_fits state)) items ≡ true → AreFound told (tell_items pairs items (around_of scene)) → Every (HasOrigin told) (write_items state pairs items scene)
  text_tells [] scene fits are = tt
  text_tells (item ∷ items) scene fits are =
      let fit = and_cases (item_fits (store_fits state) item) (list_all (item_fits (store_fits state)) items) fits in
      let both = found-append told (tell_item pairs item (around_of scene)) (tell_items pairs items (around_of scene)) are in
      every-append (HasOrigin told) (write_item state pairs item scene) (write_items state pairs items scene) (item_tells item scene fit.0 both.0) (text_tells items scene fit.1 both.1)

pub all_have_origins : (component : Component) (state : State) → IsKept component → RowsFit component state → Every (HasOrigin (origin_in component)) (written_in component state)
all_have_origins component state kept fits = at (state.live 0)
  where
    at : (live : Bool) → Every (HasOrigin (origin_in component)) (if live then write_items state (pairs_among component.items) component.items at_top else [])
    at true = text_tells state (origin_in component) (pairs_among component.items) component.items at_top fits.stores (origins_right (pairs_among component.items) component.items top_around kept.numbered.ids)
    at false = tt

pub have_origins : (component : Component) (state : State) → IsKept component → RowsFit component state → (w : Written) → Among (written_in component state) w → origin_in component w.id ≡ origin_of w
have_origins component state kept fits w = every_among (HasOrigin (origin_in component)) (written_in component state) w (all_have_origins component state kept fits)
