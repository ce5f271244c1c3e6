-- A place is written out exactly where it is due.
use Rattle.std.proofs.Common.{◌≡◌, ℕ, suc, ◌+◌, inl, inr, ◌||◌, if◌then◌else◌, Bool, true, false, List, [], ◌∷◌, map, is_some, refl, sym, ap, subst, ◌∙◌}
use Rattle.std.specs.List.{flat_map}
use Rattle.values.specs.declared.code.Code.{Code}
use Rattle.values.specs.Evaluation.{is_same}
use Rattle.store_fields.specs.declared.row.Row.{Row}
use Rattle.component_items.specs.declared.component.Attr.{Attr}
use Rattle.component_items.specs.declared.component.Attr.TheVariants as attr
use Rattle.component_items.specs.declared.component.Component.{Component}
use Rattle.component_items.specs.declared.component.Item.{Item}
use Rattle.component_items.specs.declared.component.Item.TheOpen as level
use Rattle.component_items.specs.declared.component.Item.TheOpen.{Item-F}
use Rattle.component_items.specs.declared.component.Item.TheViews.{roll-Item}
use Rattle.component_items.specs.declared.component.Item.TheFolds.{fold-roll-Item, map-Item, ind-Item}
use Rattle.component_items.specs.Kept.{IsKept}
use Rattle.plain_evaluation.specs.Fits.{RowsFit}
use Rattle.plain_evaluation.specs.Origins.{Origin, around_of, origin_of, origin_in}
use Rattle.plain_evaluation.specs.Place.{Place, same_place}
use Rattle.plain_evaluation.specs.Sound.{Among, has_place}
use Rattle.plain_evaluation.specs.Written.{State, Scene, Written, place_of, key_in, in_row, in_area, write_attr, write_fields, write_all, write_step, write_item, write_items, pairs_among, written_in, at_top}
use Rattle.plain_evaluation.proofs.Every.{Every, every-append, every_among}
use Rattle.plain_evaluation.proofs.Origins.{have_origins}
use Rattle.plain_evaluation.proofs.Places.{and_both, or_right, code_itself, same_places}
use Rattle.plan_meaning.specs.There.{has_key, has_row, is_there}
use Rattle.plan_meaning.specs.Told.{kind_told}
use Rattle.plan_meaning.proofs.Told.{kinds}

-- ---- what is written stands where the state has it

abbrev StandsThere : State → Scene → Type 0
StandsThere state scene = (state.live scene.owner ≡ true) × (has_row state (around_of scene).store (key_in scene) ≡ true)

abbrev LineThere : State → Written → Type 0
LineThere state w = StandsThere state w.scene

fields_stand : (state : State) (first : ℕ) (codes : List Code) (scene : Scene) → StandsThere state scene → Every (LineThere state) (write_fields first codes scene)
fields_stand state first [] scene there = tt
fields_stand state first (code ∷ codes) scene there = (there, fields_stand state (suc first) codes scene there)

attrs_stand : (state : State) (attrs : List Attr) (scene : Scene) → StandsThere state scene → Every (LineThere state) (flat_map (write_attr scene) attrs)
attrs_stand state [] scene there = tt
attrs_stand state (attr.Bare name ∷ attrs) scene there = attrs_stand state attrs scene there
attrs_stand state (attr.Fixed name text ∷ attrs) scene there = attrs_stand state attrs scene there
attrs_stand state (attr.Shown name id expr ∷ attrs) scene there = (there, attrs_stand state attrs scene there)

-- the rows of a store are in it
rows_stand : (state : State) (store : ℕ) (scene : Scene) (part : Row → List Written) (rows : List Row) → state.live scene.owner ≡ true → ((key : Code) → has_key rows key ≡ true → has_key (state.rows store) key ≡ true) → ((row : Row) → StandsThere state (in_row store row.key scene) → Every (LineThere state) (part row)) → Every (LineThere state) (flat_map part rows)
rows_stand state store scene part [] live among each = tt
rows_stand state store scene part (row ∷ rows) live among each =
    every-append (LineThere state) (part row) (flat_map part rows)
    (each row (live, among row.key (ap (λ b. b || has_key rows row.key) (code_itself row.key))))
    (rows_stand state store scene part rows live (λ key has. among key (or_right (is_same row.key key) (has_key rows key) has)) each)

module _ (state : State) (pairs : ℕ → List (Code × Code)) where
  abbrev Writes : (Scene → List Written) → Type 0
  Writes writes = (scene : Scene) → StandsThere state scene → Every (LineThere state) (writes scene)

  abbrev ItemStands : Item → Type 0
  ItemStands item = Writes (write_item state pairs item)

  abbrev Proven : Type 0
  Proven = (item : Item) × ItemStands item

  abbrev items_of : List Proven → List Item
  items_of known = map (λ k. k.0) known

  abbrev FormStands : Item-F Item → Type 0
  FormStands x = Writes (write_step state pairs (map-Item Item (Scene → List Written) (write_item state pairs) x))

  rolled : (x : Item-F Item) → FormStands x → ItemStands (roll-Item x)
  unfolding write_item
  rolled x stands = subst Writes (sym (fold-roll-Item (Scene → List Written) (write_step state pairs) x)) stands

  block : (known : List Proven) → Writes (write_all (map (write_item state pairs) (items_of known)))
  block [] scene there = tt
  block (k ∷ known) scene there = every-append (LineThere state) (write_item state pairs k.0 scene) (write_all (map (write_item state pairs) (items_of known)) scene) (k.1 scene there) (block known scene there)

  area : (live : Bool) (ws : List Written) → (live ≡ true → Every (LineThere state) ws) → Every (LineThere state) (if live then ws else [])
  area true ws every = every refl
  area false ws every = tt

  by_form : (y : Item-F Proven) → FormStands (map-Item Proven Item (λ k. k.0) y)
  by_form (level.Signal id name start) scene there = (there, tt)
  by_form (level.Memo id name expr) scene there = (there, tt)
  by_form (level.Effect id name expr) scene there = (there, tt)
  by_form (level.Resource id name after keys values) scene there = tt
  by_form (level.Load id name resource key) scene there = (there, (there, tt))
  by_form (level.Store id name max fields starts) scene there = rows_stand state id scene (λ row. write_fields (2 + id) row.fields (in_row id row.key scene)) (state.rows id) there.0 (λ key has. has) (λ row here. fields_stand state (2 + id) row.fields (in_row id row.key scene) here)
  by_form (level.Cleanup text) scene there = tt
  by_form (level.Area id name owner known) scene there = area (state.live owner) (write_all (map (write_item state pairs) (items_of known)) (in_area owner scene)) (λ live. block known (in_area owner scene) (live, there.1))
  by_form (level.If id cond known) scene there = (there, block known scene there)
  by_form (level.Each id store known) scene there = rows_stand state store scene (λ row. write_all (map (write_item state pairs) (items_of known)) (in_row store row.key scene)) (state.rows store) there.0 (λ key has. has) (λ row here. block known (in_row store row.key scene) here)
  by_form (level.Element tag closed attrs known) scene there = every-append (LineThere state) (flat_map (write_attr scene) attrs) (write_all (map (write_item state pairs) (items_of known)) scene) (attrs_stand state attrs scene there) (block known scene there)
  by_form (level.Text text) scene there = tt
  by_form (level.Shown id expr) scene there = (there, tt)

  item_stand : (item : Item) → ItemStands item
  item_stand = ind-Item ItemStands (λ x y is. subst (λ z. ItemStands (roll-Item z)) is (rolled (map-Item Proven Item (λ k. k.0) y) (by_form y)))

  text_stands : (items : List Item) → Writes (write_items state pairs items)
  text_stands [] scene there = tt
  text_stands (item ∷ items) scene there = every-append (LineThere state) (write_item state pairs item scene) (write_items state pairs items scene) (item_stand item scene there) (text_stands items scene there)

lines_stand : (component : Component) (state : State) → Every (LineThere state) (written_in component state)
lines_stand component state = at (state.live 0) refl
  where
    at : (live : Bool) → state.live 0 ≡ live → Every (LineThere state) (if live then write_items state (pairs_among component.items) component.items at_top else [])
    at true is = text_stands state (pairs_among component.items) component.items at_top (is, refl)
    at false is = tt

-- a place that is written out is that of a line
line_at : (ws : List Written) (p : Place) → has_place ws p ≡ true → (w : Written) × Among ws w × (place_of w ≡ p)
line_at [] p has = cc
line_at (x ∷ ws) p has = at (same_place (place_of x) p) refl has (line_at ws p)
  where
    at : (s : Bool) → same_place (place_of x) p ≡ s → (s || has_place ws p) ≡ true → (has_place ws p ≡ true → (w : Written) × Among ws w × (place_of w ≡ p)) → (w : Written) × Among (x ∷ ws) w × (place_of w ≡ p)
    at true same has later = (x, inl refl, same_places (place_of x) p same)
    at false same has later = let one = later has in (one.0, inr one.1, one.2)

pub due : (component : Component) (state : State) → IsKept component → RowsFit component state → (p : Place) → has_place (written_in component state) p ≡ true → is_there component state p ≡ true
due component state kept fits p has = subst (λ q. is_there component state q ≡ true) line.2 (and_both _ _ (and_both _ _ some live) row)
  where
    line : (w : Written) × Among (written_in component state) w × (place_of w ≡ p)
    line = line_at (written_in component state) p has

    origin : origin_in component line.0.id ≡ origin_of line.0
    origin = have_origins component state kept fits line.0 line.1

    stands : LineThere state line.0
    stands = every_among (LineThere state) (written_in component state) line.0 (lines_stand component state) line.1

    some : is_some (kind_told (origin_in component line.0.id).told) ≡ true
    some = ap (λ (o : Origin). is_some (kind_told o.told)) origin ∙ ap is_some (kinds line.0.says)

    live : state.live (origin_in component line.0.id).around.owner ≡ true
    live = ap (λ (o : Origin). state.live o.around.owner) origin ∙ stands.0

    row : has_row state (origin_in component line.0.id).around.store (key_in line.0.scene) ≡ true
    row = ap (λ (o : Origin). has_row state o.around.store (key_in line.0.scene)) origin ∙ stands.1
