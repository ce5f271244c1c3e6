-- A component that is written out with other keys arrived: only the lines of loads change.
use Rattle.std.proofs.Common.{◌≡◌, ℕ, suc, ◌+◌, not, if◌then◌else◌, Bool, true, false, List, [], ◌∷◌, ◌++◌, map, Option, refl, sym, ap, subst, ◌∙◌}
use Rattle.std.specs.List.{flat_map, filter}
use Rattle.std.proofs.lemmas.List.{map-append}
use Rattle.values.specs.declared.code.Code.{Code}
use Rattle.values.specs.declared.plan.Kind.TheVariants as kind
use Rattle.store_fields.specs.declared.row.Row.{Row}
use Rattle.component_items.specs.declared.component.Attr.{Attr}
use Rattle.component_items.specs.declared.component.Attr.TheVariants as attr
use Rattle.component_items.specs.declared.component.Component.{Component}
use Rattle.component_items.specs.declared.component.Item.{Item}
use Rattle.component_items.specs.declared.component.Item.TheOpen as level
use Rattle.component_items.specs.declared.component.Item.TheOpen.{Item-F}
use Rattle.component_items.specs.declared.component.Item.TheViews.{roll-Item}
use Rattle.component_items.specs.declared.component.Item.TheFolds.{fold-roll-Item, map-Item, ind-Item}
use Rattle.plain_evaluation.specs.Held.{Held, arrived_held}
use Rattle.plain_evaluation.specs.Keyed.{stands_for, is_keyed}
use Rattle.plain_evaluation.specs.Place.{Place}
use Rattle.plain_evaluation.specs.Written.{State, Scene, Says, given, loaded, derived, kind_said, Written, place_of, in_row, in_area, write_attr, write_fields, write_all, write_step, write_item, write_items, pairs_among, written_in, written, at_top, state_of}
use Rattle.plan_meaning.specs.Layout.{is_computed, rows_of, places_of, read_by, expr_said, node_of, nodes_of_text, plan_of}
use Rattle.load_meaning.specs.Arrivals.{says_arrived, line_arrived, text_arrived}
use Rattle.load_meaning.proofs.Arrives.{Arrives, state_arrived, asked_alike}

fields_alike : (keys : ℕ → Option Code) (first : ℕ) (codes : List Code) (scene : Scene) → write_fields first codes scene ≡ text_arrived keys (write_fields first codes scene)
fields_alike keys first [] scene = refl
fields_alike keys first (code ∷ codes) scene = ap (λ (more : List Written). record { id = first; scene = scene; says = given kind.Field code } ∷ more) (fields_alike keys (suc first) codes scene)

attrs_alike : (keys : ℕ → Option Code) (attrs : List Attr) (scene : Scene) → flat_map (write_attr scene) attrs ≡ text_arrived keys (flat_map (write_attr scene) attrs)
attrs_alike keys [] scene = refl
attrs_alike keys (attr.Bare name ∷ attrs) scene = attrs_alike keys attrs scene
attrs_alike keys (attr.Fixed name text ∷ attrs) scene = attrs_alike keys attrs scene
attrs_alike keys (attr.Shown name id expr ∷ attrs) scene = ap (λ (more : List Written). record { id = id; scene = scene; says = derived kind.Memo expr } ∷ more) (attrs_alike keys attrs scene)

rows_alike : (keys : ℕ → Option Code) (part first : Row → List Written) (rows : List Row) → ((row : Row) → part row ≡ text_arrived keys (first row)) → flat_map part rows ≡ text_arrived keys (flat_map first rows)
rows_alike keys part first [] each = refl
rows_alike keys part first (row ∷ rows) each = (λ i. each row i ++ rows_alike keys part first rows each i) ∙ sym (map-append (line_arrived keys) (first row) (flat_map first rows))

if_alike : (keys : ℕ → Option Code) (live : Bool) (part first : List Written) → part ≡ text_arrived keys first → (if live then part else []) ≡ text_arrived keys (if live then first else [])
if_alike keys true part first same = same
if_alike keys false part first same = refl

module _ (state : State) (keys : ℕ → Option Code) (pairs : ℕ → List (Code × Code)) where
  abbrev later : State
  later = state_arrived keys state

  abbrev WriteAlike : (Scene → List Written) → (Scene → List Written) → Type 0
  WriteAlike writes first = (scene : Scene) → writes scene ≡ text_arrived keys (first scene)

  abbrev ItemAlike : Item → Type 0
  ItemAlike item = WriteAlike (write_item later pairs item) (write_item state pairs item)

  abbrev Proven : Type 0
  Proven = (item : Item) × ItemAlike item

  abbrev items_of : List Proven → List Item
  items_of known = map (λ k. k.0) known

  abbrev FormAlike : Item-F Item → Type 0
  FormAlike x = WriteAlike (write_step later pairs (map-Item Item (Scene → List Written) (write_item later pairs) x)) (write_step state pairs (map-Item Item (Scene → List Written) (write_item state pairs) x))

  rolled : (x : Item-F Item) → FormAlike x → ItemAlike (roll-Item x)
  unfolding write_item
  rolled x alike =
      subst (λ f. WriteAlike f (write_item state pairs (roll-Item x))) (sym (fold-roll-Item (Scene → List Written) (write_step later pairs) x))
      (subst (λ f. WriteAlike (write_step later pairs (map-Item Item (Scene → List Written) (write_item later pairs) x)) f) (sym (fold-roll-Item (Scene → List Written) (write_step state pairs) x))
      alike)

  block : (known : List Proven) → WriteAlike (write_all (map (write_item later pairs) (items_of known))) (write_all (map (write_item state pairs) (items_of known)))
  block [] scene = refl
  block (k ∷ known) scene = (λ i. k.1 scene i ++ block known scene i) ∙ sym (map-append (line_arrived keys) (write_item state pairs k.0 scene) (write_all (map (write_item state pairs) (items_of known)) scene))

  by_form : (y : Item-F Proven) → FormAlike (map-Item Proven Item (λ k. k.0) y)
  by_form (level.Signal id name start) scene = refl
  by_form (level.Memo id name expr) scene = refl
  by_form (level.Effect id name expr) scene = refl
  by_form (level.Resource id name after keys values) scene = refl
  by_form (level.Load id name resource key) scene = refl
  by_form (level.Store id name max fields starts) scene =
      rows_alike keys (λ row. write_fields (2 + id) row.fields (in_row id row.key scene)) (λ row. write_fields (2 + id) row.fields (in_row id row.key scene)) (state.rows id) (λ row. fields_alike keys (2 + id) row.fields (in_row id row.key scene))
  by_form (level.Cleanup text) scene = refl
  by_form (level.Area id name owner known) scene = if_alike keys (state.live owner) (write_all (map (write_item later pairs) (items_of known)) (in_area owner scene)) (write_all (map (write_item state pairs) (items_of known)) (in_area owner scene)) (block known (in_area owner scene))
  by_form (level.If id cond known) scene = ap (λ (more : List Written). record { id = id; scene = scene; says = derived kind.Memo cond } ∷ more) (block known scene)
  by_form (level.Each id store known) scene =
      rows_alike keys (λ row. write_all (map (write_item later pairs) (items_of known)) (in_row store row.key scene)) (λ row. write_all (map (write_item state pairs) (items_of known)) (in_row store row.key scene)) (state.rows store) (λ row. block known (in_row store row.key scene))
  by_form (level.Element tag closed attrs known) scene =
      (λ i. attrs_alike keys attrs scene i ++ block known scene i)
      ∙ sym (map-append (line_arrived keys) (flat_map (write_attr scene) attrs) (write_all (map (write_item state pairs) (items_of known)) scene))
  by_form (level.Text text) scene = refl
  by_form (level.Shown id expr) scene = refl

  item_alike : (item : Item) → ItemAlike item
  item_alike = ind-Item ItemAlike (λ x y is. subst (λ z. ItemAlike (roll-Item z)) is (rolled (map-Item Proven Item (λ k. k.0) y) (by_form y)))

  items_alike : (items : List Item) → WriteAlike (write_items later pairs items) (write_items state pairs items)
  items_alike [] scene = refl
  items_alike (item ∷ items) scene = (λ i. item_alike item scene i ++ items_alike items scene i) ∙ sym (map-append (line_arrived keys) (write_item state pairs item scene) (write_items state pairs items scene))

pub written_alike : (component : Component) (state : State) (keys : ℕ → Option Code) → written_in component (state_arrived keys state) ≡ text_arrived keys (written_in component state)
written_alike component state keys =
    if_alike keys (state.live 0) (write_items (state_arrived keys state) (pairs_among component.items) component.items at_top) (write_items state (pairs_among component.items) component.items at_top) (items_alike state keys (pairs_among component.items) component.items at_top)

pub text_alike : (component : Component) (held later : Held) → Arrives held later → written component later ≡ text_arrived (arrived_held later) (written component held)
text_alike component held later arrives = ap (written_in component) (asked_alike held later arrives) ∙ written_alike component (state_of held) (arrived_held later)

-- ---- the layout

computed_alike : (keys : ℕ → Option Code) (id : ℕ) (says : Says) → is_computed (says_arrived keys id says) ≡ is_computed says
computed_alike keys id (given k code) = refl
computed_alike keys id (loaded pairs arrived) = refl
computed_alike keys id (derived k expr) = refl

filter_alike : (keys : ℕ → Option Code) (f : Bool → Bool) (ws : List Written) → filter (λ w. f (is_computed w.says)) (text_arrived keys ws) ≡ text_arrived keys (filter (λ w. f (is_computed w.says)) ws)
filter_alike keys f [] = refl
filter_alike keys f (w ∷ ws) = ap (λ (b : Bool). if f b then line_arrived keys w ∷ filter (λ v. f (is_computed v.says)) (text_arrived keys ws) else filter (λ v. f (is_computed v.says)) (text_arrived keys ws)) (computed_alike keys w.id w.says) ∙ at (f (is_computed w.says)) (filter_alike keys f ws)
  where
    at : (b : Bool) → filter (λ v. f (is_computed v.says)) (text_arrived keys ws) ≡ text_arrived keys (filter (λ v. f (is_computed v.says)) ws) → (if b then line_arrived keys w ∷ filter (λ v. f (is_computed v.says)) (text_arrived keys ws) else filter (λ v. f (is_computed v.says)) (text_arrived keys ws)) ≡ text_arrived keys (if b then w ∷ filter (λ v. f (is_computed v.says)) ws else filter (λ v. f (is_computed v.says)) ws)
    at true same = ap (λ (more : List Written). line_arrived keys w ∷ more) same
    at false same = same

pub rows_arrived : (keys : ℕ → Option Code) (ws : List Written) → rows_of (text_arrived keys ws) ≡ text_arrived keys (rows_of ws)
rows_arrived keys ws =
    (λ i. filter_alike keys not ws i ++ filter_alike keys (λ b. b) ws i)
    ∙ sym (map-append (line_arrived keys) (filter (λ w. not (is_computed w.says)) ws) (filter (λ w. is_computed w.says) ws))

pub same_places : (keys : ℕ → Option Code) (ws : List Written) → map place_of (text_arrived keys ws) ≡ map place_of ws
same_places keys [] = refl
same_places keys (w ∷ ws) = ap (λ (more : List Place). place_of w ∷ more) (same_places keys ws)

pub places_alike : (keys : ℕ → Option Code) (ws : List Written) → places_of (text_arrived keys ws) ≡ places_of ws
places_alike keys ws = ap (map place_of) (rows_arrived keys ws) ∙ same_places keys (rows_of ws)

node_alike : (keyed : ℕ → Bool) (places : List Place) (keys : ℕ → Option Code) (w : Written) → node_of keyed places (line_arrived keys w) ≡ node_of keyed places w
node_alike keyed places keys w = λ i. record { kind = kinds w.says i; expr = exprs w.says i; owner = w.scene.owner }
  where
    kinds : (says : Says) → kind_said (says_arrived keys w.id says) ≡ kind_said says
    kinds (given k code) = refl
    kinds (loaded pairs arrived) = refl
    kinds (derived k expr) = refl

    exprs : (says : Says) → expr_said (says_arrived keys w.id says) (λ id. read_by places (stands_for keyed w.scene id)) ≡ expr_said says (λ id. read_by places (stands_for keyed w.scene id))
    exprs (given k code) = refl
    exprs (loaded pairs arrived) = refl
    exprs (derived k expr) = refl

nodes_mapped : (keyed : ℕ → Bool) (places : List Place) (keys : ℕ → Option Code) (ws : List Written) → map (node_of keyed places) (text_arrived keys ws) ≡ map (node_of keyed places) ws
nodes_mapped keyed places keys [] = refl
nodes_mapped keyed places keys (w ∷ ws) = λ i. node_alike keyed places keys w i ∷ nodes_mapped keyed places keys ws i

nodes_alike : (keyed : ℕ → Bool) (keys : ℕ → Option Code) (ws : List Written) → nodes_of_text keyed (text_arrived keys ws) ≡ nodes_of_text keyed ws
nodes_alike keyed keys ws =
    (λ i. map (node_of keyed (places_alike keys ws i)) (rows_arrived keys ws i))
    ∙ nodes_mapped keyed (places_of ws) keys (rows_of ws)

pub plan_alike : (component : Component) (held later : Held) → Arrives held later → plan_of component (state_of later) ≡ plan_of component (state_of held)
plan_alike component held later arrives =
    let nodes : nodes_of_text (is_keyed component) (written component later) ≡ nodes_of_text (is_keyed component) (written component held) = ap (nodes_of_text (is_keyed component)) (text_alike component held later arrives) ∙ nodes_alike (is_keyed component) (arrived_held later) (written component held) in
    λ i. record { nodes = nodes i; owners = (plan_of component (state_of held)).owners }
