-- A component writes out no more places than its nodes are counted.
use Rattle.std.proofs.Common.{◌≡◌, ℕ, suc, ◌+◌, ◌*◌, ◌≤◌, ◌==◌, nat_le, if◌then◌else◌, Bool, true, false, List, [], ◌∷◌, map, length, refl, sym, ap, subst, arith, length-append, leb-true}
use Rattle.std.specs.List.{list_all, flat_map, sum, sum_by}
use Rattle.std.proofs.lemmas.Bool.{eqb-true}
use Rattle.std.proofs.lemmas.List.Sums.{sum_by-cons}
use Rattle.values.specs.declared.code.Code.{Code}
use Rattle.values.specs.declared.limits.TheConstants.{MOST_NODES}
use Rattle.store_fields.specs.declared.row.Row.{Row}
use Rattle.component_items.specs.declared.component.Attr.{Attr}
use Rattle.component_items.specs.declared.component.Attr.TheVariants as attr
use Rattle.component_items.specs.declared.component.Component.{Component}
use Rattle.component_items.specs.declared.component.Item.{Item}
use Rattle.component_items.specs.declared.component.Item.TheOpen as level
use Rattle.component_items.specs.declared.component.Item.TheOpen.{Item-F}
use Rattle.component_items.specs.declared.component.Item.TheViews.{roll-Item}
use Rattle.component_items.specs.declared.component.Item.TheFolds.{fold-roll-Item, map-Item, ind-Item}
use Rattle.component_items.specs.Counts.{attr_nodes, nodes_step, item_nodes, nodes_of, maximum_in}
use Rattle.component_items.specs.Kept.{IsKept}
use Rattle.plain_evaluation.specs.Written.{State, Scene, Written, in_row, in_area, write_attr, write_fields, write_all, write_step, write_item, write_items, pairs_among, written_in, at_top}
use Rattle.plain_evaluation.specs.Fits.{all_fit, fits_step, item_fits, RowsFit, store_fits}
use Rattle.plain_evaluation.proofs.Places.{and_cases}

fields_long : (first : ℕ) (codes : List Code) (scene : Scene) → length (write_fields first codes scene) ≡ length codes
fields_long first [] scene = refl
fields_long first (code ∷ codes) scene = ap suc (fields_long (suc first) codes scene)

-- the same part for each row, at the most
rows_long : (part : Row → List Written) (most : ℕ) (rows : List Row) → ((row : Row) → length (part row) ≤ most) → length (flat_map part rows) ≤ length rows * most
rows_long part most [] each = omega arith
rows_long part most (row ∷ rows) each =
    let rest = rows_long part most rows each in
    let here = each row in
    let long = length-append (part row) (flat_map part rows) in
    let more : suc (length rows) * most ≡ most + length rows * most = grind arith in
    omega (arith, more)

store_long : (id count : ℕ) (scene : Scene) (rows : List Row) → list_all (λ row. length row.fields == count) rows ≡ true → length (flat_map (λ row. write_fields (2 + id) row.fields (in_row id row.key scene)) rows) ≡ length rows * count
store_long id count scene [] fit = omega arith
store_long id count scene (row ∷ rows) fit =
    let both = and_cases (length row.fields == count) (list_all (λ row. length row.fields == count) rows) fit in
    let wide : length row.fields ≡ count = eqb-true (length row.fields) count both.0 in
    let rest = store_long id count scene rows both.1 in
    let first = fields_long (2 + id) row.fields (in_row id row.key scene) in
    let long = length-append (write_fields (2 + id) row.fields (in_row id row.key scene)) (flat_map (λ row. write_fields (2 + id) row.fields (in_row id row.key scene)) rows) in
    let more : suc (length rows) * count ≡ count + length rows * count = grind arith in
    omega (arith, more)

times_le : (a b n : ℕ) → a ≤ b → a * n ≤ b * n
times_le a b n le = grind (arith, le)

attrs_long : (attrs : List Attr) (scene : Scene) → length (flat_map (write_attr scene) attrs) ≡ sum_by attr_nodes attrs
attrs_long [] scene = refl
attrs_long (attr.Bare name ∷ attrs) scene = let rest = attrs_long attrs scene in let all = sum_by-cons attr_nodes (attr.Bare name) attrs in omega arith
attrs_long (attr.Fixed name text ∷ attrs) scene = let rest = attrs_long attrs scene in let all = sum_by-cons attr_nodes (attr.Fixed name text) attrs in omega arith
attrs_long (attr.Shown name id expr ∷ attrs) scene = let rest = attrs_long attrs scene in let all = sum_by-cons attr_nodes (attr.Shown name id expr) attrs in omega arith

sum-cons : (n : ℕ) (ns : List ℕ) → sum (n ∷ ns) ≡ n + sum ns
sum-cons n ns = sum_by-cons (λ k. k) n ns

abbrev Few : Bool → ℕ → (Scene → List Written) → Type 0
Few fits nodes writes = (scene : Scene) → fits ≡ true → length (writes scene) ≤ nodes

module _ (state : State) (pairs : ℕ → List (Code × Code)) (most : ℕ → ℕ) (few : (id : ℕ) → length (state.rows id) ≤ most id) where
  abbrev ItemFew : Item → Type 0
  ItemFew item = Few (item_fits (store_fits state) item) (item_nodes most item) (write_item state pairs item)

  abbrev Proven : Type 0
  Proven = (item : Item) × ItemFew item

  abbrev items_of : List Proven → List Item
  items_of known = map (λ k. k.0) known

  abbrev FormFew : Item-F Item → Type 0
  FormFew x = Few (fits_step (store_fits state) (map-Item Item Bool (item_fits (store_fits state)) x)) (nodes_step most (map-Item Item ℕ (item_nodes most) x)) (write_step state pairs (map-Item Item (Scene → List Written) (write_item state pairs) x))

  rolled : (x : Item-F Item) → FormFew x → ItemFew (roll-Item x)
  unfolding item_fits item_nodes write_item
  rolled x few =
      subst (λ f. Few f (item_nodes most (roll-Item x)) (write_item state pairs (roll-Item x))) (sym (fold-roll-Item Bool (fits_step (store_fits state)) x))
      (subst (λ f. Few (fits_step (store_fits state) (map-Item Item Bool (item_fits (store_fits state)) x)) f (write_item state pairs (roll-Item x))) (sym (fold-roll-Item ℕ (nodes_step most) x))
      (subst (λ f. Few (fits_step (store_fits state) (map-Item Item Bool (item_fits (store_fits state)) x)) (nodes_step most (map-Item Item ℕ (item_nodes most) x)) f) (sym (fold-roll-Item (Scene → List Written) (write_step state pairs) x))
      few))

  block : (known : List Proven) (scene : Scene) → all_fit (map (item_fits (store_fits state)) (items_of known)) ≡ true → length (write_all (map (write_item state pairs) (items_of known)) scene) ≤ sum (map (item_nodes most) (items_of known))
  block [] scene fits = omega arith
  block (k ∷ known) scene fits =
      let fit = and_cases (item_fits (store_fits state) k.0) (all_fit (map (item_fits (store_fits state)) (items_of known))) fits in
      let first = k.1 scene fit.0 in
      let rest = block known scene fit.1 in
      let long = length-append (write_item state pairs k.0 scene) (write_all (map (write_item state pairs) (items_of known)) scene) in
      let all = sum-cons (item_nodes most k.0) (map (item_nodes most) (items_of known)) in
      omega arith

  area : (live : Bool) (ws : List Written) (n : ℕ) → length ws ≤ n → length (if live then ws else []) ≤ n
  area true ws n le = le
  area false ws n le = omega arith

  by_form : (y : Item-F Proven) → FormFew (map-Item Proven Item (λ k. k.0) y)
  by_form (level.Signal id name start) scene fits = omega arith
  by_form (level.Memo id name expr) scene fits = omega arith
  by_form (level.Effect id name expr) scene fits = omega arith
  by_form (level.Resource id name after ks values) scene fits = omega arith
  by_form (level.Load id name resource key) scene fits = omega arith
  by_form (level.Store id name max fields starts) scene fits =
      let both = and_cases (list_all (λ row. length row.fields == length fields) (state.rows id)) (nat_le (length (state.rows id)) max) fits in
      let long = store_long id (length fields) scene (state.rows id) both.0 in
      let le = times_le (length (state.rows id)) max (length fields) (leb-true (length (state.rows id)) max both.1) in
      omega arith
  by_form (level.Cleanup text) scene fits = omega arith
  by_form (level.Area id name owner known) scene fits = area (state.live owner) (write_all (map (write_item state pairs) (items_of known)) (in_area owner scene)) (sum (map (item_nodes most) (items_of known))) (block known (in_area owner scene) fits)
  by_form (level.If id cond known) scene fits = let rest = block known scene fits in omega arith
  by_form (level.Each id store known) scene fits =
      let part : Row → List Written = λ row. write_all (map (write_item state pairs) (items_of known)) (in_row store row.key scene) in
      let nodes : ℕ = sum (map (item_nodes most) (items_of known)) in
      let long = rows_long part nodes (state.rows store) (λ row. block known (in_row store row.key scene) fits) in
      let le = times_le (length (state.rows store)) (most store) nodes (few store) in
      omega arith
  by_form (level.Element tag closed attrs known) scene fits =
      let first = attrs_long attrs scene in
      let rest = block known scene fits in
      let long = length-append (flat_map (write_attr scene) attrs) (write_all (map (write_item state pairs) (items_of known)) scene) in
      omega arith
  by_form (level.Text text) scene fits = omega arith
  by_form (level.Shown id expr) scene fits = omega arith

  item_few : (item : Item) → ItemFew item
  item_few = ind-Item ItemFew (λ x y is. subst (λ z. ItemFew (roll-Item z)) is (rolled (map-Item Proven Item (λ k. k.0) y) (by_form y)))

  text_few : (items : List Item) (scene : Scene) → list_all (item_fits (store_fits state)) items ≡ true → length (write_items state pairs items scene) ≤ sum_by (item_nodes most) items
  text_few [] scene fits = omega arith
  text_few (item ∷ items) scene fits =
      let fit = and_cases (item_fits (store_fits state) item) (list_all (item_fits (store_fits state)) items) fits in
      let first = item_few item scene fit.0 in
      let rest = text_few items scene fit.1 in
      let long = length-append (write_item state pairs item scene) (write_items state pairs items scene) in
      let all = sum_by-cons (item_nodes most) item items in
      omega arith

-- the text is no longer
pub few_written : (component : Component) (state : State) → IsKept component → RowsFit component state → length (written_in component state) ≤ MOST_NODES
few_written component state kept fits =
    let le = at (state.live 0) in
    let few = kept.few_nodes in
    omega arith
  where
    at : (live : Bool) → length (if live then write_items state (pairs_among component.items) component.items at_top else []) ≤ nodes_of component.items
    at true = text_few state (pairs_among component.items) (maximum_in component.items) fits.few component.items at_top fits.stores
    at false = omega arith
