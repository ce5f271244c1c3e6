-- Pending loads in the order of the text are those of what is written out.
use Rattle.std.proofs.Common.{◌≡◌, ℕ, suc, ◌+◌, if◌then◌else◌, Bool, true, false, List, [], ◌∷◌, ◌++◌, map, refl, sym, ap, subst, ◌∙◌}
use Rattle.std.specs.List.{flat_map}
use Rattle.std.proofs.lemmas.Grind.{flat_map-append}
use Rattle.values.specs.declared.code.Code.{Code}
use Rattle.values.specs.declared.expr.Expr.{Expr}
use Rattle.store_fields.specs.declared.row.Row.{Row}
use Rattle.component_items.specs.declared.component.Attr.{Attr}
use Rattle.component_items.specs.declared.component.Attr.TheVariants as attr
use Rattle.component_items.specs.declared.component.Component.{Component}
use Rattle.component_items.specs.declared.component.Item.{Item}
use Rattle.component_items.specs.declared.component.Item.TheOpen as level
use Rattle.component_items.specs.declared.component.Item.TheOpen.{Item-F}
use Rattle.component_items.specs.declared.component.Item.TheVariants.{Signal, Memo, Effect, Resource, Load, Store, Cleanup, Area, If, Each, Element, Text, Shown}
use Rattle.component_items.specs.declared.component.Item.TheViews.{roll-Item}
use Rattle.component_items.specs.declared.component.Item.TheFolds.{fold-roll-Item, map-Item, ind-Item}
use Rattle.component_items.proofs.FoldLemmas.{fold-Signal, fold-Memo, fold-Effect, fold-Resource, fold-Load, fold-Store, fold-Cleanup, fold-Area, fold-If, fold-Each, fold-Element, fold-Text, fold-Shown}
use Rattle.plain_evaluation.specs.Held.{Held, is_live}
use Rattle.plain_evaluation.specs.Scratch.{Values, pending_step, pending, scratch}
use Rattle.plain_evaluation.specs.Written.{State, state_of, Scene, Written, in_row, in_area, write_attr, write_fields, write_all, write_step, write_item, write_items, pairs_among, at_top}
use Rattle.plain_page.specs.Waiting.{load_waiting, all_waiting, waiting_step, item_waiting, items_waiting}

-- ---- each form of item

all_items : (state : State) (values : Values) (items : List Item) → all_waiting (map (item_waiting state values) items) ≡ items_waiting state values items
all_items state values [] = refl
all_items state values (item ∷ items) = ap (λ more. item_waiting state values item ++ more) (all_items state values items)

pub waiting-Signal : (state : State) (values : Values) (id name : ℕ) (start : Code) → item_waiting state values (Signal id name start) ≡ []
unfolding item_waiting
waiting-Signal state values id name start = fold-Signal (waiting_step state values) id name start

pub waiting-Memo : (state : State) (values : Values) (id name : ℕ) (expr : Expr) → item_waiting state values (Memo id name expr) ≡ []
unfolding item_waiting
waiting-Memo state values id name expr = fold-Memo (waiting_step state values) id name expr

pub waiting-Effect : (state : State) (values : Values) (id name : ℕ) (expr : Expr) → item_waiting state values (Effect id name expr) ≡ []
unfolding item_waiting
waiting-Effect state values id name expr = fold-Effect (waiting_step state values) id name expr

pub waiting-Resource : (state : State) (values : Values) (id name after : ℕ) (keys codes : List Code) → item_waiting state values (Resource id name after keys codes) ≡ []
unfolding item_waiting
waiting-Resource state values id name after keys codes = fold-Resource (waiting_step state values) id name after keys codes

pub waiting-Load : (state : State) (values : Values) (id name resource : ℕ) (key : Expr) → item_waiting state values (Load id name resource key) ≡ load_waiting state values id
unfolding item_waiting
waiting-Load state values id name resource key = fold-Load (waiting_step state values) id name resource key

pub waiting-Store : (state : State) (values : Values) (id name max : ℕ) (fields : List ℕ) (starts : List Code) → item_waiting state values (Store id name max fields starts) ≡ []
unfolding item_waiting
waiting-Store state values id name max fields starts = fold-Store (waiting_step state values) id name max fields starts

pub waiting-Cleanup : (state : State) (values : Values) (text : ℕ) → item_waiting state values (Cleanup text) ≡ []
unfolding item_waiting
waiting-Cleanup state values text = fold-Cleanup (waiting_step state values) text

pub waiting-Area : (state : State) (values : Values) (id name owner : ℕ) (items : List Item) → item_waiting state values (Area id name owner items) ≡ (if state.live owner then items_waiting state values items else [])
unfolding item_waiting
waiting-Area state values id name owner items = fold-Area (waiting_step state values) id name owner items ∙ ap (λ (more : List ℕ). if state.live owner then more else []) (all_items state values items)

pub waiting-If : (state : State) (values : Values) (id : ℕ) (cond : Expr) (items : List Item) → item_waiting state values (If id cond items) ≡ items_waiting state values items
unfolding item_waiting
waiting-If state values id cond items = fold-If (waiting_step state values) id cond items ∙ all_items state values items

pub waiting-Each : (state : State) (values : Values) (id store : ℕ) (items : List Item) → item_waiting state values (Each id store items) ≡ flat_map (λ row. items_waiting state values items) (state.rows store)
unfolding item_waiting
waiting-Each state values id store items = fold-Each (waiting_step state values) id store items ∙ ap (λ (more : List ℕ). flat_map (λ row. more) (state.rows store)) (all_items state values items)

pub waiting-Element : (state : State) (values : Values) (tag : ℕ) (closed : Bool) (attrs : List Attr) (items : List Item) → item_waiting state values (Element tag closed attrs items) ≡ items_waiting state values items
unfolding item_waiting
waiting-Element state values tag closed attrs items = fold-Element (waiting_step state values) tag closed attrs items ∙ all_items state values items

pub waiting-Text : (state : State) (values : Values) (text : ℕ) → item_waiting state values (Text text) ≡ []
unfolding item_waiting
waiting-Text state values text = fold-Text (waiting_step state values) text

pub waiting-Shown : (state : State) (values : Values) (id : ℕ) (expr : Expr) → item_waiting state values (Shown id expr) ≡ []
unfolding item_waiting
waiting-Shown state values id expr = fold-Shown (waiting_step state values) id expr

-- ---- what is written out

module _ (state : State) (pairs : ℕ → List (Code × Code)) (values : Values) where
  abbrev waits : List Written → List ℕ
  waits ws = flat_map (λ w. pending_step values w.id w.says) ws

  waits-append : (xs ys : List Written) → waits (xs ++ ys) ≡ waits xs ++ waits ys
  waits-append xs ys = flat_map-append (λ w. pending_step values w.id w.says) xs ys

  abbrev IsSame : (Scene → List Written) → List ℕ → Type 0
  IsSame writes loads = (scene : Scene) → waits (writes scene) ≡ loads

  abbrev ItemSame : Item → Type 0
  ItemSame item = IsSame (write_item state pairs item) (item_waiting state values item)

  abbrev Proven : Type 0
  Proven = (item : Item) × ItemSame item

  abbrev items_of : List Proven → List Item
  items_of known = map (λ k. k.0) known

  abbrev FormSame : Item-F Item → Type 0
  FormSame x = IsSame (write_step state pairs (map-Item Item (Scene → List Written) (write_item state pairs) x)) (waiting_step state values (map-Item Item (List ℕ) (item_waiting state values) x))

  rolled : (x : Item-F Item) → FormSame x → ItemSame (roll-Item x)
  unfolding write_item item_waiting
  rolled x same =
      subst (λ f. IsSame f (item_waiting state values (roll-Item x))) (sym (fold-roll-Item (Scene → List Written) (write_step state pairs) x))
      (subst (λ loads. IsSame (write_step state pairs (map-Item Item (Scene → List Written) (write_item state pairs) x)) loads) (sym (fold-roll-Item (List ℕ) (waiting_step state values) x))
      same)

  block : (known : List Proven) → IsSame (write_all (map (write_item state pairs) (items_of known))) (all_waiting (map (item_waiting state values) (items_of known)))
  block [] scene = refl
  block (k ∷ known) scene = waits-append (write_item state pairs k.0 scene) (write_all (map (write_item state pairs) (items_of known)) scene) ∙ (λ i. k.1 scene i ++ block known scene i)

  attrs_none : (attrs : List Attr) (scene : Scene) → waits (flat_map (write_attr scene) attrs) ≡ []
  attrs_none [] scene = refl
  attrs_none (attr.Bare name ∷ attrs) scene = attrs_none attrs scene
  attrs_none (attr.Fixed name text ∷ attrs) scene = attrs_none attrs scene
  attrs_none (attr.Shown name id expr ∷ attrs) scene = attrs_none attrs scene

  fields_none : (id : ℕ) (codes : List Code) (scene : Scene) → waits (write_fields id codes scene) ≡ []
  fields_none id [] scene = refl
  fields_none id (code ∷ codes) scene = fields_none (suc id) codes scene

  rows_none : (id : ℕ) (rows : List Row) (scene : Scene) → waits (flat_map (λ row. write_fields (2 + id) row.fields (in_row id row.key scene)) rows) ≡ []
  rows_none id [] scene = refl
  rows_none id (row ∷ rows) scene = waits-append (write_fields (2 + id) row.fields (in_row id row.key scene)) (flat_map (λ row. write_fields (2 + id) row.fields (in_row id row.key scene)) rows) ∙ (λ i. fields_none (2 + id) row.fields (in_row id row.key scene) i ++ rows_none id rows scene i)

  each_same : (known : List Proven) (store : ℕ) (rows : List Row) (scene : Scene) → waits (flat_map (λ row. write_all (map (write_item state pairs) (items_of known)) (in_row store row.key scene)) rows) ≡ flat_map (λ row. all_waiting (map (item_waiting state values) (items_of known))) rows
  each_same known store [] scene = refl
  each_same known store (row ∷ rows) scene = waits-append (write_all (map (write_item state pairs) (items_of known)) (in_row store row.key scene)) (flat_map (λ row. write_all (map (write_item state pairs) (items_of known)) (in_row store row.key scene)) rows) ∙ (λ i. block known (in_row store row.key scene) i ++ each_same known store rows scene i)

  one : (b : Bool) (id : ℕ) → (if b then [] else id ∷ []) ++ [] ≡ (if b then [] else id ∷ [])
  one true id = refl
  one false id = refl

  by_form : (y : Item-F Proven) → FormSame (map-Item Proven Item (λ k. k.0) y)
  by_form (level.Signal id name start) scene = refl
  by_form (level.Memo id name expr) scene = refl
  by_form (level.Effect id name expr) scene = refl
  by_form (level.Resource id name after keys codes) scene = refl
  by_form (level.Load id name resource key) scene = one _ id
  by_form (level.Store id name max fields starts) scene = rows_none id (state.rows id) scene
  by_form (level.Cleanup text) scene = refl
  by_form (level.Area id name owner known) scene = at (state.live owner)
    where
      at : (live : Bool) → waits (if live then write_all (map (write_item state pairs) (items_of known)) (in_area owner scene) else []) ≡ (if live then all_waiting (map (item_waiting state values) (items_of known)) else [])
      at true = block known (in_area owner scene)
      at false = refl
  by_form (level.If id cond known) scene = block known scene
  by_form (level.Each id store known) scene = each_same known store (state.rows store) scene
  by_form (level.Element tag closed attrs known) scene = waits-append (flat_map (write_attr scene) attrs) (write_all (map (write_item state pairs) (items_of known)) scene) ∙ (λ i. attrs_none attrs scene i ++ block known scene i)
  by_form (level.Text text) scene = refl
  by_form (level.Shown id expr) scene = refl

  item_same : (item : Item) → ItemSame item
  item_same = ind-Item ItemSame (λ x y is. subst (λ z. ItemSame (roll-Item z)) is (rolled (map-Item Proven Item (λ k. k.0) y) (by_form y)))

  pub items_wait : (items : List Item) (scene : Scene) → waits (write_items state pairs items scene) ≡ items_waiting state values items
  items_wait [] scene = refl
  items_wait (item ∷ items) scene = waits-append (write_item state pairs item scene) (write_items state pairs items scene) ∙ (λ i. item_same item scene i ++ items_wait items scene i)

pub same_pending : (component : Component) (held : Held) → (if is_live held 0 then items_waiting (state_of held) (scratch component held) component.items else []) ≡ pending component held
same_pending component held = at (is_live held 0)
  where
    at : (live : Bool) → (if live then items_waiting (state_of held) (scratch component held) component.items else []) ≡ flat_map (λ w. pending_step (scratch component held) w.id w.says) (if live then write_items (state_of held) (pairs_among component.items) component.items at_top else [])
    at true = sym (items_wait (state_of held) (pairs_among component.items) (scratch component held) component.items at_top)
    at false = refl
