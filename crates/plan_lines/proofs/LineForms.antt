-- What is written out for each form of item, and for lists an element at a time.
use Rattle.std.proofs.Common.{◌≡◌, ℕ, suc, ◌+◌, ◌<◌, Bool, true, false, if◌then◌else◌, List, [], ◌∷◌, ◌++◌, map, length, drop, refl, ap, ◌∙◌, drop-cons, arith}
use Rattle.std.specs.List.{flat_map}
use Rattle.std.proofs.lemmas.List.{map-append}
use Rattle.values.specs.declared.code.Code.{Code}
use Rattle.values.specs.declared.code.Code.TheVariants.{Empty}
use Rattle.values.specs.declared.expr.Expr.{Expr}
use Rattle.values.specs.declared.plan.Kind.TheVariants as kind
use Rattle.store_fields.specs.declared.row.Row.{Row}
use Rattle.component_items.specs.declared.component.Attr.{Attr}
use Rattle.component_items.specs.declared.component.Item.{Item}
use Rattle.component_items.specs.declared.component.Item.TheVariants.{Signal, Memo, Effect, Resource, Cleanup, Load, Store, Area, If, Each, Element, Text, Shown}
use Rattle.component_items.proofs.FoldLemmas.{at-Signal, at-Memo, at-Effect, at-Resource, at-Load, at-Cleanup, at-Store, at-Area, at-If, at-Each, at-Element, at-Text, at-Shown}
use Rattle.plain_evaluation.specs.Written.{State, Scene, in_row, in_area, write_attr, write_fields, write_all, write_step, write_item, write_items}
use Rattle.plan_lines.specs.Lines.{Placed, placed_of, source_placed, computed_placed}

all_items : (state : State) (pairs : ℕ → List (Code × Code)) (items : List Item) (scene : Scene) → write_all (map (write_item state pairs) items) scene ≡ write_items state pairs items scene
all_items state pairs [] scene = refl
all_items state pairs (item ∷ items) scene = ap (λ ws. write_item state pairs item scene ++ ws) (all_items state pairs items scene)

module _ (state : State) (pairs : ℕ → List (Code × Code)) (item : Item) (scene : Scene) where
  abbrev lines : Item → List Placed
  lines x = map placed_of (write_item state pairs x scene)

  abbrev lines_of : List Item → Scene → List Placed
  lines_of items scene = map placed_of (write_items state pairs items scene)

  form : {X : Item} → item ≡ X → lines item ≡ lines X
  form is = ap lines is

  pub lines-Signal : (id name : ℕ) (start : Code) → item ≡ Signal id name start → lines item ≡ source_placed id scene kind.Signal ∷ []
  unfolding write_item
  lines-Signal id name start is = form is ∙ ap (map placed_of) (at-Signal (write_step state pairs) id name start scene)

  pub lines-Memo : (id name : ℕ) (expr : Expr) → item ≡ Memo id name expr → lines item ≡ computed_placed id scene kind.Memo expr ∷ []
  unfolding write_item
  lines-Memo id name expr is = form is ∙ ap (map placed_of) (at-Memo (write_step state pairs) id name expr scene)

  pub lines-Effect : (id name : ℕ) (expr : Expr) → item ≡ Effect id name expr → lines item ≡ computed_placed id scene kind.Effect expr ∷ []
  unfolding write_item
  lines-Effect id name expr is = form is ∙ ap (map placed_of) (at-Effect (write_step state pairs) id name expr scene)

  pub lines-Resource : (id name after : ℕ) (keys values : List Code) → item ≡ Resource id name after keys values → lines item ≡ []
  unfolding write_item
  lines-Resource id name after keys values is = form is ∙ ap (map placed_of) (at-Resource (write_step state pairs) id name after keys values scene)

  pub lines-Load : (id name resource : ℕ) (key : Expr) → item ≡ Load id name resource key → lines item ≡ (computed_placed (id + 1) scene kind.Memo key ∷ []) ++ (source_placed id scene kind.Load ∷ [])
  unfolding write_item
  lines-Load id name resource key is = form is ∙ ap (map placed_of) (at-Load (write_step state pairs) id name resource key scene) ∙ ap (λ k. computed_placed k scene kind.Memo key ∷ source_placed id scene kind.Load ∷ []) {x = suc id} {y = id + 1} (omega arith)

  pub lines-Store : (id name max : ℕ) (fields : List ℕ) (starts : List Code) → item ≡ Store id name max fields starts → lines item ≡ map placed_of (flat_map (λ row. write_fields (2 + id) row.fields (in_row id row.key scene)) (state.rows id))
  unfolding write_item
  lines-Store id name max fields starts is = form is ∙ ap (map placed_of) (at-Store (write_step state pairs) id name max fields starts scene)

  pub lines-Cleanup : (text : ℕ) → item ≡ Cleanup text → lines item ≡ []
  unfolding write_item
  lines-Cleanup text is = form is ∙ ap (map placed_of) (at-Cleanup (write_step state pairs) text scene)

  pub lines-Text : (text : ℕ) → item ≡ Text text → lines item ≡ []
  unfolding write_item
  lines-Text text is = form is ∙ ap (map placed_of) (at-Text (write_step state pairs) text scene)

  area : (id name owner : ℕ) (items : List Item) → item ≡ Area id name owner items → lines item ≡ map placed_of (if state.live owner then write_items state pairs items (in_area owner scene) else [])
  unfolding write_item
  area id name owner items is = form is ∙ ap (map placed_of) (at-Area (write_step state pairs) id name owner items scene) ∙ ap (λ ws. map placed_of (if state.live owner then ws else [])) (all_items state pairs items (in_area owner scene))

  pub lines-Area_live : (id name owner : ℕ) (items : List Item) → item ≡ Area id name owner items → state.live owner ≡ true → lines item ≡ lines_of items (in_area owner scene)
  lines-Area_live id name owner items is live = area id name owner items is ∙ ap (λ (b : Bool). map placed_of (if b then write_items state pairs items (in_area owner scene) else [])) live

  pub lines-Area_dead : (id name owner : ℕ) (items : List Item) → item ≡ Area id name owner items → state.live owner ≡ false → lines item ≡ []
  lines-Area_dead id name owner items is dead = area id name owner items is ∙ ap (λ (b : Bool). map placed_of (if b then write_items state pairs items (in_area owner scene) else [])) dead

  pub lines-If : (id : ℕ) (cond : Expr) (items : List Item) → item ≡ If id cond items → lines item ≡ (computed_placed id scene kind.Memo cond ∷ []) ++ lines_of items scene
  unfolding write_item
  lines-If id cond items is = form is ∙ ap (map placed_of) (at-If (write_step state pairs) id cond items scene) ∙ ap (λ ws. computed_placed id scene kind.Memo cond ∷ map placed_of ws) (all_items state pairs items scene)

  pub lines-Each : (id store : ℕ) (items : List Item) → item ≡ Each id store items → lines item ≡ map placed_of (flat_map (λ row. write_items state pairs items (in_row store row.key scene)) (state.rows store))
  unfolding write_item
  lines-Each id store items is = form is ∙ ap (map placed_of) (at-Each (write_step state pairs) id store items scene) ∙ (λ i. map placed_of (flat_map (λ (row : Row). all_items state pairs items (in_row store row.key scene) i) (state.rows store)))

  pub lines-Element : (tag : ℕ) (closed : Bool) (attrs : List Attr) (items : List Item) → item ≡ Element tag closed attrs items → lines item ≡ map placed_of (flat_map (write_attr scene) attrs) ++ lines_of items scene
  unfolding write_item
  lines-Element tag closed attrs items is = form is ∙ ap (map placed_of) (at-Element (write_step state pairs) tag closed attrs items scene) ∙ ap (λ ws. map placed_of (flat_map (write_attr scene) attrs ++ ws)) (all_items state pairs items scene) ∙ map-append placed_of (flat_map (write_attr scene) attrs) (write_items state pairs items scene)

  pub lines-Shown : (id : ℕ) (expr : Expr) → item ≡ Shown id expr → lines item ≡ computed_placed id scene kind.Memo expr ∷ []
  unfolding write_item
  lines-Shown id expr is = form is ∙ ap (map placed_of) (at-Shown (write_step state pairs) id expr scene)

-- the lines of a row's fields, one field at a time
pub fields_step : (first f : ℕ) (fields : List Code) (scene : Scene) → f < length fields → map placed_of (write_fields (first + f) (drop f fields) scene) ≡ source_placed (first + f) scene kind.Field ∷ map placed_of (write_fields (first + (f + 1)) (drop (f + 1) fields) scene)
fields_step first f fields scene within =
    ap (λ xs. map placed_of (write_fields (first + f) xs scene)) (drop-cons fields f Empty within)
    ∙ ap (λ k. source_placed (first + f) scene kind.Field ∷ map placed_of (write_fields k (drop (suc f) fields) scene)) {x = suc (first + f)} {y = first + (f + 1)} (omega arith)
    ∙ ap (λ k. source_placed (first + f) scene kind.Field ∷ map placed_of (write_fields (first + (f + 1)) (drop k fields) scene)) {x = suc f} {y = f + 1} (omega arith)
