-- The parts of a home by the form of the item.
use Rattle.std.proofs.Common.{◌≡◌, ℕ, Bool, if◌then◌else◌, List, [], ◌∷◌, ◌++◌, map, Option, refl, ap, ◌∙◌}
use Rattle.std.specs.List.{flat_map}
use Rattle.values.specs.declared.code.Code.{Code}
use Rattle.values.specs.declared.expr.Expr.{Expr}
use Rattle.values.specs.Evaluation.{truth}
use Rattle.component_items.specs.declared.component.Attr.{Attr}
use Rattle.component_items.specs.declared.component.Item.{Item}
use Rattle.component_items.specs.declared.component.Item.TheVariants.{Signal, Memo, Effect, Resource, Cleanup, Load, Store, Area, If, Each, Element, Text, Shown}
use Rattle.component_items.proofs.FoldLemmas.{at-Signal, at-Memo, at-Effect, at-Resource, at-Cleanup, at-Load, at-Store, at-Area, at-If, at-Each, at-Element, at-Text, at-Shown}
use Rattle.plain_evaluation.specs.Page.{View}
use Rattle.plain_evaluation.specs.Place.{place_at}
use Rattle.view_meaning.specs.Parts.{plain, shows, begins, begun, area, branch, each, attr_part, parts_joined, ending, parts_step, item_parts, items_parts}
use Rattle.view_slots.specs.Home.{rowless}

module _ (view : View) where
  pub parts-joined : (items : List Item) (key : Option Code) → parts_joined (map (item_parts view) items) key ≡ items_parts view items key
  parts-joined [] key = refl
  parts-joined (item ∷ items) key = ap (λ more. item_parts view item key ++ more) (parts-joined items key)

  pub parts-flat : (items : List Item) (key : Option Code) → items_parts view items key ≡ flat_map (λ item. item_parts view item key) items
  parts-flat [] key = refl
  parts-flat (item ∷ items) key = ap (λ more. item_parts view item key ++ more) (parts-flat items key)

  pub parts-Signal : (id name : ℕ) (start : Code) (key : Option Code) → item_parts view (Signal id name start) key ≡ []
  unfolding item_parts
  parts-Signal id name start key = at-Signal (parts_step view) id name start key

  pub parts-Memo : (id name : ℕ) (expr : Expr) (key : Option Code) → item_parts view (Memo id name expr) key ≡ []
  unfolding item_parts
  parts-Memo id name expr key = at-Memo (parts_step view) id name expr key

  pub parts-Effect : (id name : ℕ) (expr : Expr) (key : Option Code) → item_parts view (Effect id name expr) key ≡ []
  unfolding item_parts
  parts-Effect id name expr key = at-Effect (parts_step view) id name expr key

  pub parts-Resource : (id name after : ℕ) (keys values : List Code) (key : Option Code) → item_parts view (Resource id name after keys values) key ≡ []
  unfolding item_parts
  parts-Resource id name after keys values key = at-Resource (parts_step view) id name after keys values key

  pub parts-Load : (id name resource : ℕ) (expr : Expr) (key : Option Code) → item_parts view (Load id name resource expr) key ≡ []
  unfolding item_parts
  parts-Load id name resource expr key = at-Load (parts_step view) id name resource expr key

  pub parts-Store : (id name max : ℕ) (fields : List ℕ) (starts : List Code) (key : Option Code) → item_parts view (Store id name max fields starts) key ≡ []
  unfolding item_parts
  parts-Store id name max fields starts key = at-Store (parts_step view) id name max fields starts key

  pub parts-Cleanup : (text : ℕ) (key : Option Code) → item_parts view (Cleanup text) key ≡ []
  unfolding item_parts
  parts-Cleanup text key = at-Cleanup (parts_step view) text key

  pub parts-Area : (id name owner : ℕ) (items : List Item) (key : Option Code) → item_parts view (Area id name owner items) key ≡ (if view.live owner then area (place_at id key) ∷ items_parts view items key else [])
  unfolding item_parts
  parts-Area id name owner items key = at-Area (parts_step view) id name owner items key ∙ ap (λ inner. if view.live owner then area (place_at id key) ∷ inner else []) (parts-joined items key)

  pub parts-If : (id : ℕ) (cond : Expr) (items : List Item) (key : Option Code) → item_parts view (If id cond items) key ≡ (if truth (view.value (place_at id key)) then branch (place_at id key) ∷ items_parts view items key else [])
  unfolding item_parts
  parts-If id cond items key = at-If (parts_step view) id cond items key ∙ ap (λ inner. if truth (view.value (place_at id key)) then branch (place_at id key) ∷ inner else []) (parts-joined items key)

  pub parts-Element : (tag : ℕ) (closed : Bool) (attrs : List Attr) (items : List Item) (key : Option Code) → item_parts view (Element tag closed attrs items) key ≡ begins tag ∷ map (attr_part key) attrs ++ begun ∷ items_parts view items key ++ ending tag closed
  unfolding item_parts
  parts-Element tag closed attrs items key = at-Element (parts_step view) tag closed attrs items key ∙ ap (λ inner. begins tag ∷ map (attr_part key) attrs ++ begun ∷ inner ++ ending tag closed) (parts-joined items key)

  pub parts-Text : (text : ℕ) (key : Option Code) → item_parts view (Text text) key ≡ plain text ∷ []
  unfolding item_parts
  parts-Text text key = at-Text (parts_step view) text key

  pub parts-Shown : (id : ℕ) (expr : Expr) (key : Option Code) → item_parts view (Shown id expr) key ≡ shows (place_at id key) ∷ []
  unfolding item_parts
  parts-Shown id expr key = at-Shown (parts_step view) id expr key

-- of an `each` a home has no row
pub parts-Each : (view : View) (id store : ℕ) (items : List Item) (key : Option Code) → item_parts (rowless view) (Each id store items) key ≡ each id store ∷ []
unfolding item_parts
parts-Each view id store items key = at-Each (parts_step (rowless view)) id store items key
