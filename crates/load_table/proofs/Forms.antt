-- The loads of each form of item, and what is put at the end of a list.
use Rattle.std.proofs.Common.{◌≡◌, ℕ, Bool, List, [], ◌∷◌, ◌++◌, map, Result, OnOk, sym, ap, refl, ◌∙◌}
use Rattle.std.specs.List.{flat_map}
use Rattle.std.proofs.lemmas.List.{append-nil}
use Rattle.std.proofs.lemmas.Result.{on_ok_weaker}
use Rattle.values.specs.declared.code.Code.{Code}
use Rattle.values.specs.declared.expr.Expr.{Expr}
use Rattle.component_items.specs.declared.component.Attr.{Attr}
use Rattle.component_items.specs.declared.component.Item.{Item}
use Rattle.component_items.specs.declared.component.Item.TheVariants.{Signal, Memo, Effect, Resource, Cleanup, Load, Store, Area, If, Each, Element, Text, Shown}
use Rattle.component_items.proofs.FoldLemmas.{fold-Signal, fold-Memo, fold-Effect, fold-Resource, fold-Load, fold-Cleanup, fold-Store, fold-Area, fold-If, fold-Each, fold-Element, fold-Text, fold-Shown}
use Rattle.load_table.specs.Loads.{loads_step, item_loads, loads_among}

pub nothing_put : {A : Type 0} (old all : List A) → all ≡ [] → old ≡ old ++ all
nothing_put old all is = sym (append-nil old) ∙ ap (λ xs. old ++ xs) (sym is)

-- what a call put is all that is wanted
pub put_all : {T E A : Type 0} (r : Result T E) (old new part all : List A) → all ≡ part → OnOk r (new ≡ old ++ part) → OnOk r (new ≡ old ++ all)
put_all r old new part all is put = on_ok_weaker r (λ e. e ∙ ap (λ xs. old ++ xs) (sym is)) put

module _ (pairs : ℕ → List (Code × Code)) (after : ℕ → ℕ) (item : Item) where
  inner : (items : List Item) → flat_map (λ one. one) (map (item_loads pairs after) items) ≡ loads_among pairs after items
  inner [] = refl
  inner (one ∷ items) = ap (λ more. item_loads pairs after one ++ more) (inner items)

  form : {X : Item} → item ≡ X → item_loads pairs after item ≡ item_loads pairs after X
  form is = ap (item_loads pairs after) is

  pub loads-Signal : (id name : ℕ) (start : Code) → item ≡ Signal id name start → item_loads pairs after item ≡ []
  unfolding item_loads
  loads-Signal id name start is = form is ∙ fold-Signal (loads_step pairs after) id name start

  pub loads-Memo : (id name : ℕ) (expr : Expr) → item ≡ Memo id name expr → item_loads pairs after item ≡ []
  unfolding item_loads
  loads-Memo id name expr is = form is ∙ fold-Memo (loads_step pairs after) id name expr

  pub loads-Effect : (id name : ℕ) (expr : Expr) → item ≡ Effect id name expr → item_loads pairs after item ≡ []
  unfolding item_loads
  loads-Effect id name expr is = form is ∙ fold-Effect (loads_step pairs after) id name expr

  pub loads-Resource : (id name own_after : ℕ) (keys values : List Code) → item ≡ Resource id name own_after keys values → item_loads pairs after item ≡ []
  unfolding item_loads
  loads-Resource id name own_after keys values is = form is ∙ fold-Resource (loads_step pairs after) id name own_after keys values

  pub loads-Load : (id name resource : ℕ) (key : Expr) → item ≡ Load id name resource key → item_loads pairs after item ≡ record { id = id; resource = resource; after = after resource; pairs = pairs resource } ∷ []
  unfolding item_loads
  loads-Load id name resource key is = form is ∙ fold-Load (loads_step pairs after) id name resource key

  pub loads-Store : (id name max : ℕ) (fields : List ℕ) (starts : List Code) → item ≡ Store id name max fields starts → item_loads pairs after item ≡ []
  unfolding item_loads
  loads-Store id name max fields starts is = form is ∙ fold-Store (loads_step pairs after) id name max fields starts

  pub loads-Cleanup : (text : ℕ) → item ≡ Cleanup text → item_loads pairs after item ≡ []
  unfolding item_loads
  loads-Cleanup text is = form is ∙ fold-Cleanup (loads_step pairs after) text

  pub loads-Area : (id name owner : ℕ) (items : List Item) → item ≡ Area id name owner items → item_loads pairs after item ≡ loads_among pairs after items
  unfolding item_loads
  loads-Area id name owner items is = form is ∙ fold-Area (loads_step pairs after) id name owner items ∙ inner items

  pub loads-If : (id : ℕ) (cond : Expr) (items : List Item) → item ≡ If id cond items → item_loads pairs after item ≡ loads_among pairs after items
  unfolding item_loads
  loads-If id cond items is = form is ∙ fold-If (loads_step pairs after) id cond items ∙ inner items

  pub loads-Each : (id store : ℕ) (items : List Item) → item ≡ Each id store items → item_loads pairs after item ≡ loads_among pairs after items
  unfolding item_loads
  loads-Each id store items is = form is ∙ fold-Each (loads_step pairs after) id store items ∙ inner items

  pub loads-Element : (tag : ℕ) (closed : Bool) (attrs : List Attr) (items : List Item) → item ≡ Element tag closed attrs items → item_loads pairs after item ≡ loads_among pairs after items
  unfolding item_loads
  loads-Element tag closed attrs items is = form is ∙ fold-Element (loads_step pairs after) tag closed attrs items ∙ inner items

  pub loads-Text : (text : ℕ) → item ≡ Text text → item_loads pairs after item ≡ []
  unfolding item_loads
  loads-Text text is = form is ∙ fold-Text (loads_step pairs after) text

  pub loads-Shown : (id : ℕ) (expr : Expr) → item ≡ Shown id expr → item_loads pairs after item ≡ []
  unfolding item_loads
  loads-Shown id expr is = form is ∙ fold-Shown (loads_step pairs after) id expr
