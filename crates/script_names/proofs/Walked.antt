-- The names that each form of item declares.
use Rattle.std.proofs.Common.{◌≡◌, ℕ, Bool, List, [], ◌∷◌, ◌++◌, ap, ◌∙◌}
use Rattle.std.proofs.lemmas.List.Folds.{flat_map-map}
use Rattle.values.specs.declared.code.Code.{Code}
use Rattle.values.specs.declared.expr.Expr.{Expr}
use Rattle.component_items.specs.declared.component.Attr.{Attr}
use Rattle.component_items.specs.declared.component.Item.{Item}
use Rattle.component_items.specs.declared.component.Item.TheVariants.{Signal, Memo, Effect, Resource, Cleanup, Load, Store, Area, If, Each, Element, Text, Shown}
use Rattle.component_items.proofs.FoldLemmas.{fold-Signal, fold-Memo, fold-Effect, fold-Resource, fold-Cleanup, fold-Load, fold-Store, fold-Area, fold-If, fold-Each, fold-Element, fold-Text, fold-Shown}
use Rattle.script_meaning.specs.Names.{a_signal, a_memo, a_load, a_store, an_area, another, declared, names_step, item_names, names_in}

module _ (owner : ℕ) where
  pub of_signal : (id name : ℕ) (start : Code) → item_names (Signal id name start) owner ≡ declared owner name (a_signal id)
  unfolding item_names
  of_signal id name start = ap (λ f. f owner) (fold-Signal names_step id name start)

  pub of_memo : (id name : ℕ) (expr : Expr) → item_names (Memo id name expr) owner ≡ declared owner name (a_memo id)
  unfolding item_names
  of_memo id name expr = ap (λ f. f owner) (fold-Memo names_step id name expr)

  pub of_effect : (id name : ℕ) (expr : Expr) → item_names (Effect id name expr) owner ≡ declared owner name another
  unfolding item_names
  of_effect id name expr = ap (λ f. f owner) (fold-Effect names_step id name expr)

  pub of_resource : (id name after : ℕ) (keys values : List Code) → item_names (Resource id name after keys values) owner ≡ declared owner name another
  unfolding item_names
  of_resource id name after keys values = ap (λ f. f owner) (fold-Resource names_step id name after keys values)

  pub of_load : (id name resource : ℕ) (key : Expr) → item_names (Load id name resource key) owner ≡ declared owner name (a_load id)
  unfolding item_names
  of_load id name resource key = ap (λ f. f owner) (fold-Load names_step id name resource key)

  pub of_store : (id name max : ℕ) (fields : List ℕ) (starts : List Code) → item_names (Store id name max fields starts) owner ≡ declared owner name (a_store id fields starts)
  unfolding item_names
  of_store id name max fields starts = ap (λ f. f owner) (fold-Store names_step id name max fields starts)

  pub of_area : (id name inside : ℕ) (items : List Item) → item_names (Area id name inside items) owner ≡ declared owner name (an_area inside) ++ names_in inside items
  unfolding item_names
  of_area id name inside items = ap (λ f. f owner) (fold-Area names_step id name inside items) ∙ ap (λ ds. record { owner = owner; name = name; what = an_area inside } ∷ ds) (flat_map-map (λ f. f inside) item_names items)

  pub of_element : (tag : ℕ) (closed : Bool) (attrs : List Attr) (items : List Item) → item_names (Element tag closed attrs items) owner ≡ names_in owner items
  unfolding item_names
  of_element tag closed attrs items = ap (λ f. f owner) (fold-Element names_step tag closed attrs items) ∙ flat_map-map (λ f. f owner) item_names items

  pub of_if : (id : ℕ) (cond : Expr) (items : List Item) → item_names (If id cond items) owner ≡ []
  unfolding item_names
  of_if id cond items = ap (λ f. f owner) (fold-If names_step id cond items)

  pub of_each : (id store : ℕ) (items : List Item) → item_names (Each id store items) owner ≡ []
  unfolding item_names
  of_each id store items = ap (λ f. f owner) (fold-Each names_step id store items)

  pub of_cleanup : (text : ℕ) → item_names (Cleanup text) owner ≡ []
  unfolding item_names
  of_cleanup text = ap (λ f. f owner) (fold-Cleanup names_step text)

  pub of_text : (text : ℕ) → item_names (Text text) owner ≡ []
  unfolding item_names
  of_text text = ap (λ f. f owner) (fold-Text names_step text)

  pub of_shown : (id : ℕ) (expr : Expr) → item_names (Shown id expr) owner ≡ []
  unfolding item_names
  of_shown id expr = ap (λ f. f owner) (fold-Shown names_step id expr)
