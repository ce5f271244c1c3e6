-- The owners of the ids of each form of item.
use Rattle.std.proofs.Common.{◌≡◌, ◌<◌, ℕ, suc, ◌+◌, Bool, List, [], ◌∷◌, ◌++◌, Some, map, length, drop, drop-cons, refl, ap, ◌∙◌, arith}
use Rattle.std.specs.List.{flat_map}
use Rattle.values.specs.declared.code.Code.{Code}
use Rattle.values.specs.declared.expr.Expr.{Expr}
use Rattle.component_items.specs.declared.component.Attr.{Attr}
use Rattle.component_items.specs.declared.component.Item.{Item}
use Rattle.component_items.specs.declared.component.Item.TheVariants.{Signal, Memo, Effect, Resource, Cleanup, Load, Store, Area, If, Each, Element, Text, Shown}
use Rattle.component_items.proofs.FoldLemmas.{at-Signal, at-Memo, at-Effect, at-Resource, at-Load, at-Cleanup, at-Store, at-Area, at-If, at-Each, at-Element, at-Text, at-Shown}
use Rattle.plain_evaluation.specs.Origins.{Around, tell_attr, tell_all, tell_step, tell_item, tell_items}
use Rattle.id_owners.specs.Table.{owners_told, in_owner, item_owned, items_owned}
use Rattle.id_owners.proofs.Alike.{owners-append, fields_owned, items_alike}

pub owner_more : (owner : ℕ) (fields : List ℕ) (i : ℕ) → i < length fields → map (λ field. owner) (drop i fields) ≡ owner ∷ map (λ field. owner) (drop (i + 1) fields)
owner_more owner fields i within = ap (map (λ field. owner)) (drop-cons fields i 0 within) ∙ ap (λ k. owner ∷ map (λ field. owner) (drop k fields)) {x = suc i} {y = i + 1} (omega arith)

all_told : (pairs : ℕ → List (Code × Code)) (items : List Item) (around : Around) → tell_all (map (tell_item pairs) items) around ≡ tell_items pairs items around
all_told pairs [] around = refl
all_told pairs (item ∷ items) around = ap (λ ps. tell_item pairs item around ++ ps) (all_told pairs items around)

module _ (item : Item) (o : ℕ) where
  abbrev none : ℕ → List (Code × Code)
  none = λ resource. []

  form : {X : Item} → item ≡ X → item_owned item o ≡ item_owned X o
  form is = ap (λ x. item_owned x o) is

  pub owned-Signal : (id name : ℕ) (start : Code) → item ≡ Signal id name start → item_owned item o ≡ o ∷ []
  unfolding tell_item
  owned-Signal id name start is = form is ∙ ap owners_told (at-Signal (tell_step none) id name start (in_owner o))

  pub owned-Memo : (id name : ℕ) (expr : Expr) → item ≡ Memo id name expr → item_owned item o ≡ o ∷ []
  unfolding tell_item
  owned-Memo id name expr is = form is ∙ ap owners_told (at-Memo (tell_step none) id name expr (in_owner o))

  pub owned-Effect : (id name : ℕ) (expr : Expr) → item ≡ Effect id name expr → item_owned item o ≡ o ∷ []
  unfolding tell_item
  owned-Effect id name expr is = form is ∙ ap owners_told (at-Effect (tell_step none) id name expr (in_owner o))

  pub owned-Resource : (id name after : ℕ) (keys values : List Code) → item ≡ Resource id name after keys values → item_owned item o ≡ o ∷ []
  unfolding tell_item
  owned-Resource id name after keys values is = form is ∙ ap owners_told (at-Resource (tell_step none) id name after keys values (in_owner o))

  pub owned-Shown : (id : ℕ) (expr : Expr) → item ≡ Shown id expr → item_owned item o ≡ o ∷ []
  unfolding tell_item
  owned-Shown id expr is = form is ∙ ap owners_told (at-Shown (tell_step none) id expr (in_owner o))

  pub owned-Load : (id name resource : ℕ) (key : Expr) → item ≡ Load id name resource key → item_owned item o ≡ o ∷ o ∷ []
  unfolding tell_item
  owned-Load id name resource key is = form is ∙ ap owners_told (at-Load (tell_step none) id name resource key (in_owner o))

  pub owned-Store : (id name max : ℕ) (fields : List ℕ) (starts : List Code) → item ≡ Store id name max fields starts → item_owned item o ≡ (o ∷ o ∷ []) ++ map (λ field. o) fields
  unfolding tell_item
  owned-Store id name max fields starts is = form is ∙ ap owners_told (at-Store (tell_step none) id name max fields starts (in_owner o)) ∙ ap (λ os. o ∷ o ∷ os) (fields_owned (2 + id) fields (record (in_owner o) { store = Some id }))

  pub owned-Cleanup : (text : ℕ) → item ≡ Cleanup text → item_owned item o ≡ []
  unfolding tell_item
  owned-Cleanup text is = form is ∙ ap owners_told (at-Cleanup (tell_step none) text (in_owner o))

  pub owned-Text : (text : ℕ) → item ≡ Text text → item_owned item o ≡ []
  unfolding tell_item
  owned-Text text is = form is ∙ ap owners_told (at-Text (tell_step none) text (in_owner o))

  -- what is inside an area is of that area
  pub owned-Area : (id name owner : ℕ) (items : List Item) → item ≡ Area id name owner items → item_owned item o ≡ (o ∷ []) ++ items_owned items owner
  unfolding tell_item
  owned-Area id name owner items is = form is ∙ ap owners_told (at-Area (tell_step none) id name owner items (in_owner o)) ∙ ap (λ ps. o ∷ owners_told ps) (all_told none items (in_owner owner))

  pub owned-If : (id : ℕ) (cond : Expr) (items : List Item) → item ≡ If id cond items → item_owned item o ≡ (o ∷ []) ++ items_owned items o
  unfolding tell_item
  owned-If id cond items is = form is ∙ ap owners_told (at-If (tell_step none) id cond items (in_owner o)) ∙ ap (λ ps. o ∷ owners_told ps) (all_told none items (in_owner o))

  pub owned-Each : (id store : ℕ) (items : List Item) → item ≡ Each id store items → item_owned item o ≡ (o ∷ []) ++ items_owned items o
  unfolding tell_item
  owned-Each id store items is = form is ∙ ap owners_told (at-Each (tell_step none) id store items (in_owner o)) ∙ ap (λ ps. o ∷ owners_told ps) (all_told none items (record (in_owner o) { store = Some store })) ∙ ap (λ os. o ∷ os) (items_alike none none items (record (in_owner o) { store = Some store }) (in_owner o) refl)

  pub owned-Element : (tag : ℕ) (closed : Bool) (attrs : List Attr) (items : List Item) → item ≡ Element tag closed attrs items → item_owned item o ≡ owners_told (flat_map (tell_attr (in_owner o)) attrs) ++ items_owned items o
  unfolding tell_item
  owned-Element tag closed attrs items is = form is ∙ ap owners_told (at-Element (tell_step none) tag closed attrs items (in_owner o)) ∙ ap (λ ps. owners_told (flat_map (tell_attr (in_owner o)) attrs ++ ps)) (all_told none items (in_owner o)) ∙ owners-append (flat_map (tell_attr (in_owner o)) attrs) (tell_items none items (in_owner o))
