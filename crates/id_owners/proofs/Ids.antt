-- The ids that are told of are those that the items take.
use Rattle.std.proofs.Common.{◌≡◌, ℕ, suc, ◌+◌, List, [], ◌∷◌, ◌++◌, map, length, Some, refl, sym, ap, subst, ◌∙◌, arith}
use Rattle.std.specs.List.{flat_map, concat, range_with_len}
use Rattle.values.specs.declared.code.Code.{Code}
use Rattle.component_items.specs.declared.component.Attr.{Attr}
use Rattle.component_items.specs.declared.component.Attr.TheVariants as attr
use Rattle.component_items.specs.declared.component.Item.{Item}
use Rattle.component_items.specs.declared.component.Item.TheOpen as level
use Rattle.component_items.specs.declared.component.Item.TheOpen.{Item-F}
use Rattle.component_items.specs.declared.component.Item.TheViews.{roll-Item}
use Rattle.component_items.specs.declared.component.Item.TheFolds.{fold-roll-Item, map-Item, ind-Item}
use Rattle.component_items.specs.Ids.{attr_ids, ids_step, item_ids, ids_in}
use Rattle.plain_evaluation.specs.Origins.{Around, Origin, tell_attr, tell_fields, tell_all, tell_step, tell_item, tell_items}
use Rattle.plain_evaluation.proofs.Lookup.{ids_of, ids_of-append, store_ids}

ids_layer : (x : Item-F Item) → item_ids (roll-Item x) ≡ ids_step (map-Item Item (List ℕ) item_ids x)
unfolding item_ids
ids_layer x = fold-roll-Item (List ℕ) ids_step x

fields_told : (first : ℕ) (fields : List ℕ) (around : Around) → ids_of (tell_fields first fields around) ≡ range_with_len first (length fields)
fields_told first [] around = refl
fields_told first (name ∷ fields) around =
    ap (λ more. first ∷ more) (fields_told (suc first) fields around)
    ∙ ap (λ k. first ∷ range_with_len k (length fields)) {x = suc first} {y = first + 1} (omega arith)

attrs_told : (attrs : List Attr) (around : Around) → ids_of (flat_map (tell_attr around) attrs) ≡ flat_map attr_ids attrs
attrs_told [] around = refl
attrs_told (attr.Bare name ∷ attrs) around = attrs_told attrs around
attrs_told (attr.Fixed name text ∷ attrs) around = attrs_told attrs around
attrs_told (attr.Shown name id expr ∷ attrs) around = ap (λ more. id ∷ more) (attrs_told attrs around)

module _ (pairs : ℕ → List (Code × Code)) where
  abbrev IsTold : Item → Type 0
  IsTold item = (around : Around) → ids_of (tell_item pairs item around) ≡ item_ids item

  abbrev Proven : Type 0
  Proven = (item : Item) × IsTold item

  abbrev items_of : List Proven → List Item
  items_of known = map (λ k. k.0) known

  layer : (x : Item-F Item) (around : Around) → tell_item pairs (roll-Item x) around ≡ tell_step pairs (map-Item Item (Around → List (ℕ × Origin)) (tell_item pairs) x) around
  unfolding tell_item
  layer x around = ap (λ f. f around) (fold-roll-Item (Around → List (ℕ × Origin)) (tell_step pairs) x)

  inner : (known : List Proven) (around : Around) → ids_of (tell_all (map (tell_item pairs) (items_of known)) around) ≡ concat (map item_ids (items_of known))
  inner [] around = refl
  inner (k ∷ known) around =
      ids_of-append (tell_item pairs k.0 around) (tell_all (map (tell_item pairs) (items_of known)) around)
      ∙ ap (λ ids. ids ++ ids_of (tell_all (map (tell_item pairs) (items_of known)) around)) (k.1 around)
      ∙ ap (λ ids. item_ids k.0 ++ ids) (inner known around)

  by_form : (y : Item-F Proven) (around : Around) → ids_of (tell_step pairs (map-Item Item (Around → List (ℕ × Origin)) (tell_item pairs) (map-Item Proven Item (λ k. k.0) y)) around) ≡ ids_step (map-Item Item (List ℕ) item_ids (map-Item Proven Item (λ k. k.0) y))
  by_form (level.Signal id name start) around = refl
  by_form (level.Memo id name expr) around = refl
  by_form (level.Effect id name expr) around = refl
  by_form (level.Resource id name after keys values) around = refl
  by_form (level.Load id name resource key) around = refl
  by_form (level.Store id name max fields starts) around = ap (λ more. id ∷ suc id ∷ more) (fields_told (2 + id) fields (record around { store = Some id })) ∙ store_ids id (length fields)
  by_form (level.Cleanup text) around = refl
  by_form (level.Area id name owner known) around = ap (λ more. id ∷ more) (inner known (record around { owner = owner }))
  by_form (level.If id cond known) around = ap (λ more. id ∷ more) (inner known around)
  by_form (level.Each id store known) around = ap (λ more. id ∷ more) (inner known (record around { store = Some store }))
  by_form (level.Element tag closed attrs known) around =
      ids_of-append (flat_map (tell_attr around) attrs) (tell_all (map (tell_item pairs) (items_of known)) around)
      ∙ ap (λ ids. ids ++ ids_of (tell_all (map (tell_item pairs) (items_of known)) around)) (attrs_told attrs around)
      ∙ ap (λ ids. flat_map attr_ids attrs ++ ids) (inner known around)
  by_form (level.Text text) around = refl
  by_form (level.Shown id expr) around = refl

  item_told : (item : Item) → IsTold item
  item_told = ind-Item IsTold (λ x y is. subst (λ z. IsTold (roll-Item z)) is (λ around. ap ids_of (layer (map-Item Proven Item (λ k. k.0) y) around) ∙ by_form y around ∙ sym (ids_layer (map-Item Proven Item (λ k. k.0) y))))

  pub items_told : (items : List Item) (around : Around) → ids_of (tell_items pairs items around) ≡ ids_in items
  items_told [] around = refl
  items_told (item ∷ items) around =
      ids_of-append (tell_item pairs item around) (tell_items pairs items around)
      ∙ ap (λ ids. ids ++ ids_of (tell_items pairs items around)) (item_told item around)
      ∙ ap (λ ids. item_ids item ++ ids) (items_told items around)
