-- Which owner an id has depends on the owner around its item, and on nothing else around it.
use Rattle.std.proofs.Common.{◌≡◌, ℕ, zero, suc, ◌+◌, List, [], ◌∷◌, ◌++◌, Some, map, length, get_or, refl, sym, ap, subst, ◌∙◌, arith}
use Rattle.std.specs.List.{flat_map, range_with_len}
use Rattle.std.proofs.lemmas.List.{map-append}
use Rattle.values.specs.declared.code.Code.{Code}
use Rattle.component_items.specs.declared.component.Attr.{Attr}
use Rattle.component_items.specs.declared.component.Attr.TheVariants as attr
use Rattle.component_items.specs.declared.component.Component.{Component}
use Rattle.component_items.specs.declared.component.Item.{Item}
use Rattle.component_items.specs.declared.component.Item.TheOpen as level
use Rattle.component_items.specs.declared.component.Item.TheOpen.{Item-F}
use Rattle.component_items.specs.declared.component.Item.TheViews.{roll-Item}
use Rattle.component_items.specs.declared.component.Item.TheFolds.{fold-roll-Item, map-Item, ind-Item}
use Rattle.component_items.specs.Ids.{ids_in}
use Rattle.component_items.specs.Kept.{IsKept}
use Rattle.plain_evaluation.specs.Lookup.{found_in}
use Rattle.plain_evaluation.specs.Origins.{Around, Origin, no_origin, tell_attr, tell_fields, tell_all, tell_step, tell_item, tell_items, top_around}
use Rattle.plain_evaluation.specs.Written.{pairs_among}
use Rattle.plain_evaluation.proofs.Lookup.{ids_of, length_ids}
use Rattle.id_owners.proofs.Ids.{items_told}
use Rattle.plan_meaning.specs.Told.{owner_of_id}
use Rattle.id_owners.specs.Table.{owners_told, in_owner, items_owned, owners_by_id}

pub owners-append : (xs ys : List (ℕ × Origin)) → owners_told (xs ++ ys) ≡ owners_told xs ++ owners_told ys
owners-append xs ys = map-append (λ p. p.1.around.owner) xs ys

pub fields_owned : (id : ℕ) (fields : List ℕ) (around : Around) → owners_told (tell_fields id fields around) ≡ map (λ field. around.owner) fields
fields_owned id [] around = refl
fields_owned id (name ∷ fields) around = ap (λ os. around.owner ∷ os) (fields_owned (suc id) fields around)

attrs_alike : (attrs : List Attr) (a b : Around) → a.owner ≡ b.owner → owners_told (flat_map (tell_attr a) attrs) ≡ owners_told (flat_map (tell_attr b) attrs)
attrs_alike [] a b same = refl
attrs_alike (attr.Bare name ∷ attrs) a b same = attrs_alike attrs a b same
attrs_alike (attr.Fixed name text ∷ attrs) a b same = attrs_alike attrs a b same
attrs_alike (attr.Shown name id expr ∷ attrs) a b same = λ i. same i ∷ attrs_alike attrs a b same i

module _ (p q : ℕ → List (Code × Code)) where
  abbrev IsAlike : Item → Type 0
  IsAlike item = (a b : Around) → a.owner ≡ b.owner → owners_told (tell_item p item a) ≡ owners_told (tell_item q item b)

  abbrev Proven : Type 0
  Proven = (item : Item) × IsAlike item

  abbrev items_of : List Proven → List Item
  items_of known = map (λ k. k.0) known

  layer : (pairs : ℕ → List (Code × Code)) (x : Item-F Item) (around : Around) → tell_item pairs (roll-Item x) around ≡ tell_step pairs (map-Item Item (Around → List (ℕ × Origin)) (tell_item pairs) x) around
  unfolding tell_item
  layer pairs x around = ap (λ f. f around) (fold-roll-Item (Around → List (ℕ × Origin)) (tell_step pairs) x)

  inner : (known : List Proven) (a b : Around) → a.owner ≡ b.owner → owners_told (tell_all (map (tell_item p) (items_of known)) a) ≡ owners_told (tell_all (map (tell_item q) (items_of known)) b)
  inner [] a b same = refl
  inner (k ∷ known) a b same =
      owners-append (tell_item p k.0 a) (tell_all (map (tell_item p) (items_of known)) a)
      ∙ (λ i. k.1 a b same i ++ inner known a b same i)
      ∙ sym (owners-append (tell_item q k.0 b) (tell_all (map (tell_item q) (items_of known)) b))

  by_form : (y : Item-F Proven) (a b : Around) → a.owner ≡ b.owner → owners_told (tell_step p (map-Item Item (Around → List (ℕ × Origin)) (tell_item p) (map-Item Proven Item (λ k. k.0) y)) a) ≡ owners_told (tell_step q (map-Item Item (Around → List (ℕ × Origin)) (tell_item q) (map-Item Proven Item (λ k. k.0) y)) b)
  by_form (level.Signal id name start) a b same = λ i. same i ∷ []
  by_form (level.Memo id name expr) a b same = λ i. same i ∷ []
  by_form (level.Effect id name expr) a b same = λ i. same i ∷ []
  by_form (level.Resource id name after keys values) a b same = λ i. same i ∷ []
  by_form (level.Load id name resource key) a b same = λ i. same i ∷ same i ∷ []
  by_form (level.Store id name max fields starts) a b same =
      ap (λ os. a.owner ∷ a.owner ∷ os) (fields_owned (2 + id) fields (record a { store = Some id }))
      ∙ (λ i. same i ∷ same i ∷ map (λ field. same i) fields)
      ∙ ap (λ os. b.owner ∷ b.owner ∷ os) (sym (fields_owned (2 + id) fields (record b { store = Some id })))
  by_form (level.Cleanup text) a b same = refl
  by_form (level.Area id name owner known) a b same = λ i. same i ∷ inner known (record a { owner = owner }) (record b { owner = owner }) refl i
  by_form (level.If id cond known) a b same = λ i. same i ∷ inner known a b same i
  by_form (level.Each id store known) a b same = λ i. same i ∷ inner known (record a { store = Some store }) (record b { store = Some store }) same i
  by_form (level.Element tag closed attrs known) a b same =
      owners-append (flat_map (tell_attr a) attrs) (tell_all (map (tell_item p) (items_of known)) a)
      ∙ (λ i. attrs_alike attrs a b same i ++ inner known a b same i)
      ∙ sym (owners-append (flat_map (tell_attr b) attrs) (tell_all (map (tell_item q) (items_of known)) b))
  by_form (level.Text text) a b same = refl
  by_form (level.Shown id expr) a b same = λ i. same i ∷ []

  item_alike : (item : Item) → IsAlike item
  item_alike = ind-Item IsAlike (λ x y is. subst (λ z. IsAlike (roll-Item z)) is (λ a b same. ap owners_told (layer p (map-Item Proven Item (λ k. k.0) y) a) ∙ by_form y a b same ∙ sym (ap owners_told (layer q (map-Item Proven Item (λ k. k.0) y) b))))

  pub items_alike : (items : List Item) (a b : Around) → a.owner ≡ b.owner → owners_told (tell_items p items a) ≡ owners_told (tell_items q items b)
  items_alike [] a b same = refl
  items_alike (item ∷ items) a b same =
      owners-append (tell_item p item a) (tell_items p items a)
      ∙ (λ i. item_alike item a b same i ++ items_alike items a b same i)
      ∙ sym (owners-append (tell_item q item b) (tell_items q items b))

-- ---- where ids are their positions, what one has is found by its position

owner_at_place : (told : List (ℕ × Origin)) (n k : ℕ) → ids_of told ≡ range_with_len n (length told) → (found_in no_origin told (n + k)).around.owner ≡ get_or (owners_told told) k 0
owner_at_place [] n k is = refl
owner_at_place (pair ∷ told) n zero is = let e : pair.0 ≡ n = cc in grind (arith, e)
owner_at_place (pair ∷ told) n (suc k) is =
    let e : pair.0 ≡ n = cc in
    let rest : ids_of told ≡ range_with_len (n + 1) (length told) = cc in
    let later = owner_at_place told (n + 1) k rest in
    let m : n + suc k ≡ n + 1 + k = omega arith in
    grind (arith, e, later, m)

owners_long : (told : List (ℕ × Origin)) → length (owners_told told) ≡ length told
owners_long [] = refl
owners_long (pair ∷ told) = ap suc (owners_long told)

list_by_place : (owner : ℕ → ℕ) (owners : List ℕ) (n : ℕ) → ((k : ℕ) → owner (n + k) ≡ get_or owners k 0) → map owner (range_with_len n (length owners)) ≡ owners
list_by_place owner [] n at = refl
list_by_place owner (o ∷ owners) n at =
    λ i. (ap owner (let e : n ≡ n + 0 = omega arith in e) ∙ at 0) i ∷ list_by_place owner owners (n + 1) (λ k. ap owner (let e : n + 1 + k ≡ n + suc k = omega arith in e) ∙ at (suc k)) i

module _ (component : Component) (kept : IsKept component) where
  table : List (ℕ × Origin)
  table = tell_items (pairs_among component.items) component.items top_around

  numbered : ids_of table ≡ range_with_len 0 (length table)
  unfolding table
  numbered = items_told (pairs_among component.items) component.items top_around ∙ kept.numbered.ids ∙ ap (λ k. range_with_len 0 k) (ap length (sym (items_told (pairs_among component.items) component.items top_around)) ∙ length_ids table)

  long : length (owners_told table) ≡ length (ids_in component.items)
  unfolding table
  long = owners_long table ∙ sym (length_ids table) ∙ ap length (items_told (pairs_among component.items) component.items top_around)

  at : (id : ℕ) → owner_of_id component id ≡ get_or (owners_told table) id 0
  unfolding table
  at id = let e : id ≡ 0 + id = omega arith in ap (owner_of_id component) e ∙ owner_at_place table 0 id numbered

  listed : owners_by_id component ≡ owners_told table
  listed = ap (λ n. map (owner_of_id component) (range_with_len 0 n)) (sym long) ∙ list_by_place (owner_of_id component) (owners_told table) 0 (λ k. ap (owner_of_id component) (let e : 0 + k ≡ k = omega arith in e) ∙ at k)

  -- what the walk puts is the list
  pub walked : items_owned component.items 0 ≡ owners_by_id component
  unfolding table
  walked = items_alike (λ resource. []) (pairs_among component.items) component.items (in_owner 0) top_around refl ∙ sym listed

  -- an owner is found by its id
  pub owner_at : (id : ℕ) → get_or (owners_by_id component) id 0 ≡ owner_of_id component id
  owner_at id = ap (λ (owners : List ℕ). get_or owners id 0) listed ∙ sym (at id)
