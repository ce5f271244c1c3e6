-- Each id has one flag.
use Rattle.std.proofs.Common.{◌≡◌, ℕ, suc, ◌+◌, Bool, true, false, List, [], ◌∷◌, ◌++◌, map, length, refl, sym, ap, subst, ◌∙◌, arith}
use Rattle.std.specs.List.{flat_map, concat, range_with_len}
use Rattle.component_items.specs.declared.component.Attr.{Attr}
use Rattle.component_items.specs.declared.component.Attr.TheVariants as attr
use Rattle.component_items.specs.declared.component.Item.{Item}
use Rattle.component_items.specs.declared.component.Item.TheOpen as level
use Rattle.component_items.specs.declared.component.Item.TheOpen.{Item-F}
use Rattle.component_items.specs.declared.component.Item.TheViews.{roll-Item}
use Rattle.component_items.specs.declared.component.Item.TheFolds.{fold-roll-Item, map-Item, ind-Item}
use Rattle.component_items.specs.Ids.{attr_ids, ids_step, item_ids, ids_in}
use Rattle.plain_evaluation.specs.Keyed.{keyed_fields, keyed_attr, keyed_all, keyed_step, item_keyed, items_keyed, flag_of}
use Rattle.plain_evaluation.proofs.Lookup.{ids_of, ids_of-append, AreFound, found-append, numbered_found, store_ids}

-- the flags are those of the component
abbrev pub AreKeyed : (ℕ → Bool) → List (ℕ × Bool) → Type 0
AreKeyed keyed pairs = AreFound keyed pairs

pub keyed-append : (keyed : ℕ → Bool) (xs ys : List (ℕ × Bool)) → AreKeyed keyed (xs ++ ys) → AreKeyed keyed xs × AreKeyed keyed ys
keyed-append keyed xs ys h = found-append keyed xs ys h

-- ---- the ids of the flags are those of the items

abbrev IsFlagged : Item → Type 0
IsFlagged item = (inside : Bool) → ids_of (item_keyed item inside) ≡ item_ids item

abbrev Proven : Type 0
Proven = (item : Item) × IsFlagged item

abbrev items_of : List Proven → List Item
items_of known = map (λ k. k.0) known

layer : (x : Item-F Item) (inside : Bool) → item_keyed (roll-Item x) inside ≡ keyed_step (map-Item Item (Bool → List (ℕ × Bool)) item_keyed x) inside
unfolding item_keyed
layer x inside = ap (λ f. f inside) (fold-roll-Item (Bool → List (ℕ × Bool)) keyed_step x)

ids_layer : (x : Item-F Item) → item_ids (roll-Item x) ≡ ids_step (map-Item Item (List ℕ) item_ids x)
unfolding item_ids
ids_layer x = fold-roll-Item (List ℕ) ids_step x

fields_flagged : (first : ℕ) (fields : List ℕ) → ids_of (keyed_fields first fields) ≡ range_with_len first (length fields)
fields_flagged first [] = refl
fields_flagged first (name ∷ fields) =
    ap (λ more. first ∷ more) (fields_flagged (suc first) fields)
    ∙ ap (λ k. first ∷ range_with_len k (length fields)) {x = suc first} {y = first + 1} (omega arith)

attrs_flagged : (attrs : List Attr) (inside : Bool) → ids_of (flat_map (keyed_attr inside) attrs) ≡ flat_map attr_ids attrs
attrs_flagged [] inside = refl
attrs_flagged (attr.Bare name ∷ attrs) inside = attrs_flagged attrs inside
attrs_flagged (attr.Fixed name text ∷ attrs) inside = attrs_flagged attrs inside
attrs_flagged (attr.Shown name id expr ∷ attrs) inside = ap (λ more. id ∷ more) (attrs_flagged attrs inside)

inner_flagged : (known : List Proven) (inside : Bool) → ids_of (keyed_all inside (map item_keyed (items_of known))) ≡ concat (map item_ids (items_of known))
inner_flagged [] inside = refl
inner_flagged (k ∷ known) inside =
    ids_of-append (item_keyed k.0 inside) (keyed_all inside (map item_keyed (items_of known)))
    ∙ ap (λ ids. ids ++ ids_of (keyed_all inside (map item_keyed (items_of known)))) (k.1 inside)
    ∙ ap (λ ids. item_ids k.0 ++ ids) (inner_flagged known inside)

step_flagged : (y : Item-F Proven) (inside : Bool) → ids_of (keyed_step (map-Item Item (Bool → List (ℕ × Bool)) item_keyed (map-Item Proven Item (λ k. k.0) y)) inside) ≡ ids_step (map-Item Item (List ℕ) item_ids (map-Item Proven Item (λ k. k.0) y))
step_flagged (level.Signal id name start) inside = refl
step_flagged (level.Memo id name expr) inside = refl
step_flagged (level.Effect id name expr) inside = refl
step_flagged (level.Resource id name after keys values) inside = refl
step_flagged (level.Load id name resource key) inside = refl
step_flagged (level.Store id name max fields starts) inside = ap (λ more. id ∷ suc id ∷ more) (fields_flagged (2 + id) fields) ∙ store_ids id (length fields)
step_flagged (level.Cleanup text) inside = refl
step_flagged (level.Area id name owner known) inside = ap (λ more. id ∷ more) (inner_flagged known inside)
step_flagged (level.If id cond known) inside = ap (λ more. id ∷ more) (inner_flagged known inside)
step_flagged (level.Each id store known) inside = ap (λ more. id ∷ more) (inner_flagged known true)
step_flagged (level.Element tag closed attrs known) inside =
    ids_of-append (flat_map (keyed_attr inside) attrs) (keyed_all inside (map item_keyed (items_of known)))
    ∙ ap (λ ids. ids ++ ids_of (keyed_all inside (map item_keyed (items_of known)))) (attrs_flagged attrs inside)
    ∙ ap (λ ids. flat_map attr_ids attrs ++ ids) (inner_flagged known inside)
step_flagged (level.Text text) inside = refl
step_flagged (level.Shown id expr) inside = refl

item_flagged : (item : Item) → IsFlagged item
item_flagged = ind-Item IsFlagged (λ x y is. subst (λ z. IsFlagged (roll-Item z)) is (λ inside. ap ids_of (layer (map-Item Proven Item (λ k. k.0) y) inside) ∙ step_flagged y inside ∙ sym (ids_layer (map-Item Proven Item (λ k. k.0) y))))

pub items_flagged : (items : List Item) (inside : Bool) → ids_of (items_keyed items inside) ≡ ids_in items
items_flagged [] inside = refl
items_flagged (item ∷ items) inside =
    ids_of-append (item_keyed item inside) (items_keyed items inside)
    ∙ ap (λ ids. ids ++ ids_of (items_keyed items inside)) (item_flagged item inside)
    ∙ ap (λ ids. item_ids item ++ ids) (items_flagged items inside)

-- ---- each id has its own flag

pub flags_right : (items : List Item) → ids_in items ≡ range_with_len 0 (length (ids_in items)) → AreKeyed (flag_of (items_keyed items false)) (items_keyed items false)
flags_right items numbered = numbered_found false (items_keyed items false) (ids_in items) (items_flagged items false) numbered
