-- The ids that are listed are those that the items take.
use Rattle.std.proofs.Common.{◌≡◌, ℕ, zero, suc, ◌+◌, ◌<◌, ◌==◌, Bool, true, false, if◌then◌else◌, Option, Some, None, Contains, get_or, ◌↔◌, List, [], ◌∷◌, ◌++◌, length, map, refl, sym, ap, subst, ◌∙◌, arith}
use Rattle.std.specs.Option.{option_map}
use Rattle.std.specs.List.{find, flat_map, concat, range_with_len}
use Rattle.std.proofs.lemmas.List.{map-append}
use Rattle.component_items.specs.declared.component.Attr.{Attr}
use Rattle.component_items.specs.declared.component.Attr.TheVariants as attr
use Rattle.component_items.specs.declared.component.Item.{Item}
use Rattle.component_items.specs.declared.component.Item.TheOpen as level
use Rattle.component_items.specs.declared.component.Item.TheOpen.{Item-F}
use Rattle.component_items.specs.declared.component.Item.TheViews.{roll-Item}
use Rattle.component_items.specs.declared.component.Item.TheFolds.{fold-roll-Item, map-Item, ind-Item}
use Rattle.component_items.specs.Ids.{attr_ids, ids_step, item_ids, ids_in}
use Rattle.component_items.specs.Around.{Around, Listed, within, listed_fields, listed_attrs, listed_all, listed_step, item_listed, items_listed}

abbrev ids_of : List Listed → List ℕ
ids_of listed = map (λ l. l.id) listed

-- the ids of an item are listed, wherever it stands
abbrev IsListed : Item → Type 0
IsListed item = (around : Around) → ids_of (item_listed item around) ≡ item_ids item

-- an item with what is known of it
abbrev Known : Type 0
Known = (item : Item) × IsListed item

abbrev items_of : List Known → List Item
items_of known = map (λ k. k.0) known

ids_of-append : (xs ys : List Listed) → ids_of (xs ++ ys) ≡ ids_of xs ++ ids_of ys
ids_of-append xs ys = map-append (λ l. l.id) xs ys

layer : (x : Item-F Item) (around : Around) → item_listed (roll-Item x) around ≡ listed_step (map-Item Item (Around → List Listed) item_listed x) around
unfolding item_listed
layer x around = ap (λ f. f around) (fold-roll-Item (Around → List Listed) listed_step x)

ids_layer : (x : Item-F Item) → item_ids (roll-Item x) ≡ ids_step (map-Item Item (List ℕ) item_ids x)
unfolding item_ids
ids_layer x = fold-roll-Item (List ℕ) ids_step x

fields_listed : (first : ℕ) (fields : List ℕ) (around : Around) → ids_of (listed_fields first fields around) ≡ range_with_len first (length fields)
fields_listed first [] around = refl
fields_listed first (name ∷ fields) around =
    ap (λ more. first ∷ more) (fields_listed (suc first) fields around)
    ∙ ap (λ k. first ∷ range_with_len k (length fields)) {x = suc first} {y = first + 1} (omega arith)

store_ids : (id count : ℕ) → id ∷ suc id ∷ range_with_len (2 + id) count ≡ range_with_len id (2 + count)
store_ids id count =
    ap (λ k. id ∷ suc id ∷ range_with_len k count) {x = 2 + id} {y = suc id + 1} (omega arith)
    ∙ ap (λ k. id ∷ range_with_len k (suc count)) {x = suc id} {y = id + 1} (omega arith)
    ∙ ap (λ k. range_with_len id k) {x = suc (suc count)} {y = 2 + count} (omega arith)

attrs_listed : (attrs : List Attr) (around : Around) → ids_of (listed_attrs around attrs) ≡ flat_map attr_ids attrs
attrs_listed [] around = refl
attrs_listed (attr.Bare name ∷ attrs) around = attrs_listed attrs around
attrs_listed (attr.Fixed name text ∷ attrs) around = attrs_listed attrs around
attrs_listed (attr.Shown name id expr ∷ attrs) around = ap (λ more. id ∷ more) (attrs_listed attrs around)

inner_listed : (known : List Known) (around : Around) → ids_of (listed_all around (map item_listed (items_of known))) ≡ concat (map item_ids (items_of known))
inner_listed [] around = refl
inner_listed (k ∷ known) around =
    ids_of-append (item_listed k.0 around) (listed_all around (map item_listed (items_of known)))
    ∙ ap (λ ids. ids ++ ids_of (listed_all around (map item_listed (items_of known)))) (k.1 around)
    ∙ ap (λ ids. item_ids k.0 ++ ids) (inner_listed known around)

step_listed : (y : Item-F Known) (around : Around) → ids_of (listed_step (map-Item Item (Around → List Listed) item_listed (map-Item Known Item (λ k. k.0) y)) around) ≡ ids_step (map-Item Item (List ℕ) item_ids (map-Item Known Item (λ k. k.0) y))
step_listed (level.Signal id name start) around = refl
step_listed (level.Memo id name expr) around = refl
step_listed (level.Effect id name expr) around = refl
step_listed (level.Resource id name after keys values) around = refl
step_listed (level.Load id name resource key) around = refl
step_listed (level.Store id name max fields starts) around = ap (λ more. id ∷ suc id ∷ more) (fields_listed (2 + id) fields around) ∙ store_ids id (length fields)
step_listed (level.Cleanup text) around = refl
step_listed (level.Area id name owner known) around = ap (λ more. id ∷ more) (inner_listed known (within name owner around))
step_listed (level.If id cond known) around = ap (λ more. id ∷ more) (inner_listed known around)
step_listed (level.Each id store known) around = ap (λ more. id ∷ more) (inner_listed known around)
step_listed (level.Element tag closed attrs known) around =
    ids_of-append (listed_attrs around attrs) (listed_all around (map item_listed (items_of known)))
    ∙ ap (λ ids. ids ++ ids_of (listed_all around (map item_listed (items_of known)))) (attrs_listed attrs around)
    ∙ ap (λ ids. flat_map attr_ids attrs ++ ids) (inner_listed known around)
step_listed (level.Text text) around = refl
step_listed (level.Shown id expr) around = refl

by_form : (y : Item-F Known) → IsListed (roll-Item (map-Item Known Item (λ k. k.0) y))
by_form y around =
    ap ids_of (layer (map-Item Known Item (λ k. k.0) y) around)
    ∙ step_listed y around
    ∙ sym (ids_layer (map-Item Known Item (λ k. k.0) y))

item_is_listed : (item : Item) → IsListed item
item_is_listed = ind-Item IsListed (λ x y is. subst (λ z. IsListed (roll-Item z)) is (by_form y))

pub items_are_listed : (items : List Item) (around : Around) → ids_of (items_listed items around) ≡ ids_in items
items_are_listed [] around = refl
items_are_listed (item ∷ items) around =
    ids_of-append (item_listed item around) (items_listed items around)
    ∙ ap (λ ids. ids ++ ids_of (items_listed items around)) (item_is_listed item around)
    ∙ ap (λ ids. item_ids item ++ ids) (items_are_listed items around)

-- ---- ids that are not listed

is_absent : (id : ℕ) (listed : List Listed) → find (λ l. l.id == id) listed ≡ None → ¬ Contains (ids_of listed) id
is_absent id [] none c = omega (arith, c.1)
is_absent id (l ∷ listed) none c = at (l.id == id) refl c.0 c.1 c.2 none (is_absent id listed)
  where
    at : (same : Bool) → (l.id == id) ≡ same → (k : ℕ) → k < length (l.id ∷ ids_of listed) → get_or (l.id ∷ ids_of listed) k id ≡ id → (if same then Some l else find (λ l. l.id == id) listed) ≡ None → (find (λ l. l.id == id) listed ≡ None → ¬ Contains (ids_of listed) id) → ⊥
    at true is k within here none others = cc
    at false is zero within here none others = grind arith
    at false is (suc k) within here none others = others none (k, omega (arith, within), here)

is_not_found : (id : ℕ) (listed : List Listed) → ¬ Contains (ids_of listed) id → find (λ l. l.id == id) listed ≡ None
is_not_found id [] out = refl
is_not_found id (l ∷ listed) out = at (l.id == id) refl (is_not_found id listed (λ c. out (suc c.0, omega (arith, c.1), c.2)))
  where
    at : (same : Bool) → (l.id == id) ≡ same → find (λ l. l.id == id) listed ≡ None → (if same then Some l else find (λ l. l.id == id) listed) ≡ None
    at true is others = let e : l.id ≡ id = grind arith in absurd (out (zero, omega arith, e))
    at false is others = others

none_of : {A : Type 0} (f : Listed → A) (found : Option Listed) → option_map f found ≡ None → found ≡ None
none_of f None is = refl
none_of f (Some l) is = cc

-- what an id has by its place it has exactly where an item takes it
pub listed_exactly : {A : Type 0} (f : Listed → A) (items : List Item) (around : Around) (id : ℕ) → (option_map f (find (λ l. l.id == id) (items_listed items around)) ≡ None) ↔ ¬ Contains (ids_in items) id
listed_exactly f items around id = (
  λ none. subst (λ ids. ¬ Contains ids id) (items_are_listed items around) (is_absent id (items_listed items around) (none_of f _ none)),
  λ out. ap (option_map f) (is_not_found id (items_listed items around) (subst (λ ids. ¬ Contains ids id) (sym (items_are_listed items around)) out)),
)
