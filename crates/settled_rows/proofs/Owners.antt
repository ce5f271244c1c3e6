-- At the start the owner of each id is live.
use Rattle.std.proofs.Common.{◌≡◌, ℕ, zero, suc, ◌+◌, ◌<◌, ◌≤◌, ◌==◌, if◌then◌else◌, Bool, true, false, List, [], ◌∷◌, ◌++◌, map, length, refl, sym, ap, subst, ◌∙◌, arith}
use Rattle.std.specs.Prelude.{slice_index_or, replicate}
use Rattle.std.specs.List.{flat_map, concat, range_with_len}
use Rattle.values.specs.declared.code.Code.{Code}
use Rattle.component_items.specs.declared.component.Attr.{Attr}
use Rattle.component_items.specs.declared.component.Attr.TheVariants as attr
use Rattle.component_items.specs.declared.component.Component.{Component}
use Rattle.component_items.specs.declared.component.Item.{Item}
use Rattle.component_items.specs.declared.component.Item.TheOpen as level
use Rattle.component_items.specs.declared.component.Item.TheOpen.{Item-F}
use Rattle.component_items.specs.declared.component.Item.TheViews.{roll-Item}
use Rattle.component_items.specs.declared.component.Item.TheFolds.{fold-roll-Item, map-Item, ind-Item}
use Rattle.component_items.specs.Ids.{owners_step, item_owners, owners_in}
use Rattle.component_items.specs.Kept.{IsKept}
use Rattle.plain_evaluation.specs.Held.{is_live, first_held}
use Rattle.plain_evaluation.specs.Lookup.{found_in}
use Rattle.plain_evaluation.specs.Origins.{Around, Origin, tell_attr, tell_fields, tell_all, tell_step, tell_item, tell_items, top_around, no_origin}
use Rattle.plain_evaluation.specs.Written.{pairs_among}
use Rattle.plan_meaning.specs.Owners.{plan_owners}
use Rattle.plan_meaning.specs.Told.{owner_of_id}
use Rattle.run_meaning.proofs.Areas.{owners_long}

abbrev Told : ℕ → List (ℕ × Origin) → Type 0
Told bound [] = Unit {0}
Told bound (pair ∷ pairs) = (pair.1.around.owner < bound) × Told bound pairs

abbrev Below : ℕ → List ℕ → Type 0
Below bound [] = Unit {0}
Below bound (n ∷ ns) = (n < bound) × Below bound ns

told-append : (bound : ℕ) (xs ys : List (ℕ × Origin)) → Told bound xs → Told bound ys → Told bound (xs ++ ys)
told-append bound [] ys h g = g
told-append bound (x ∷ xs) ys h g = (h.0, told-append bound xs ys h.1 g)

below_first : (bound : ℕ) (xs ys : List ℕ) → Below bound (xs ++ ys) → Below bound xs
below_first bound [] ys h = tt
below_first bound (x ∷ xs) ys h = (h.0, below_first bound xs ys h.1)

below_rest : (bound : ℕ) (xs ys : List ℕ) → Below bound (xs ++ ys) → Below bound ys
below_rest bound [] ys h = h
below_rest bound (x ∷ xs) ys h = below_rest bound xs ys h.1

attrs_told : (bound : ℕ) (attrs : List Attr) (around : Around) → around.owner < bound → Told bound (flat_map (tell_attr around) attrs)
attrs_told bound [] around lt = tt
attrs_told bound (attr.Bare name ∷ attrs) around lt = attrs_told bound attrs around lt
attrs_told bound (attr.Fixed name text ∷ attrs) around lt = attrs_told bound attrs around lt
attrs_told bound (attr.Shown name id expr ∷ attrs) around lt = (lt, attrs_told bound attrs around lt)

fields_told : (bound first : ℕ) (fields : List ℕ) (around : Around) → around.owner < bound → Told bound (tell_fields first fields around)
fields_told bound first [] around lt = tt
fields_told bound first (field ∷ fields) around lt = (lt, fields_told bound (suc first) fields around lt)

module _ (bound : ℕ) (pairs : ℕ → List (Code × Code)) where
  abbrev Tells : List ℕ → (Around → List (ℕ × Origin)) → Type 0
  Tells owners tells = (around : Around) → around.owner < bound → Below bound owners → Told bound (tells around)

  abbrev ItemIs : Item → Type 0
  ItemIs item = Tells (item_owners item) (tell_item pairs item)

  abbrev Proven : Type 0
  Proven = (item : Item) × ItemIs item

  abbrev items_of : List Proven → List Item
  items_of known = map (λ k. k.0) known

  abbrev FormIs : Item-F Item → Type 0
  FormIs x = Tells (owners_step (map-Item Item (List ℕ) item_owners x)) (tell_step pairs (map-Item Item (Around → List (ℕ × Origin)) (tell_item pairs) x))

  rolled : (x : Item-F Item) → FormIs x → ItemIs (roll-Item x)
  unfolding item_owners tell_item
  rolled x is =
      subst (λ f. Tells f (tell_item pairs (roll-Item x))) (sym (fold-roll-Item (List ℕ) owners_step x))
      (subst (λ f. Tells (owners_step (map-Item Item (List ℕ) item_owners x)) f) (sym (fold-roll-Item (Around → List (ℕ × Origin)) (tell_step pairs) x))
      is)

  block : (known : List Proven) → Tells (concat (map item_owners (items_of known))) (tell_all (map (tell_item pairs) (items_of known)))
  block [] around lt below = tt
  block (k ∷ known) around lt below = told-append bound (tell_item pairs k.0 around) (tell_all (map (tell_item pairs) (items_of known)) around)
      (k.1 around lt (below_first bound (item_owners k.0) (concat (map item_owners (items_of known))) below))
      (block known around lt (below_rest bound (item_owners k.0) (concat (map item_owners (items_of known))) below))

  by_form : (y : Item-F Proven) → FormIs (map-Item Proven Item (λ k. k.0) y)
  by_form (level.Signal id name start) around lt below = (lt, tt)
  by_form (level.Memo id name expr) around lt below = (lt, tt)
  by_form (level.Effect id name expr) around lt below = (lt, tt)
  by_form (level.Resource id name after keys values) around lt below = (lt, tt)
  by_form (level.Load id name resource key) around lt below = (lt, (lt, tt))
  by_form (level.Store id name max fields starts) around lt below = (lt, (lt, fields_told bound (2 + id) fields (record around { store = _ }) lt))
  by_form (level.Cleanup text) around lt below = tt
  by_form (level.Area id name owner known) around lt below = (lt, block known (record around { owner = owner }) below.0 below.1)
  by_form (level.If id cond known) around lt below = (lt, block known around lt below)
  by_form (level.Each id store known) around lt below = (lt, block known (record around { store = _ }) lt below)
  by_form (level.Element tag closed attrs known) around lt below = told-append bound (flat_map (tell_attr around) attrs) (tell_all (map (tell_item pairs) (items_of known)) around) (attrs_told bound attrs around lt) (block known around lt below)
  by_form (level.Text text) around lt below = tt
  by_form (level.Shown id expr) around lt below = (lt, tt)

  item_is : (item : Item) → ItemIs item
  item_is = ind-Item ItemIs (λ x y is. subst (λ z. ItemIs (roll-Item z)) is (rolled (map-Item Proven Item (λ k. k.0) y) (by_form y)))

  text_is : (items : List Item) → Tells (owners_in items) (tell_items pairs items)
  text_is [] around lt below = tt
  text_is (item ∷ items) around lt below = told-append bound (tell_item pairs item around) (tell_items pairs items around)
      (item_is item around lt (below_first bound (item_owners item) (owners_in items) below))
      (text_is items around lt (below_rest bound (item_owners item) (owners_in items) below))

found_below : (bound : ℕ) (pairs : List (ℕ × Origin)) (id : ℕ) → 0 < bound → Told bound pairs → (found_in no_origin pairs id).around.owner < bound
found_below bound [] id some told = some
found_below bound (pair ∷ pairs) id some told = at (pair.0 == id) (found_below bound pairs id some told.1)
  where
    at : (b : Bool) → (found_in no_origin pairs id).around.owner < bound → (if b then pair.1 else found_in no_origin pairs id).around.owner < bound
    at true later = told.0
    at false later = later

range_below : (first count bound : ℕ) → first + count ≤ bound → Below bound (range_with_len first count)
range_below first zero bound le = tt
range_below first (suc count) bound le = (omega arith, range_below (first + 1) count bound (omega arith))

pub all_true : (owners : List ℕ) → map (λ owner. true) owners ≡ replicate (length owners) true
all_true [] = refl
all_true (owner ∷ owners) = ap (λ more. true ∷ more) (all_true owners)

true_at : (owners : List ℕ) (n : ℕ) → n < length owners → slice_index_or (map (λ owner. true) owners) n false ≡ true
true_at [] n lt = absurd (omega arith)
true_at (owner ∷ owners) zero lt = refl
true_at (owner ∷ owners) (suc n) lt = true_at owners n (omega arith)

pub owner_live : (component : Component) → IsKept component → (id : ℕ) → is_live (first_held component) (owner_of_id component id) ≡ true
owner_live component kept id = at (owner_of_id component id) below
  where
    bound : ℕ
    bound = 1 + length (owners_in component.items)

    owners : Below bound (owners_in component.items)
    owners = subst (λ ns. Below bound ns) (sym kept.numbered.owners) (range_below 1 (length (owners_in component.items)) bound (omega arith))

    below : owner_of_id component id < bound
    below = found_below bound (tell_items (pairs_among component.items) component.items top_around) id (omega arith) (text_is bound (pairs_among component.items) component.items top_around (omega arith) owners)

    at : (owner : ℕ) → owner < bound → is_live (first_held component) owner ≡ true
    at zero lt = refl
    at (suc n) lt = true_at (owners_in component.items) n (omega arith)

-- as many owners as the plan has
pub live_at_first : (component : Component) → IsKept component → replicate (length (plan_owners component)) true ≡ (first_held component).live
live_at_first component kept = ap (λ n. replicate n true) (sym (owners_long component kept)) ∙ sym (all_true (0 ∷ owners_in component.items))
