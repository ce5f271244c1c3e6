-- The owner of each id is one of the component's.
use Rattle.std.proofs.Common.{◌≡◌, ℕ, suc, ◌+◌, ◌<◌, ◌==◌, Bool, true, false, cond, List, [], ◌∷◌, ◌++◌, length, map, Some, inl, inr, refl, sym, subst, ⊎_elim, arith}
use Rattle.std.specs.List.{AllByRecursion as Each, flat_map, concat}
use Rattle.values.specs.declared.code.Code.{Code}
use Rattle.component_items.specs.declared.component.Attr.{Attr}
use Rattle.component_items.specs.declared.component.Attr.TheVariants as attr
use Rattle.component_items.specs.declared.component.Component.{Component}
use Rattle.component_items.specs.declared.component.Item.{Item}
use Rattle.component_items.specs.declared.component.Item.TheOpen as level
use Rattle.component_items.specs.declared.component.Item.TheOpen.{Item-F}
use Rattle.component_items.specs.declared.component.Item.TheViews.{roll-Item}
use Rattle.component_items.specs.declared.component.Item.TheFolds.{fold-roll-Item, map-Item, ind-Item}
use Rattle.component_items.specs.Ids.{owners_step, item_owners, owners_in}
use Rattle.component_items.specs.Kept.{IsKept}
use Rattle.plain_evaluation.specs.Lookup.{found_in}
use Rattle.plain_evaluation.specs.Origins.{Around, Origin, no_origin, tell_attr, tell_fields, tell_all, tell_step, tell_item, tell_items, top_around}
use Rattle.plain_evaluation.specs.Written.{pairs_among}
use Rattle.plan_meaning.specs.Owners.{plan_owners}
use Rattle.plan_meaning.specs.Told.{owner_of_id}
use Rattle.run_meaning.specs.Words.{In}
use Rattle.run_meaning.proofs.Areas.{owners_long}
use Rattle.run_meaning.proofs.Bounds.{in_range}

pub each_append : {X : Type 0} (P : X → Type 0) (xs ys : List X) → Each P xs → Each P ys → Each P (xs ++ ys)
each_append P [] ys h g = g
each_append P (x ∷ xs) ys h g = (h.0, each_append P xs ys h.1 g)

pub in_left : (n : ℕ) (xs ys : List ℕ) → In n xs → In n (xs ++ ys)
in_left n [] ys i = absurd i
in_left n (x ∷ xs) ys i = ⊎_elim (λ (e : x ≡ n). inl e) (λ j. inr (in_left n xs ys j)) i

pub in_right : (n : ℕ) (xs ys : List ℕ) → In n ys → In n (xs ++ ys)
in_right n [] ys i = i
in_right n (x ∷ xs) ys i = inr (in_right n xs ys i)

-- the owner is one of these
abbrev HasOwner : List ℕ → ℕ × Origin → Type 0
HasOwner owners pair = In pair.1.around.owner owners

-- what is told of an item whose areas are among these owners
abbrev Owns : List ℕ → (Around → List (ℕ × Origin)) → Type 0
Owns own tells = (owners : List ℕ) (around : Around) → In around.owner owners → ((n : ℕ) → In n own → In n owners) → Each (HasOwner owners) (tells around)

fields_owned : (owners : List ℕ) (first : ℕ) (names : List ℕ) (around : Around) → In around.owner owners → Each (HasOwner owners) (tell_fields first names around)
fields_owned owners first [] around i = tt
fields_owned owners first (name ∷ names) around i = (i, fields_owned owners (suc first) names around i)

attrs_owned : (owners : List ℕ) (attrs : List Attr) (around : Around) → In around.owner owners → Each (HasOwner owners) (flat_map (tell_attr around) attrs)
attrs_owned owners [] around i = tt
attrs_owned owners (attr.Bare name ∷ attrs) around i = attrs_owned owners attrs around i
attrs_owned owners (attr.Fixed name text ∷ attrs) around i = attrs_owned owners attrs around i
attrs_owned owners (attr.Shown name id expr ∷ attrs) around i = (i, attrs_owned owners attrs around i)

module _ (pairs : ℕ → List (Code × Code)) where
  abbrev ItemOwns : Item → Type 0
  ItemOwns item = Owns (item_owners item) (tell_item pairs item)

  abbrev Proven : Type 0
  Proven = (item : Item) × ItemOwns item

  abbrev items_of : List Proven → List Item
  items_of known = map (λ k. k.0) known

  abbrev FormOwns : Item-F Item → Type 0
  FormOwns x = Owns (owners_step (map-Item Item (List ℕ) item_owners x)) (tell_step pairs (map-Item Item (Around → List (ℕ × Origin)) (tell_item pairs) x))

  rolled : (x : Item-F Item) → FormOwns x → ItemOwns (roll-Item x)
  unfolding tell_item item_owners
  rolled x owns =
      subst (λ f. Owns (item_owners (roll-Item x)) f) (sym (fold-roll-Item (Around → List (ℕ × Origin)) (tell_step pairs) x))
      (subst (λ own. Owns own (tell_step pairs (map-Item Item (Around → List (ℕ × Origin)) (tell_item pairs) x))) (sym (fold-roll-Item (List ℕ) owners_step x)) owns)

  block : (known : List Proven) → Owns (concat (map item_owners (items_of known))) (tell_all (map (tell_item pairs) (items_of known)))
  block [] owners around i among = tt
  block (k ∷ known) owners around i among =
      let rest = concat (map item_owners (items_of known)) in
      each_append (HasOwner owners) (tell_item pairs k.0 around) (tell_all (map (tell_item pairs) (items_of known)) around)
      (k.1 owners around i (λ n j. among n (in_left n (item_owners k.0) rest j)))
      (block known owners around i (λ n j. among n (in_right n (item_owners k.0) rest j)))

  by_form : (y : Item-F Proven) → FormOwns (map-Item Proven Item (λ k. k.0) y)
  by_form (level.Signal id name start) owners around i among = (i, tt)
  by_form (level.Memo id name expr) owners around i among = (i, tt)
  by_form (level.Effect id name expr) owners around i among = (i, tt)
  by_form (level.Resource id name after keys values) owners around i among = (i, tt)
  by_form (level.Load id name resource key) owners around i among = (i, (i, tt))
  by_form (level.Store id name max fields starts) owners around i among = (i, (i, fields_owned owners (2 + id) fields (record around { store = Some id }) i))
  by_form (level.Cleanup text) owners around i among = tt
  by_form (level.Area id name owner known) owners around i among = (i, block known owners (record around { owner = owner }) (among owner (inl refl)) (λ n j. among n (inr j)))
  by_form (level.If id cond known) owners around i among = (i, block known owners around i among)
  by_form (level.Each id store known) owners around i among = (i, block known owners (record around { store = Some store }) i among)
  by_form (level.Element tag closed attrs known) owners around i among =
      each_append (HasOwner owners) (flat_map (tell_attr around) attrs) (tell_all (map (tell_item pairs) (items_of known)) around) (attrs_owned owners attrs around i) (block known owners around i among)
  by_form (level.Text text) owners around i among = tt
  by_form (level.Shown id expr) owners around i among = (i, tt)

  item_owns : (item : Item) → ItemOwns item
  item_owns = ind-Item ItemOwns (λ x y is. subst (λ z. ItemOwns (roll-Item z)) is (rolled (map-Item Proven Item (λ k. k.0) y) (by_form y)))

  text_owns : (items : List Item) → Owns (owners_in items) (tell_items pairs items)
  text_owns [] owners around i among = tt
  text_owns (item ∷ items) owners around i among =
      each_append (HasOwner owners) (tell_item pairs item around) (tell_items pairs items around)
      (item_owns item owners around i (λ n j. among n (in_left n (item_owners item) (owners_in items) j)))
      (text_owns items owners around i (λ n j. among n (in_right n (item_owners item) (owners_in items) j)))

found_owned : (owners : List ℕ) (pairs : List (ℕ × Origin)) → In 0 owners → Each (HasOwner owners) pairs → (id : ℕ) → In (found_in no_origin pairs id).around.owner owners
found_owned owners [] top all id = top
found_owned owners (pair ∷ pairs) top all id = at (pair.0 == id) (found_owned owners pairs top all.1 id)
  where
    at : (b : Bool) → In (found_in no_origin pairs id).around.owner owners → In (cond b pair.1 (found_in no_origin pairs id)).around.owner owners
    at true later = all.0
    at false later = later

pub owner_within : (component : Component) → IsKept component → (id : ℕ) → owner_of_id component id < length (plan_owners component)
owner_within component kept id =
    let items = component.items in
    let i = found_owned (0 ∷ owners_in items) (tell_items (pairs_among items) items top_around) (inl refl) (text_owns (pairs_among items) items (0 ∷ owners_in items) top_around (inl refl) (λ n j. inr j)) id in
    let long = owners_long component kept in
    ⊎_elim (λ (e : 0 ≡ owner_of_id component id). let l : owner_of_id component id < length (plan_owners component) = omega arith in l)
    (λ j. let r = in_range 1 (length (owners_in items)) (owner_of_id component id) (subst (λ (ns : List ℕ). In (owner_of_id component id) ns) kept.numbered.owners j) in
    let l : owner_of_id component id < length (plan_owners component) = omega arith in l) i
