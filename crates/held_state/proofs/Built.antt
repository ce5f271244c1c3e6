-- The state at the start, put together item by item.
use Rattle.std.proofs.Common.{◌≡◌, ℕ, suc, ◌+◌, ◌<◌, ◌^◌, ◌==◌, ◌||◌, Bool, true, false, List, [], ◌∷◌, ◌++◌, None, map, length, refl, sym, ap, subst, ◌∙◌, append_assoc, arith, length-append, set, get_or, drop, ◌-◌, Result, Ok, Err, OnOk}
use Rattle.std.specs.List.{flat_map, concat, range_with_len}
use Rattle.std.proofs.Math.Seq.{drop-cons}
use Rattle.std.proofs.lemmas.List.{append-nil, map-append, length-map}
use Rattle.std.proofs.lemmas.List.FromFn.{length-range_with_len}
use Rattle.values.specs.declared.code.Code.{Code}
use Rattle.values.specs.declared.expr.Expr.{Expr}
use Rattle.component_items.specs.declared.component.Attr.{Attr}
use Rattle.component_items.specs.declared.component.Item.{Item}
use Rattle.component_items.specs.declared.component.Item.TheVariants.{Signal, Memo, Effect, Resource, Load, Store, Cleanup, Area, If, Each, Element, Text, Shown}
use Rattle.component_items.specs.Ids.{item_ids, ids_in, owners_step, item_owners, owners_in}
use Rattle.component_items.specs.Ids.{ids_step, attr_ids}
use Rattle.component_items.proofs.FoldLemmas.{fold-Signal, fold-Memo, fold-Effect, fold-Resource, fold-Load, fold-Store, fold-Cleanup, fold-Area, fold-If, fold-Each, fold-Element, fold-Text, fold-Shown, at-Area, at-If, at-Each, at-Element}
use Rattle.plain_evaluation.specs.Held.{Holding, nothing, value, stored, arrived, no_rows, first_attr, first_step, item_first}
use Rattle.plain_evaluation.specs.Killed.{Going, going_if, going_all, ids_going_step, item_ids_going, ids_going, owners_going_step, item_owners_going, owners_going}
use Rattle.plain_evaluation.proofs.Begins.{attrs_long, item_begun, items_begun}
use Rattle.plain_evaluation.proofs.Goings.{has_number, Numbered, numbered-cons, numbered-append, numbered_bounds, numbered_apart, item_goes, items_go}
use Rattle.held_state.specs.Seen.{numbers_from}
use Rattle.held_state.specs.Built.{item_goings, goings_in, Built, with_more, with_item, with_items, with_area, AreNext}

-- ---- lists

pub flat_map-self : {A B : Type 0} (f : A → List B) (xs : List A) → flat_map (λ one. one) (map f xs) ≡ flat_map f xs
flat_map-self f [] = refl
flat_map-self f (x ∷ xs) = ap (λ more. f x ++ more) (flat_map-self f xs)

concat-map : {A : Type 0} (f : A → List ℕ) (xs : List A) → concat (map f xs) ≡ flat_map f xs
concat-map f [] = refl
concat-map f (x ∷ xs) = ap (λ more. f x ++ more) (concat-map f xs)

-- what is equal at each of some numbers
pub map_same : {A : Type 0} (f g : ℕ → A) (numbers : List ℕ) → ((n : ℕ) → has_number numbers n ≡ true → f n ≡ g n) → map f numbers ≡ map g numbers
map_same f g [] same = refl
map_same f g (n ∷ numbers) same = λ i. same n (here (n == n) refl) i ∷ map_same f g numbers (λ k has. same k (there k (n == k) has)) i
  where
    here : (b : Bool) → (n == n) ≡ b → (b || has_number numbers n) ≡ true
    here true is = refl
    here false is = absurd (grind arith)

    there : (k : ℕ) (b : Bool) → has_number numbers k ≡ true → (b || has_number numbers k) ≡ true
    there k true has = refl
    there k false has = has

-- ---- what goes with the areas of items one after another

goings-cons : (n : ℕ) (item : Item) (items : List Item) → Numbered n (owners_in (item ∷ items)) → goings_in (item ∷ items) ≡ item_goings item ++ goings_in items
goings-cons n item items numbered =
    map-append (λ owner. record { ids = ids_going owner (item ∷ items) false; owners = owners_going owner (item ∷ items) false }) (item_owners item) (owners_in items)
    ∙ (λ i. map_same (λ owner. record { ids = ids_going owner (item ∷ items) false; owners = owners_going owner (item ∷ items) false }) (λ owner. record { ids = item_ids_going owner item false; owners = item_owners_going owner item false }) (item_owners item) first i
    ++ map_same (λ owner. record { ids = ids_going owner (item ∷ items) false; owners = owners_going owner (item ∷ items) false }) (λ owner. record { ids = ids_going owner items false; owners = owners_going owner items false }) (owners_in items) others i)
  where
    first : (owner : ℕ) → has_number (item_owners item) owner ≡ true → ◌≡◌ {A = Going} (record { ids = ids_going owner (item ∷ items) false; owners = owners_going owner (item ∷ items) false }) (record { ids = item_ids_going owner item false; owners = item_owners_going owner item false })
    first owner has =
        let out = numbered_apart n (item_owners item) (owners_in items) owner numbered has in
        let none = items_go owner items in
        λ i. record {
          ids = (ap (λ more. item_ids_going owner item false ++ more) (none.no_ids out) ∙ append-nil (item_ids_going owner item false)) i;
          owners = (ap (λ more. item_owners_going owner item false ++ more) (none.no_owners out) ∙ append-nil (item_owners_going owner item false)) i;
        }

    others : (owner : ℕ) → has_number (owners_in items) owner ≡ true → ◌≡◌ {A = Going} (record { ids = ids_going owner (item ∷ items) false; owners = owners_going owner (item ∷ items) false }) (record { ids = ids_going owner items false; owners = owners_going owner items false })
    others owner has =
        let out = before owner has (has_number (item_owners item) owner) refl in
        let none = item_goes owner item in
        λ i. record {
          ids = ap (λ first. first ++ ids_going owner items false) (none.no_ids out) i;
          owners = ap (λ first. first ++ owners_going owner items false) (none.no_owners out) i;
        }
      where
        before : (owner : ℕ) → has_number (owners_in items) owner ≡ true → (also : Bool) → has_number (item_owners item) owner ≡ also → also ≡ false
        before owner has true is = absurd (let apart = numbered_apart n (item_owners item) (owners_in items) owner numbered is in cc)
        before owner has false is = refl

-- ---- lengths

item_long : (item : Item) → length (item_ids item) ≡ length (item_first item)
item_long item = (item_begun (record { holdings = []; live = [] }) item).0

-- ---- the next ids and owners

pub next-cons : (built : Built) (item : Item) (items : List Item) → AreNext built (ids_in (item ∷ items)) (owners_in (item ∷ items)) → AreNext built (item_ids item) (item_owners item) × AreNext (with_item item built) (ids_in items) (owners_in items)
next-cons built item items next =
    let ids = numbered-append (length built.holdings) (item_ids item) (ids_in items) next.ids_next in
    let owners = numbered-append (length built.goings) (item_owners item) (owners_in items) next.owners_next in
    let few = next.few in
    let long = length-append (item_ids item) (ids_in items) in
    let first = item_long item in
    let holdings_long = length-append built.holdings (item_first item) in
    let goings_long = length-append built.goings (item_goings item) in
    let goings_first : length (item_goings item) ≡ length (item_owners item) = length-map (item_owners item) (λ owner. record { ids = item_ids_going owner item false; owners = item_owners_going owner item false }) in
    let ids_at : length built.holdings + length (item_ids item) ≡ length (built.holdings ++ item_first item) = omega arith in
    let owners_at : length built.goings + length (item_owners item) ≡ length (built.goings ++ item_goings item) = omega arith in (
      record { ids_next = ids.0; owners_next = owners.0; few = omega arith },
      record { ids_next = subst (λ (n : ℕ). Numbered n (ids_in items)) ids_at ids.1; owners_next = subst (λ (n : ℕ). Numbered n (owners_in items)) owners_at owners.1; few = omega arith },
    )

-- the items after the first
pub with_items-cons : (built : Built) (item : Item) (items : List Item) → AreNext built (ids_in (item ∷ items)) (owners_in (item ∷ items)) → with_items items (with_item item built) ≡ with_items (item ∷ items) built
with_items-cons built item items next = λ i. record {
  holdings = append_assoc built.holdings (item_first item) (flat_map item_first items) i;
  goings = (append_assoc built.goings (item_goings item) (goings_in items) ∙ ap (λ more. built.goings ++ more) (sym (goings-cons (length built.goings) item items next.owners_next))) i;
}

-- ---- each form of item

with_item-by : (built : Built) (item : Item) (holdings : List Holding) (goings : List Going) → item_first item ≡ holdings → item_goings item ≡ goings → with_item item built ≡ record { holdings = built.holdings ++ holdings; goings = built.goings ++ goings }
with_item-by built item holdings goings first gone = λ i. record { holdings = built.holdings ++ first i; goings = built.goings ++ gone i }

-- one that has no area
with_item-alone : (built : Built) (item : Item) (holdings : List Holding) → item_first item ≡ holdings → item_owners item ≡ [] → with_item item built ≡ with_more holdings built
with_item-alone built item holdings first none =
    with_item-by built item holdings [] first (ap (map (λ owner. record { ids = item_ids_going owner item false; owners = item_owners_going owner item false })) none)
    ∙ (λ i. record { holdings = built.holdings ++ holdings; goings = append-nil built.goings i })

pub with_item-Signal : (built : Built) (id name : ℕ) (start : Code) → with_item (Signal id name start) built ≡ with_more (value start ∷ []) built
unfolding item_first item_owners
with_item-Signal built id name start = with_item-alone built (Signal id name start) (value start ∷ []) (fold-Signal first_step id name start) (fold-Signal owners_step id name start)

pub with_item-Memo : (built : Built) (id name : ℕ) (expr : Expr) → with_item (Memo id name expr) built ≡ with_more (nothing ∷ []) built
unfolding item_first item_owners
with_item-Memo built id name expr = with_item-alone built (Memo id name expr) (nothing ∷ []) (fold-Memo first_step id name expr) (fold-Memo owners_step id name expr)

pub with_item-Effect : (built : Built) (id name : ℕ) (expr : Expr) → with_item (Effect id name expr) built ≡ with_more (nothing ∷ []) built
unfolding item_first item_owners
with_item-Effect built id name expr = with_item-alone built (Effect id name expr) (nothing ∷ []) (fold-Effect first_step id name expr) (fold-Effect owners_step id name expr)

pub with_item-Resource : (built : Built) (id name after : ℕ) (keys values : List Code) → with_item (Resource id name after keys values) built ≡ with_more (nothing ∷ []) built
unfolding item_first item_owners
with_item-Resource built id name after keys values = with_item-alone built (Resource id name after keys values) (nothing ∷ []) (fold-Resource first_step id name after keys values) (fold-Resource owners_step id name after keys values)

pub with_item-Load : (built : Built) (id name resource : ℕ) (key : Expr) → with_item (Load id name resource key) built ≡ with_more (arrived None ∷ nothing ∷ []) built
unfolding item_first item_owners
with_item-Load built id name resource key = with_item-alone built (Load id name resource key) (arrived None ∷ nothing ∷ []) (fold-Load first_step id name resource key) (fold-Load owners_step id name resource key)

pub with_item-Store : (built : Built) (id name max : ℕ) (fields : List ℕ) (starts : List Code) → with_item (Store id name max fields starts) built ≡ with_more (stored (no_rows max (length fields)) ∷ nothing ∷ map (λ field. nothing) fields) built
unfolding item_first item_owners
with_item-Store built id name max fields starts = with_item-alone built (Store id name max fields starts) (stored (no_rows max (length fields)) ∷ nothing ∷ map (λ field. nothing) fields) (fold-Store first_step id name max fields starts) (fold-Store owners_step id name max fields starts)

pub with_item-Cleanup : (built : Built) (text : ℕ) → with_item (Cleanup text) built ≡ built
unfolding item_first item_owners
with_item-Cleanup built text = with_item-alone built (Cleanup text) [] (fold-Cleanup first_step text) (fold-Cleanup owners_step text) ∙ (λ i. record { holdings = append-nil built.holdings i; goings = built.goings })

pub with_item-Text : (built : Built) (text : ℕ) → with_item (Text text) built ≡ built
unfolding item_first item_owners
with_item-Text built text = with_item-alone built (Text text) [] (fold-Text first_step text) (fold-Text owners_step text) ∙ (λ i. record { holdings = append-nil built.holdings i; goings = built.goings })

pub with_item-Shown : (built : Built) (id : ℕ) (expr : Expr) → with_item (Shown id expr) built ≡ with_more (nothing ∷ []) built
unfolding item_first item_owners
with_item-Shown built id expr = with_item-alone built (Shown id expr) (nothing ∷ []) (fold-Shown first_step id expr) (fold-Shown owners_step id expr)

-- ---- forms with items

ids_going-all : (owner : ℕ) (items : List Item) (goes : Bool) → going_all (map (item_ids_going owner) items) goes ≡ ids_going owner items goes
ids_going-all owner [] goes = refl
ids_going-all owner (item ∷ items) goes = ap (λ more. item_ids_going owner item goes ++ more) (ids_going-all owner items goes)

owners_going-all : (owner : ℕ) (items : List Item) (goes : Bool) → going_all (map (item_owners_going owner) items) goes ≡ owners_going owner items goes
owners_going-all owner [] goes = refl
owners_going-all owner (item ∷ items) goes = ap (λ more. item_owners_going owner item goes ++ more) (owners_going-all owner items goes)

-- one with the areas of its items
with_item-around : (built : Built) (item : Item) (items : List Item) (more : List Holding) → item_first item ≡ more ++ flat_map (λ one. one) (map item_first items) → item_owners item ≡ concat (map item_owners items) → ((owner : ℕ) → item_ids_going owner item false ≡ going_all (map (item_ids_going owner) items) false) → ((owner : ℕ) → item_owners_going owner item false ≡ going_all (map (item_owners_going owner) items) false) → with_item item built ≡ with_items items (with_more more built)
with_item-around built item items more first owners ids_go owners_go =
    with_item-by built item (more ++ flat_map item_first items) (goings_in items) (first ∙ ap (λ others. more ++ others) (flat_map-self item_first items)) same
    ∙ (λ i. record { holdings = sym (append_assoc built.holdings more (flat_map item_first items)) i; goings = built.goings ++ goings_in items })
  where
    same : item_goings item ≡ goings_in items
    same = λ i. map (λ owner. record { ids = (ids_go owner ∙ ids_going-all owner items false) i; owners = (owners_go owner ∙ owners_going-all owner items false) i }) ((owners ∙ concat-map item_owners items) i)

pub with_item-If : (built : Built) (id : ℕ) (cond : Expr) (items : List Item) → with_item (If id cond items) built ≡ with_items items (with_more (nothing ∷ []) built)
unfolding item_first item_owners item_ids_going item_owners_going
with_item-If built id cond items = with_item-around built (If id cond items) items (nothing ∷ []) (fold-If first_step id cond items) (fold-If owners_step id cond items) (λ owner. at-If (ids_going_step owner) id cond items false) (λ owner. at-If (owners_going_step owner) id cond items false)

pub with_item-Each : (built : Built) (id store : ℕ) (items : List Item) → with_item (Each id store items) built ≡ with_items items (with_more (nothing ∷ []) built)
unfolding item_first item_owners item_ids_going item_owners_going
with_item-Each built id store items = with_item-around built (Each id store items) items (nothing ∷ []) (fold-Each first_step id store items) (fold-Each owners_step id store items) (λ owner. at-Each (ids_going_step owner) id store items false) (λ owner. at-Each (owners_going_step owner) id store items false)

pub with_item-Element : (built : Built) (tag : ℕ) (closed : Bool) (attrs : List Attr) (items : List Item) → with_item (Element tag closed attrs items) built ≡ with_items items (with_more (flat_map first_attr attrs) built)
unfolding item_first item_owners item_ids_going item_owners_going
with_item-Element built tag closed attrs items = with_item-around built (Element tag closed attrs items) items (flat_map first_attr attrs) (fold-Element first_step tag closed attrs items) (fold-Element owners_step tag closed attrs items) (λ owner. at-Element (ids_going_step owner) tag closed attrs items false) (λ owner. at-Element (owners_going_step owner) tag closed attrs items false)

-- ---- what is next inside a form

next-behind : (built : Built) (ids others owners : List ℕ) (more : List Holding) → length ids ≡ length more → AreNext built (ids ++ others) owners → AreNext (with_more more built) others owners
next-behind built ids others owners more same next =
    let parts = numbered-append (length built.holdings) ids others next.ids_next in
    let long = length-append ids others in
    let few = next.few in
    let holdings_long = length-append built.holdings more in
    let at : length built.holdings + length ids ≡ length (built.holdings ++ more) = omega arith in
    record { ids_next = subst (λ (n : ℕ). Numbered n others) at parts.1; owners_next = next.owners_next; few = omega arith }

next-around : (built : Built) (item : Item) (items : List Item) (ids : List ℕ) (more : List Holding) → length ids ≡ length more → item_ids item ≡ ids ++ concat (map item_ids items) → item_owners item ≡ concat (map item_owners items) → AreNext built (item_ids item) (item_owners item) → AreNext (with_more more built) (ids_in items) (owners_in items)
next-around built item items ids more same ids_are owners_are next =
    next-behind built ids (ids_in items) (owners_in items) more same
    (subst (λ (numbers : List ℕ). AreNext built numbers (owners_in items)) (ids_are ∙ ap (λ others. ids ++ others) (concat-map item_ids items))
    (subst (AreNext built (item_ids item)) (owners_are ∙ concat-map item_owners items) next))

pub next-If : (built : Built) (id : ℕ) (cond : Expr) (items : List Item) → AreNext built (item_ids (If id cond items)) (item_owners (If id cond items)) → AreNext (with_more (nothing ∷ []) built) (ids_in items) (owners_in items)
unfolding item_ids item_owners
next-If built id cond items next = next-around built (If id cond items) items (id ∷ []) (nothing ∷ []) refl (fold-If ids_step id cond items) (fold-If owners_step id cond items) next

pub next-Each : (built : Built) (id store : ℕ) (items : List Item) → AreNext built (item_ids (Each id store items)) (item_owners (Each id store items)) → AreNext (with_more (nothing ∷ []) built) (ids_in items) (owners_in items)
unfolding item_ids item_owners
next-Each built id store items next = next-around built (Each id store items) items (id ∷ []) (nothing ∷ []) refl (fold-Each ids_step id store items) (fold-Each owners_step id store items) next

pub next-Element : (built : Built) (tag : ℕ) (closed : Bool) (attrs : List Attr) (items : List Item) → AreNext built (item_ids (Element tag closed attrs items)) (item_owners (Element tag closed attrs items)) → AreNext (with_more (flat_map first_attr attrs) built) (ids_in items) (owners_in items)
unfolding item_ids item_owners
next-Element built tag closed attrs items next = next-around built (Element tag closed attrs items) items (flat_map attr_ids attrs) (flat_map first_attr attrs) (attrs_long attrs) (fold-Element ids_step tag closed attrs items) (fold-Element owners_step tag closed attrs items) next

-- ---- areas

area_owners : (id name own : ℕ) (items : List Item) → item_owners (Area id name own items) ≡ own ∷ owners_in items
unfolding item_owners
area_owners id name own items = fold-Area owners_step id name own items ∙ ap (λ more. own ∷ more) (concat-map item_owners items)

area_ids : (id name own : ℕ) (items : List Item) → item_ids (Area id name own items) ≡ id ∷ ids_in items
unfolding item_ids
area_ids id name own items = fold-Area ids_step id name own items ∙ ap (λ more. id ∷ more) (concat-map item_ids items)

area_first : (id name own : ℕ) (items : List Item) → item_first (Area id name own items) ≡ nothing ∷ flat_map item_first items
unfolding item_first
area_first id name own items = fold-Area first_step id name own items ∙ ap (λ more. nothing ∷ more) (flat_map-self item_first items)

area_ids_going : (id name own : ℕ) (items : List Item) (owner : ℕ) → item_ids_going owner (Area id name own items) false ≡ ids_going owner items (own == owner)
unfolding item_ids_going
area_ids_going id name own items owner = at-Area (ids_going_step owner) id name own items false ∙ ids_going-all owner items (own == owner)

area_owners_going : (id name own : ℕ) (items : List Item) (owner : ℕ) → item_owners_going owner (Area id name own items) false ≡ going_if (own == owner) (own ∷ []) ++ owners_going owner items (own == owner)
unfolding item_owners_going
area_owners_going id name own items owner = at-Area (owners_going_step owner) id name own items false ∙ ap (λ more. going_if (own == owner) (own ∷ []) ++ more) (owners_going-all owner items (own == owner))

itself : (n : ℕ) → (n == n) ≡ true
itself n = grind arith

area_goings : (n id name own : ℕ) (items : List Item) → Numbered n (own ∷ owners_in items) → item_goings (Area id name own items) ≡ record { ids = ids_in items; owners = own ∷ owners_in items } ∷ goings_in items
area_goings n id name own items numbered =
    ap (map (λ owner. record { ids = item_ids_going owner (Area id name own items) false; owners = item_owners_going owner (Area id name own items) false })) (area_owners id name own items)
    ∙ (λ i. whole i ∷ map_same (λ owner. record { ids = item_ids_going owner (Area id name own items) false; owners = item_owners_going owner (Area id name own items) false }) (λ owner. record { ids = ids_going owner items false; owners = owners_going owner items false }) (owners_in items) others i)
  where
    whole : ◌≡◌ {A = Going} (record { ids = item_ids_going own (Area id name own items) false; owners = item_owners_going own (Area id name own items) false }) (record { ids = ids_in items; owners = own ∷ owners_in items })
    whole = λ i. record {
      ids = (area_ids_going id name own items own ∙ ap (ids_going own items) (itself own) ∙ (items_go own items).all_ids) i;
      owners = (area_owners_going id name own items own ∙ ap (λ (b : Bool). going_if b (own ∷ []) ++ owners_going own items b) (itself own) ∙ ap (λ more. own ∷ more) (items_go own items).all_owners) i;
    }

    differs : (owner : ℕ) → has_number (owners_in items) owner ≡ true → (own == owner) ≡ false
    differs owner has = at (own == owner) refl
      where
        at : (b : Bool) → (own == owner) ≡ b → b ≡ false
        at true is = let first = numbered-cons n own (owners_in items) numbered in let bounds = numbered_bounds (n + 1) (owners_in items) owner first.1 has in let same : own ≡ owner = grind arith in let start = first.0 in absurd (omega arith)
        at false is = refl

    others : (owner : ℕ) → has_number (owners_in items) owner ≡ true → ◌≡◌ {A = Going} (record { ids = item_ids_going owner (Area id name own items) false; owners = item_owners_going owner (Area id name own items) false }) (record { ids = ids_going owner items false; owners = owners_going owner items false })
    others owner has = λ i. record {
      ids = (area_ids_going id name own items owner ∙ ap (ids_going owner items) (differs owner has)) i;
      owners = (area_owners_going id name own items owner ∙ ap (λ (b : Bool). going_if b (own ∷ []) ++ owners_going owner items b) (differs owner has)) i;
    }

pub with_item-Area : (built : Built) (id name own : ℕ) (items : List Item) → AreNext built (item_ids (Area id name own items)) (item_owners (Area id name own items)) → with_item (Area id name own items) built ≡ with_area items (with_more (nothing ∷ []) built)
with_item-Area built id name own items next =
    let numbered : Numbered (length built.goings) (own ∷ owners_in items) = subst (Numbered (length built.goings)) (area_owners id name own items) next.owners_next in
    let first = numbered-cons (length built.goings) own (owners_in items) numbered in
    with_item-by built (Area id name own items) (nothing ∷ flat_map item_first items) (record { ids = ids_in items; owners = own ∷ owners_in items } ∷ goings_in items) (area_first id name own items) (area_goings (length built.goings) id name own items numbered)
    ∙ (λ i. record { holdings = sym (append_assoc built.holdings (nothing ∷ []) (flat_map item_first items)) i; goings = built.goings ++ record { ids = ids_in items; owners = first.0 i ∷ owners_in items } ∷ goings_in items })

pub next-Area : (built : Built) (id name own : ℕ) (items : List Item) → AreNext built (item_ids (Area id name own items)) (item_owners (Area id name own items)) → AreNext (with_more (nothing ∷ []) built) (ids_in items) (length built.goings ∷ owners_in items)
next-Area built id name own items next =
    let owners_are : AreNext built (item_ids (Area id name own items)) (own ∷ owners_in items) = subst (AreNext built (item_ids (Area id name own items))) (area_owners id name own items) next in
    let both : AreNext built (id ∷ ids_in items) (own ∷ owners_in items) = subst (λ (ids : List ℕ). AreNext built ids (own ∷ owners_in items)) (area_ids id name own items) owners_are in
    let first = numbered-cons (length built.goings) own (owners_in items) both.owners_next in
    subst (λ (n : ℕ). AreNext (with_more (nothing ∷ []) built) (ids_in items) (n ∷ owners_in items)) first.0 (next-behind built (id ∷ []) (ids_in items) (own ∷ owners_in items) (nothing ∷ []) refl both)

-- an owner in the middle
set_middle : {A : Type 0} (before : List A) (x : A) (after : List A) (y : A) → set ((before ++ x ∷ []) ++ after) (length before) y ≡ before ++ y ∷ after
set_middle [] x after y = refl
set_middle (z ∷ before) x after y = ap (λ more. z ∷ more) (set_middle before x after y)

-- what was put first for an owner is made good behind its items
pub area-built : (built : Built) (items : List Item) (first going : Going) (past_id past_owner : ℕ) → AreNext built (ids_in items) (length built.goings ∷ owners_in items) → past_id ≡ length (built.holdings ++ flat_map item_first items) → past_owner ≡ length ((built.goings ++ first ∷ []) ++ goings_in items) → going ≡ record { ids = numbers_from (length built.holdings) past_id; owners = numbers_from (length built.goings) past_owner } → set ((built.goings ++ first ∷ []) ++ goings_in items) (length built.goings) going ≡ built.goings ++ record { ids = ids_in items; owners = length built.goings ∷ owners_in items } ∷ goings_in items
area-built built items first going past_id past_owner next ids_past owners_past is =
    set_middle built.goings first (goings_in items) going
    ∙ (λ i. built.goings ++ (is ∙ same) i ∷ goings_in items)
  where
    ids_count : length (ids_in items) ≡ past_id - length built.holdings
    ids_count =
        let long = (items_begun (record { holdings = []; live = [] }) items).0 in
        let all = length-append built.holdings (flat_map item_first items) in
        omega arith

    owners_count : length (length built.goings ∷ owners_in items) ≡ past_owner - length built.goings
    owners_count =
        let long : length (goings_in items) ≡ length (owners_in items) = length-map (owners_in items) (λ owner. record { ids = ids_going owner items false; owners = owners_going owner items false }) in
        let all = length-append (built.goings ++ first ∷ []) (goings_in items) in
        let one = length-append built.goings (first ∷ []) in
        omega arith

    same : ◌≡◌ {A = Going} (record { ids = numbers_from (length built.holdings) past_id; owners = numbers_from (length built.goings) past_owner }) (record { ids = ids_in items; owners = length built.goings ∷ owners_in items })
    same = λ i. record {
      ids = sym (next.ids_next ∙ ap (range_with_len (length built.holdings)) ids_count) i;
      owners = sym (next.owners_next ∙ ap (range_with_len (length built.goings)) owners_count) i;
    }

-- ---- as the code says it

-- what a call gave, said in another way
pub ok_then : {A E X : Type 0} (r : Result A E) (a b d : X) → OnOk r (a ≡ b) → b ≡ d → OnOk r (a ≡ d)
ok_then (Ok x) a b d first then = first ∙ then
ok_then (Err e) a b d first then = tt

pub store_few : (built : Built) (item : Item) (id name max : ℕ) (fields : List ℕ) (starts : List Code) → item ≡ Store id name max fields starts → AreNext built (item_ids item) (item_owners item) → length fields < 2 ^ 32
unfolding item_ids
store_few built item id name max fields starts is next =
    let ids : item_ids item ≡ range_with_len id (2 + length fields) = ap item_ids is ∙ fold-Store ids_step id name max fields starts in
    let long : length (item_ids item) ≡ 2 + length fields = ap length ids ∙ length-range_with_len id (2 + length fields) in
    let few = next.few in
    omega arith

-- the first of the items from a place on
pub from_place : (items : List Item) (place : ℕ) (item : Item) → place < length items → item ≡ get_or items place item → drop place items ≡ item ∷ drop (place + 1) items
from_place items place item within is = drop-cons items place item within ∙ (λ i. sym is i ∷ drop (after i) items)
  where
    after : suc place ≡ place + 1
    after = omega arith

-- a step of the loop
pub loop_same : (one two first : Built) (items : List Item) (place : ℕ) (item : Item) → drop place items ≡ item ∷ drop (place + 1) items → with_items (drop place items) one ≡ first → AreNext one (ids_in (drop place items)) (owners_in (drop place items)) → two ≡ with_item item one → with_items (drop (place + 1) items) two ≡ first
loop_same one two first items place item cut same next is =
    ap (with_items (drop (place + 1) items)) is
    ∙ with_items-cons one item (drop (place + 1) items) (subst (λ (rest : List Item). AreNext one (ids_in rest) (owners_in rest)) cut next)
    ∙ sym (ap (λ (rest : List Item). with_items rest one) cut)
    ∙ same

pub loop_now : (one : Built) (items : List Item) (place : ℕ) (item : Item) → drop place items ≡ item ∷ drop (place + 1) items → AreNext one (ids_in (drop place items)) (owners_in (drop place items)) → AreNext one (item_ids item) (item_owners item)
loop_now one items place item cut next = (next-cons one item (drop (place + 1) items) (subst (λ (rest : List Item). AreNext one (ids_in rest) (owners_in rest)) cut next)).0

pub loop_next : (one two : Built) (items : List Item) (place : ℕ) (item : Item) → drop place items ≡ item ∷ drop (place + 1) items → AreNext one (ids_in (drop place items)) (owners_in (drop place items)) → two ≡ with_item item one → AreNext two (ids_in (drop (place + 1) items)) (owners_in (drop (place + 1) items))
loop_next one two items place item cut next is =
    subst (λ (b : Built). AreNext b (ids_in (drop (place + 1) items)) (owners_in (drop (place + 1) items))) (sym is) (next-cons one item (drop (place + 1) items) (subst (λ (rest : List Item). AreNext one (ids_in rest) (owners_in rest)) cut next)).1

-- what is in a form, where the code has it
pub moved_next : (one two : Built) (items others : List Item) → two ≡ one → others ≡ items → AreNext one (ids_in items) (owners_in items) → AreNext two (ids_in others) (owners_in others)
moved_next one two items others same are next =
    subst (λ (b : Built). AreNext b (ids_in others) (owners_in others)) (sym same) (subst (λ (list : List Item). AreNext one (ids_in list) (owners_in list)) (sym are) next)

pub moved_area : (one two : Built) (items others : List Item) → two ≡ one → others ≡ items → AreNext one (ids_in items) (length one.goings ∷ owners_in items) → AreNext two (ids_in others) (length two.goings ∷ owners_in others)
moved_area one two items others same are next =
    subst (λ (b : Built). AreNext b (ids_in others) (length b.goings ∷ owners_in others)) (sym same) (subst (λ (list : List Item). AreNext one (ids_in list) (length one.goings ∷ owners_in list)) (sym are) next)

pub moved_items : (one two : Built) (items others : List Item) → two ≡ one → others ≡ items → with_items others two ≡ with_items items one
moved_items one two items others same are = λ i. with_items (are i) (same i)

pub moved_whole : (one two : Built) (items others : List Item) → two ≡ one → others ≡ items → with_area others two ≡ with_area items one
moved_whole one two items others same are = λ i. with_area (are i) (same i)

pub more_more : (built : Built) (more others : List Holding) → with_more others (with_more more built) ≡ with_more (more ++ others) built
more_more built more others = λ i. record { holdings = append_assoc built.holdings more others i; goings = built.goings }

-- fields of a store, one after another
pub fields_step : (one two first : Built) (fields : List ℕ) (place : ℕ) → place < length fields → with_more (map (λ field. nothing) (drop place fields)) one ≡ first → two ≡ with_more (nothing ∷ []) one → with_more (map (λ field. nothing) (drop (place + 1) fields)) two ≡ first
fields_step one two first fields place within same is =
    ap (with_more (map (λ field. nothing) (drop (place + 1) fields))) is
    ∙ more_more one (nothing ∷ []) (map (λ field. nothing) (drop (place + 1) fields))
    ∙ sym (ap (λ (rest : List ℕ). with_more (map (λ field. nothing) rest) one) (drop-cons fields place 0 within ∙ ap (λ (n : ℕ). get_or fields place 0 ∷ drop n fields) {x = suc place} {y = place + 1} (omega arith)))
    ∙ same

-- an area, with what goes with it
pub area_step : (one two : Built) (items : List Item) (first : Going) (first_id first_owner past_id past_owner : ℕ) → AreNext one (ids_in items) (length one.goings ∷ owners_in items) → two ≡ with_items items (record { holdings = one.holdings; goings = one.goings ++ first ∷ [] }) → first_id ≡ length one.holdings → first_owner ≡ length one.goings → past_id ≡ length two.holdings → past_owner ≡ length two.goings → ◌≡◌ {A = Built} (record { holdings = two.holdings; goings = set two.goings first_owner (record { ids = numbers_from first_id past_id; owners = numbers_from first_owner past_owner }) }) (with_area items one)
area_step one two items first first_id first_owner past_id past_owner next is id_is owner_is past_id_is past_owner_is = λ i. record { holdings = (is i).holdings; goings = goings_are i }
  where
    going_is : ◌≡◌ {A = Going} (record { ids = numbers_from first_id past_id; owners = numbers_from first_owner past_owner }) (record { ids = numbers_from (length one.holdings) past_id; owners = numbers_from (length one.goings) past_owner })
    going_is = λ i. record { ids = numbers_from (id_is i) past_id; owners = numbers_from (owner_is i) past_owner }

    placed : set two.goings first_owner (record { ids = numbers_from first_id past_id; owners = numbers_from first_owner past_owner }) ≡ set ((one.goings ++ first ∷ []) ++ goings_in items) (length one.goings) (record { ids = numbers_from first_id past_id; owners = numbers_from first_owner past_owner })
    placed = λ i. set ((is i).goings) (owner_is i) (record { ids = numbers_from first_id past_id; owners = numbers_from first_owner past_owner })

    goings_are : set two.goings first_owner (record { ids = numbers_from first_id past_id; owners = numbers_from first_owner past_owner }) ≡ one.goings ++ record { ids = ids_in items; owners = length one.goings ∷ owners_in items } ∷ goings_in items
    goings_are = placed ∙ area-built one items first (record { ids = numbers_from first_id past_id; owners = numbers_from first_owner past_owner }) past_id past_owner next (past_id_is ∙ ap (λ (b : Built). length b.holdings) is) (past_owner_is ∙ ap (λ (b : Built). length b.goings) is) going_is
