-- The areas that a script may name are among the owners of the component.
use Rattle.std.proofs.Common.{ℕ, ◌<◌, List, [], ◌∷◌, length, map, Contains, inl, inr, refl, sym, subst, arith}
use Rattle.std.specs.List.{AllByRecursion as Each, flat_map, concat}
use Rattle.std.proofs.lemmas.List.Elements.{All-from_recursion, All-contains}
use Rattle.component_items.specs.declared.component.Component.{Component}
use Rattle.component_items.specs.declared.component.Item.{Item}
use Rattle.component_items.specs.declared.component.Item.TheOpen as level
use Rattle.component_items.specs.declared.component.Item.TheOpen.{Item-F}
use Rattle.component_items.specs.declared.component.Item.TheViews.{roll-Item}
use Rattle.component_items.specs.declared.component.Item.TheFolds.{fold-roll-Item, map-Item, ind-Item}
use Rattle.component_items.specs.Ids.{owners_step, item_owners, owners_in}
use Rattle.component_items.specs.Kept.{IsKept}
use Rattle.script_items.specs.Members.{Member, a_signal, a_memo, a_load, a_store, an_area, members_step, item_members, members_of}
use Rattle.plan_meaning.specs.Owners.{plan_owners}
use Rattle.run_meaning.specs.Words.{In}
use Rattle.run_meaning.proofs.Areas.{owners_long}
use Rattle.run_meaning.proofs.Bounds.{in_range}
use Rattle.lane_run.proofs.Owned.{each_append, in_left, in_right}

-- the owner of the area is one of these
abbrev HasArea : List ℕ → Member → Type 0
HasArea owners (a_signal id) = Unit {0}
HasArea owners (a_memo id) = Unit {0}
HasArea owners (a_load id) = Unit {0}
HasArea owners (a_store id fields) = Unit {0}
HasArea owners (an_area owner) = In owner owners

-- the areas among the members of what has these owners
abbrev AreAmong : List ℕ → List Member → Type 0
AreAmong own members = (owners : List ℕ) → ((n : ℕ) → In n own → In n owners) → Each (HasArea owners) members

abbrev ItemAmong : Item → Type 0
ItemAmong item = AreAmong (item_owners item) (item_members item)

abbrev Proven : Type 0
Proven = (item : Item) × ItemAmong item

abbrev items_of : List Proven → List Item
items_of known = map (λ k. k.0) known

abbrev FormAmong : Item-F Item → Type 0
FormAmong x = AreAmong (owners_step (map-Item Item (List ℕ) item_owners x)) (members_step (map-Item Item (List Member) item_members x))

rolled : (x : Item-F Item) → FormAmong x → ItemAmong (roll-Item x)
unfolding item_owners item_members
rolled x among =
    subst (λ ms. AreAmong (item_owners (roll-Item x)) ms) (sym (fold-roll-Item (List Member) members_step x))
    (subst (λ own. AreAmong own (members_step (map-Item Item (List Member) item_members x))) (sym (fold-roll-Item (List ℕ) owners_step x)) among)

block : (known : List Proven) → AreAmong (concat (map item_owners (items_of known))) (flat_map (λ one. one) (map item_members (items_of known)))
block [] owners among = tt
block (k ∷ known) owners among =
    let rest = concat (map item_owners (items_of known)) in
    each_append (HasArea owners) (item_members k.0) (flat_map (λ one. one) (map item_members (items_of known)))
    (k.1 owners (λ n j. among n (in_left n (item_owners k.0) rest j)))
    (block known owners (λ n j. among n (in_right n (item_owners k.0) rest j)))

by_form : (y : Item-F Proven) → FormAmong (map-Item Proven Item (λ k. k.0) y)
by_form (level.Signal id name start) owners among = (tt, tt)
by_form (level.Memo id name expr) owners among = (tt, tt)
by_form (level.Effect id name expr) owners among = tt
by_form (level.Resource id name after keys values) owners among = tt
by_form (level.Load id name resource key) owners among = (tt, tt)
by_form (level.Store id name max fields starts) owners among = (tt, tt)
by_form (level.Cleanup text) owners among = tt
by_form (level.Area id name owner known) owners among = (among owner (inl refl), block known owners (λ n j. among n (inr j)))
by_form (level.If id cond known) owners among = tt
by_form (level.Each id store known) owners among = tt
by_form (level.Element tag closed attrs known) owners among = block known owners among
by_form (level.Text text) owners among = tt
by_form (level.Shown id expr) owners among = tt

item_among : (item : Item) → ItemAmong item
item_among = ind-Item ItemAmong (λ x y is. subst (λ z. ItemAmong (roll-Item z)) is (rolled (map-Item Proven Item (λ k. k.0) y) (by_form y)))

text_among : (items : List Item) → AreAmong (owners_in items) (members_of items)
text_among [] owners among = tt
text_among (item ∷ items) owners among =
    each_append (HasArea owners) (item_members item) (members_of items)
    (item_among item owners (λ n j. among n (in_left n (item_owners item) (owners_in items) j)))
    (text_among items owners (λ n j. among n (in_right n (item_owners item) (owners_in items) j)))

-- an area that is named is one of the component's
pub area_within : (component : Component) → IsKept component → (owner : ℕ) → Contains (members_of component.items) (an_area owner) → owner < length (plan_owners component)
area_within component kept owner has =
    let owners = owners_in component.items in
    let each = text_among component.items owners (λ n j. j) in
    let among : In owner owners = All-contains (HasArea owners) (members_of component.items) (an_area owner) (All-from_recursion (HasArea owners) (members_of component.items) each) has in
    let long = owners_long component kept in
    let r = in_range 1 (length owners) owner (subst (λ (ns : List ℕ). In owner ns) kept.numbered.owners among) in
    omega arith
