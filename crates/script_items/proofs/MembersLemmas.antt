-- The members of a component take ids and owners of it.
use Rattle.std.proofs.Common.{◌≡◌, ℕ, zero, suc, ◌+◌, ◌<◌, ◌≤◌, List, [], ◌∷◌, ◌++◌, length, map, Contains, sym, subst, arith}
use Rattle.std.specs.List.{AllByRecursion as Each, flat_map, concat, range_with_len}
use Rattle.std.proofs.lemmas.List.Elements.{All-from_recursion, All-contains, All-contains_itself, recursion_from_All, Contains-push, Contains-append_left, Contains-append_right}
use Rattle.values.specs.declared.limits.TheConstants.{MOST_OWNERS}
use Rattle.component_items.specs.declared.component.Component.{Component}
use Rattle.component_items.specs.declared.component.Item.{Item}
use Rattle.component_items.specs.declared.component.Item.TheOpen as level
use Rattle.component_items.specs.declared.component.Item.TheOpen.{Item-F}
use Rattle.component_items.specs.declared.component.Item.TheViews.{roll-Item}
use Rattle.component_items.specs.declared.component.Item.TheFolds.{fold-roll-Item, map-Item, ind-Item}
use Rattle.component_items.specs.Ids.{attr_ids, ids_step, item_ids, ids_in, owners_step, item_owners, owners_in}
use Rattle.component_items.specs.Kept.{IsKept}
use Rattle.script_items.specs.Members.{Member, a_signal, a_memo, a_load, a_store, an_area, members_step, item_members, members_of, ids_taken}

-- ---- lists

each_more : {X : Type 0} (P Q : X → Type 0) → ((x : X) → P x → Q x) → (xs : List X) → Each P xs → Each Q xs
each_more P Q more [] h = tt
each_more P Q more (x ∷ xs) h = (more x h.0, each_more P Q more xs h.1)

each_append : {X : Type 0} (P : X → Type 0) (xs ys : List X) → Each P xs → Each P ys → Each P (xs ++ ys)
each_append P [] ys h g = g
each_append P (x ∷ xs) ys h g = (h.0, each_append P xs ys h.1 g)

first : {X : Type 0} (x : X) (xs : List X) → Contains (x ∷ xs) x
first x xs = Contains-append_left (x ∷ []) xs x (Contains-push [] x)

itself : (xs : List ℕ) → Each (Contains xs) xs
itself xs = recursion_from_All (Contains xs) xs (All-contains_itself xs)

-- numbers from one on are not below it, and below the one behind the last
in_range : (from count : ℕ) → Each (λ n. (from ≤ n) × (n < from + count)) (range_with_len from count)
in_range from zero = tt
in_range from (suc count) =
    ((omega arith, omega arith), each_more (λ n. (from + 1 ≤ n) × (n < from + 1 + count)) (λ n. (from ≤ n) × (n < from + suc count)) (λ n h. (omega (arith, h.0), omega (arith, h.1))) (range_with_len (from + 1) count) (in_range (from + 1) count))

-- ---- items

-- the member takes ids and an owner among these
abbrev IsAmong : List ℕ → List ℕ → Member → Type 0
IsAmong ids owners (an_area owner) = Contains owners owner
IsAmong ids owners (a_signal id) = Each (Contains ids) (id ∷ [])
IsAmong ids owners (a_memo id) = Each (Contains ids) (id ∷ [])
IsAmong ids owners (a_load id) = Each (Contains ids) (id ∷ suc id ∷ [])
IsAmong ids owners (a_store id fields) = Each (Contains ids) (range_with_len id (2 + fields))

module _ (ids others owners further : List ℕ) (more : (n : ℕ) → Contains ids n → Contains others n) (wider : (n : ℕ) → Contains owners n → Contains further n) where
  among_more : (m : Member) → IsAmong ids owners m → IsAmong others further m
  among_more (an_area owner) h = wider owner h
  among_more (a_signal id) h = each_more (Contains ids) (Contains others) more (id ∷ []) h
  among_more (a_memo id) h = each_more (Contains ids) (Contains others) more (id ∷ []) h
  among_more (a_load id) h = each_more (Contains ids) (Contains others) more (id ∷ suc id ∷ []) h
  among_more (a_store id fields) h = each_more (Contains ids) (Contains others) more (range_with_len id (2 + fields)) h

  all_more : (members : List Member) → Each (IsAmong ids owners) members → Each (IsAmong others further) members
  all_more members h = each_more (IsAmong ids owners) (IsAmong others further) among_more members h

abbrev Among : Item → Type 0
Among i = Each (IsAmong (item_ids i) (item_owners i)) (item_members i)

abbrev Known : Type 0
Known = (i : Item) × Among i

members_layer : (x : Item-F Item) → item_members (roll-Item x) ≡ members_step (map-Item Item (List Member) item_members x)
unfolding item_members
members_layer x = fold-roll-Item (List Member) members_step x

ids_layer : (x : Item-F Item) → item_ids (roll-Item x) ≡ ids_step (map-Item Item (List ℕ) item_ids x)
unfolding item_ids
ids_layer x = fold-roll-Item (List ℕ) ids_step x

owners_layer : (x : Item-F Item) → item_owners (roll-Item x) ≡ owners_step (map-Item Item (List ℕ) item_owners x)
unfolding item_owners
owners_layer x = fold-roll-Item (List ℕ) owners_step x

abbrev items_of : List Known → List Item
items_of known = map (λ k. k.0) known

inner : (known : List Known) → Each (IsAmong (concat (map item_ids (items_of known))) (concat (map item_owners (items_of known)))) (flat_map (λ one. one) (map item_members (items_of known)))
inner [] = tt
inner (k ∷ known) =
    let ids = concat (map item_ids (items_of known)) in
    let owners = concat (map item_owners (items_of known)) in
    let members = flat_map (λ one. one) (map item_members (items_of known)) in
    each_append (IsAmong (item_ids k.0 ++ ids) (item_owners k.0 ++ owners)) (item_members k.0) members
    (all_more (item_ids k.0) (item_ids k.0 ++ ids) (item_owners k.0) (item_owners k.0 ++ owners) (λ n. Contains-append_left (item_ids k.0) ids n) (λ n. Contains-append_left (item_owners k.0) owners n) (item_members k.0) k.1)
    (all_more ids (item_ids k.0 ++ ids) owners (item_owners k.0 ++ owners) (λ n. Contains-append_right (item_ids k.0) ids n) (λ n. Contains-append_right (item_owners k.0) owners n) members (inner known))

step : (y : Item-F Known) → Each (IsAmong (ids_step (map-Item Item (List ℕ) item_ids (map-Item Known Item (λ k. k.0) y))) (owners_step (map-Item Item (List ℕ) item_owners (map-Item Known Item (λ k. k.0) y))))
    (members_step (map-Item Item (List Member) item_members (map-Item Known Item (λ k. k.0) y)))
step (level.Signal id name start) = (itself (id ∷ []), tt)
step (level.Memo id name expr) = (itself (id ∷ []), tt)
step (level.Effect id name expr) = tt
step (level.Resource id name after keys values) = tt
step (level.Load id name resource key) = (itself (id ∷ suc id ∷ []), tt)
step (level.Store id name max fields starts) = (itself (range_with_len id (2 + length fields)), tt)
step (level.Cleanup text) = tt
step (level.Area id name owner known) =
    let ids = concat (map item_ids (items_of known)) in
    let owners = concat (map item_owners (items_of known)) in
    (first owner owners, all_more ids (id ∷ ids) owners (owner ∷ owners) (λ n. Contains-append_right (id ∷ []) ids n) (λ n. Contains-append_right (owner ∷ []) owners n) _ (inner known))
step (level.If id cond known) = tt
step (level.Each id store known) = tt
step (level.Element tag closed attrs known) =
    let ids = concat (map item_ids (items_of known)) in
    let owners = concat (map item_owners (items_of known)) in
    all_more ids (flat_map attr_ids attrs ++ ids) owners owners (λ n. Contains-append_right (flat_map attr_ids attrs) ids n) (λ n h. h) _ (inner known)
step (level.Text text) = tt
step (level.Shown id expr) = tt

by_form : (y : Item-F Known) → Among (roll-Item (map-Item Known Item (λ k. k.0) y))
by_form y =
    subst (λ (ids : List ℕ). Each (IsAmong ids (item_owners (roll-Item (map-Item Known Item (λ k. k.0) y)))) (item_members (roll-Item (map-Item Known Item (λ k. k.0) y)))) (sym (ids_layer _))
    (subst (λ (owners : List ℕ). Each (IsAmong (ids_step (map-Item Item (List ℕ) item_ids (map-Item Known Item (λ k. k.0) y))) owners) (item_members (roll-Item (map-Item Known Item (λ k. k.0) y)))) (sym (owners_layer _))
    (subst (λ (members : List Member). Each (IsAmong (ids_step (map-Item Item (List ℕ) item_ids (map-Item Known Item (λ k. k.0) y))) (owners_step (map-Item Item (List ℕ) item_owners (map-Item Known Item (λ k. k.0) y)))) members) (sym (members_layer _)) (step y)))

item_among : (i : Item) → Among i
item_among = ind-Item Among (λ x y is. subst (λ z. Among (roll-Item z)) is (by_form y))

all_among : (items : List Item) → Each (IsAmong (ids_in items) (owners_in items)) (members_of items)
all_among [] = tt
all_among (i ∷ items) =
    each_append (IsAmong (ids_in (i ∷ items)) (owners_in (i ∷ items))) (item_members i) (members_of items)
    (all_more (item_ids i) (ids_in (i ∷ items)) (item_owners i) (owners_in (i ∷ items)) (λ n. Contains-append_left (item_ids i) (ids_in items) n) (λ n. Contains-append_left (item_owners i) (owners_in items) n) (item_members i) (item_among i))
    (all_more (ids_in items) (ids_in (i ∷ items)) (owners_in items) (owners_in (i ∷ items)) (λ n. Contains-append_right (item_ids i) (ids_in items) n) (λ n. Contains-append_right (item_owners i) (owners_in items) n) (members_of items) (all_among items))

-- ---- components

member_among : (items : List Item) (m : Member) → Contains (members_of items) m → IsAmong (ids_in items) (owners_in items) m
member_among items m h = All-contains (IsAmong (ids_in items) (owners_in items)) (members_of items) m (All-from_recursion (IsAmong (ids_in items) (owners_in items)) (members_of items) (all_among items)) h

ids_among : (ids owners : List ℕ) (m : Member) → IsAmong ids owners m → Each (Contains ids) (ids_taken m)
ids_among ids owners (an_area owner) h = tt
ids_among ids owners (a_signal id) h = h
ids_among ids owners (a_memo id) h = h
ids_among ids owners (a_load id) h = h
ids_among ids owners (a_store id fields) h = h

numbered : (ns : List ℕ) (from n : ℕ) → ns ≡ range_with_len from (length ns) → Contains ns n → (from ≤ n) × (n < from + length ns)
numbered ns from n is h =
    All-contains (λ k. (from ≤ k) × (k < from + length ns)) (range_with_len from (length ns)) n
    (All-from_recursion (λ k. (from ≤ k) × (k < from + length ns)) (range_with_len from (length ns)) (in_range from (length ns))) (subst (λ (l : List ℕ). Contains l n) is h)

pub ids_within : (component : Component) (member : Member) (id : ℕ) → IsKept component → Contains (members_of component.items) member → Contains (ids_taken member) id → id < length (ids_in component.items)
ids_within component member id kept has takes =
    let among = ids_among (ids_in component.items) (owners_in component.items) member (member_among component.items member has) in
    let taken = All-contains (Contains (ids_in component.items)) (ids_taken member) id (All-from_recursion (Contains (ids_in component.items)) (ids_taken member) among) takes in
    let range = numbered (ids_in component.items) 0 id kept.numbered.ids taken in
    omega (arith, range.1)

pub owners_within : (component : Component) (owner : ℕ) → IsKept component → Contains (members_of component.items) (an_area owner) → (0 < owner) × (owner < MOST_OWNERS)
owners_within component owner kept has =
    let range = numbered (owners_in component.items) 1 owner kept.numbered.owners (member_among component.items (an_area owner) has) in
    (omega (arith, range.0), omega (arith, range.1, kept.few_owners))
