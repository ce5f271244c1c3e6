-- The first held state is as the text gives it.
use Rattle.std.proofs.Common.{◌≡◌, ℕ, zero, suc, ◌+◌, ◌==◌, ◌&&◌, Bool, true, false, List, [], ◌∷◌, ◌++◌, map, length, slice_index_or, None, refl, sym, ap, subst, ◌∙◌, append_assoc, arith, length-append}
use Rattle.std.specs.List.{flat_map, concat, list_all, range_with_len}
use Rattle.std.proofs.lemmas.List.{length-map}
use Rattle.std.proofs.lemmas.List.FromFn.{length-range_with_len}
use Rattle.values.specs.Evaluation.{is_same}
use Rattle.component_items.specs.declared.component.Attr.{Attr}
use Rattle.component_items.specs.declared.component.Attr.TheVariants as attr
use Rattle.component_items.specs.declared.component.Component.{Component}
use Rattle.component_items.specs.declared.component.Item.{Item}
use Rattle.component_items.specs.declared.component.Item.TheOpen as level
use Rattle.component_items.specs.declared.component.Item.TheOpen.{Item-F}
use Rattle.component_items.specs.declared.component.Item.TheViews.{roll-Item}
use Rattle.component_items.specs.declared.component.Item.TheFolds.{fold-roll-Item, map-Item, ind-Item}
use Rattle.component_items.specs.Ids.{attr_ids, ids_step, item_ids, ids_in, owners_step, item_owners, owners_in}
use Rattle.component_items.specs.Kept.{IsKept}
use Rattle.plain_evaluation.specs.Held.{Holding, nothing, stored, no_rows, Held, value_in, rows_in, arrived_in, first_attr, first_step, item_first, first_held}
use Rattle.plain_evaluation.specs.Begins.{all_begin, store_begins, begins_step, item_begins, Begins}
use Rattle.plain_evaluation.proofs.Lookup.{store_ids}
use Rattle.plain_evaluation.proofs.Places.{and_both, code_itself}

-- ---- what stands at ids, and owners that are live

abbrev HasAll : List Holding → List ℕ → List Holding → Type 0
HasAll all [] [] = Unit {0}
HasAll all [] (x ∷ xs) = ⊥
HasAll all (id ∷ ids) [] = ⊥
HasAll all (id ∷ ids) (x ∷ xs) = (slice_index_or all id nothing ≡ x) × HasAll all ids xs

abbrev AllLive : List Bool → List ℕ → Type 0
AllLive live [] = Unit {0}
AllLive live (owner ∷ owners) = (slice_index_or live owner false ≡ true) × AllLive live owners

has-append : (all : List Holding) (ids more : List ℕ) (xs ys : List Holding) → length ids ≡ length xs → HasAll all (ids ++ more) (xs ++ ys) → HasAll all ids xs × HasAll all more ys
has-append all [] more [] ys long has = (tt, has)
has-append all [] more (x ∷ xs) ys long has = cc
has-append all (id ∷ ids) more [] ys long has = cc
has-append all (id ∷ ids) more (x ∷ xs) ys long has =
    let rest = has-append all ids more xs ys (omega arith) has.1 in
    ((has.0, rest.0), rest.1)

live-append : (live : List Bool) (xs ys : List ℕ) → AllLive live (xs ++ ys) → AllLive live xs × AllLive live ys
live-append live [] ys h = (tt, h)
live-append live (x ∷ xs) ys h = let rest = live-append live xs ys h.1 in ((h.0, rest.0), rest.1)

at_length : {A : Type 0} (before : List A) (x : A) (after : List A) (d : A) → slice_index_or (before ++ x ∷ after) (length before) d ≡ x
at_length [] x after d = refl
at_length (y ∷ before) x after d = at_length before x after d

-- a list has its own items at its places
has_itself : (before xs : List Holding) → HasAll (before ++ xs) (range_with_len (length before) (length xs)) xs
has_itself before [] = tt
has_itself before (x ∷ xs) =
    let rest = has_itself (before ++ x ∷ []) xs in
    let longer : length (before ++ x ∷ []) ≡ length before + 1 = length-append before (x ∷ []) in
    (at_length before x xs nothing, subst (λ n. HasAll (before ++ x ∷ xs) (range_with_len n (length xs)) xs) longer (subst (λ all. HasAll all (range_with_len (length (before ++ x ∷ [])) (length xs)) xs) (append_assoc before (x ∷ []) xs) rest))

live_itself : (before : List Bool) (owners : List ℕ) → AllLive (before ++ map (λ owner. true) owners) (range_with_len (length before) (length owners))
live_itself before [] = tt
live_itself before (owner ∷ owners) =
    let rest = live_itself (before ++ true ∷ []) owners in
    let longer : length (before ++ true ∷ []) ≡ length before + 1 = length-append before (true ∷ []) in
    (at_length before true (map (λ owner. true) owners) false, subst (λ n. AllLive (before ++ true ∷ map (λ owner. true) owners) (range_with_len n (length owners))) longer (subst (λ all. AllLive all (range_with_len (length (before ++ true ∷ [])) (length owners))) (append_assoc before (true ∷ []) (map (λ owner. true) owners)) rest))

-- ---- one item

pub attrs_long : (attrs : List Attr) → length (flat_map attr_ids attrs) ≡ length (flat_map first_attr attrs)
attrs_long [] = refl
attrs_long (attr.Bare name ∷ attrs) = attrs_long attrs
attrs_long (attr.Fixed name text ∷ attrs) = attrs_long attrs
attrs_long (attr.Shown name id expr ∷ attrs) = ap suc (attrs_long attrs)

abbrev AreBegun : Held → List ℕ → List ℕ → List Holding → Bool → Type 0
AreBegun held ids owners holdings begins = (length ids ≡ length holdings) × (HasAll held.holdings ids holdings → AllLive held.live owners → begins ≡ true)

module _ (held : Held) where
  abbrev IsBegun : Item → Type 0
  IsBegun item = AreBegun held (item_ids item) (item_owners item) (item_first item) (item_begins held item)

  abbrev Proven : Type 0
  Proven = (item : Item) × IsBegun item

  abbrev items_of : List Proven → List Item
  items_of known = map (λ k. k.0) known

  abbrev FormBegun : Item-F Item → Type 0
  FormBegun x = AreBegun held (ids_step (map-Item Item (List ℕ) item_ids x)) (owners_step (map-Item Item (List ℕ) item_owners x)) (first_step (map-Item Item (List Holding) item_first x)) (begins_step held (map-Item Item Bool (item_begins held) x))

  rolled : (x : Item-F Item) → FormBegun x → IsBegun (roll-Item x)
  unfolding item_ids item_owners item_first item_begins
  rolled x begun =
      subst (λ f. AreBegun held f (item_owners (roll-Item x)) (item_first (roll-Item x)) (item_begins held (roll-Item x))) (sym (fold-roll-Item (List ℕ) ids_step x))
      (subst (λ f. AreBegun held (ids_step (map-Item Item (List ℕ) item_ids x)) f (item_first (roll-Item x)) (item_begins held (roll-Item x))) (sym (fold-roll-Item (List ℕ) owners_step x))
      (subst (λ f. AreBegun held (ids_step (map-Item Item (List ℕ) item_ids x)) (owners_step (map-Item Item (List ℕ) item_owners x)) f (item_begins held (roll-Item x))) (sym (fold-roll-Item (List Holding) first_step x))
      (subst (λ f. AreBegun held (ids_step (map-Item Item (List ℕ) item_ids x)) (owners_step (map-Item Item (List ℕ) item_owners x)) (first_step (map-Item Item (List Holding) item_first x)) f) (sym (fold-roll-Item Bool (begins_step held) x))
      begun)))

  block : (known : List Proven) → AreBegun held (concat (map item_ids (items_of known))) (concat (map item_owners (items_of known))) (flat_map (λ one. one) (map item_first (items_of known))) (all_begin (map (item_begins held) (items_of known)))
  block [] = (refl, λ has live. refl)
  block (k ∷ known) =
      let first = k.1 in
      let rest = block known in
      let ids_long = length-append (item_ids k.0) (concat (map item_ids (items_of known))) in
      let firsts_long = length-append (item_first k.0) (flat_map (λ one. one) (map item_first (items_of known))) in
      let long = first.0 in
      let more = rest.0 in (
        omega arith,
        λ has live.
            (let parts = has-append held.holdings (item_ids k.0) (concat (map item_ids (items_of known))) (item_first k.0) (flat_map (λ one. one) (map item_first (items_of known))) long has in
            let lives = live-append held.live (item_owners k.0) (concat (map item_owners (items_of known))) live in
            and_both _ _ (first.1 parts.0 lives.0) (rest.1 parts.1 lives.1)),
      )

  by_form : (y : Item-F Proven) → FormBegun (map-Item Proven Item (λ k. k.0) y)
  by_form (level.Signal id name start) = (refl, λ has live. ap (λ (holding : Holding). is_same (value_in holding) start) has.0 ∙ code_itself start)
  by_form (level.Memo id name expr) = (refl, λ has live. refl)
  by_form (level.Effect id name expr) = (refl, λ has live. refl)
  by_form (level.Resource id name after keys values) = (refl, λ has live. refl)
  by_form (level.Load id name resource key) = (refl, λ has live. refl)
  by_form (level.Store id name max fields starts) = (
    (let a = length-range_with_len id (2 + length fields) in let b = length-map fields (λ (field : ℕ). nothing) in omega arith),
    λ has live.
        (let both : HasAll held.holdings (id ∷ suc id ∷ range_with_len (2 + id) (length fields)) (stored (no_rows max (length fields)) ∷ nothing ∷ map (λ field. nothing) fields) = subst (λ ids. HasAll held.holdings ids (stored (no_rows max (length fields)) ∷ nothing ∷ map (λ field. nothing) fields)) (sym (store_ids id (length fields))) has in
        ap (store_begins max (length fields)) both.0 ∙ same max (length fields)),
  )
    where
      same : (m w : ℕ) → store_begins m w (stored (no_rows m w)) ≡ true
      same m w = and_both ((m == m) && (w == w)) true (and_both (m == m) (w == w) (grind arith) (grind arith)) refl
  by_form (level.Cleanup text) = (refl, λ has live. refl)
  by_form (level.Area id name owner known) = let rest = block known in (ap suc rest.0, λ has live. and_both _ _ live.0 (rest.1 has.1 live.1))
  by_form (level.If id cond known) = let rest = block known in (ap suc rest.0, λ has live. rest.1 has.1 live)
  by_form (level.Each id store known) = let rest = block known in (ap suc rest.0, λ has live. rest.1 has.1 live)
  by_form (level.Element tag closed attrs known) =
      let rest = block known in
      let first = attrs_long attrs in
      let a = length-append (flat_map attr_ids attrs) (concat (map item_ids (items_of known))) in
      let b = length-append (flat_map first_attr attrs) (flat_map (λ one. one) (map item_first (items_of known))) in
      let more = rest.0 in
      (omega arith, λ has live. rest.1 (has-append held.holdings (flat_map attr_ids attrs) (concat (map item_ids (items_of known))) (flat_map first_attr attrs) (flat_map (λ one. one) (map item_first (items_of known))) first has).1 live)
  by_form (level.Text text) = (refl, λ has live. refl)
  by_form (level.Shown id expr) = (refl, λ has live. refl)

  pub item_begun : (item : Item) → IsBegun item
  item_begun = ind-Item IsBegun (λ x y is. subst (λ z. IsBegun (roll-Item z)) is (rolled (map-Item Proven Item (λ k. k.0) y) (by_form y)))

  pub items_begun : (items : List Item) → AreBegun held (ids_in items) (owners_in items) (flat_map item_first items) (list_all (item_begins held) items)
  items_begun [] = (refl, λ has live. refl)
  items_begun (item ∷ items) =
      let first = item_begun item in
      let rest = items_begun items in
      let a = length-append (item_ids item) (ids_in items) in
      let b = length-append (item_first item) (flat_map item_first items) in
      let long = first.0 in
      let more = rest.0 in (
        omega arith,
        λ has live.
            (let parts = has-append held.holdings (item_ids item) (ids_in items) (item_first item) (flat_map item_first items) long has in
            let lives = live-append held.live (item_owners item) (owners_in items) live in
            and_both _ _ (first.1 parts.0 lives.0) (rest.1 parts.1 lives.1)),
      )

-- ---- no rows, and no key that arrived

abbrev AreEmpty : List Holding → Type 0
AreEmpty [] = Unit {0}
AreEmpty (holding ∷ others) = (rows_in holding ≡ []) × (arrived_in holding ≡ None) × AreEmpty others

empty-append : (xs ys : List Holding) → AreEmpty xs → AreEmpty ys → AreEmpty (xs ++ ys)
empty-append [] ys h g = g
empty-append (x ∷ xs) ys h g = (h.0, h.1, empty-append xs ys h.2 g)

empty_at : (xs : List Holding) (id : ℕ) → AreEmpty xs → (rows_in (slice_index_or xs id nothing) ≡ []) × (arrived_in (slice_index_or xs id nothing) ≡ None)
empty_at [] id h = (refl, refl)
empty_at (x ∷ xs) zero h = (h.0, h.1)
empty_at (x ∷ xs) (suc id) h = empty_at xs id h.2

abbrev IsEmpty : Item → Type 0
IsEmpty item = AreEmpty (item_first item)

abbrev Known : Type 0
Known = (item : Item) × IsEmpty item

fields_empty : (fields : List ℕ) → AreEmpty (map (λ field. nothing) fields)
fields_empty [] = tt
fields_empty (field ∷ fields) = (refl, refl, fields_empty fields)

attrs_empty : (attrs : List Attr) → AreEmpty (flat_map first_attr attrs)
attrs_empty [] = tt
attrs_empty (attr.Bare name ∷ attrs) = attrs_empty attrs
attrs_empty (attr.Fixed name text ∷ attrs) = attrs_empty attrs
attrs_empty (attr.Shown name id expr ∷ attrs) = (refl, refl, attrs_empty attrs)

inner_empty : (known : List Known) → AreEmpty (flat_map (λ one. one) (map item_first (map (λ p. p.0) known)))
inner_empty [] = tt
inner_empty (p ∷ known) = empty-append (item_first p.0) (flat_map (λ one. one) (map item_first (map (λ p. p.0) known))) p.1 (inner_empty known)

empty_form : (y : Item-F Known) → AreEmpty (first_step (map-Item Item (List Holding) item_first (map-Item Known Item (λ p. p.0) y)))
empty_form (level.Signal id name start) = (refl, refl, tt)
empty_form (level.Memo id name expr) = (refl, refl, tt)
empty_form (level.Effect id name expr) = (refl, refl, tt)
empty_form (level.Resource id name after keys values) = (refl, refl, tt)
empty_form (level.Load id name resource key) = (refl, refl, (refl, refl, tt))
empty_form (level.Store id name max fields starts) = (refl, refl, (refl, refl, fields_empty fields))
empty_form (level.Cleanup text) = tt
empty_form (level.Area id name owner known) = (refl, refl, inner_empty known)
empty_form (level.If id cond known) = (refl, refl, inner_empty known)
empty_form (level.Each id store known) = (refl, refl, inner_empty known)
empty_form (level.Element tag closed attrs known) = empty-append (flat_map first_attr attrs) (flat_map (λ one. one) (map item_first (map (λ p. p.0) known))) (attrs_empty attrs) (inner_empty known)
empty_form (level.Text text) = tt
empty_form (level.Shown id expr) = (refl, refl, tt)

first_layer : (x : Item-F Item) → item_first (roll-Item x) ≡ first_step (map-Item Item (List Holding) item_first x)
unfolding item_first
first_layer x = fold-roll-Item (List Holding) first_step x

item_empty : (item : Item) → IsEmpty item
item_empty = ind-Item IsEmpty (λ x y is. subst (λ z. IsEmpty (roll-Item z)) is (subst AreEmpty (sym (first_layer (map-Item Known Item (λ p. p.0) y))) (empty_form y)))

items_empty : (items : List Item) → AreEmpty (flat_map item_first items)
items_empty [] = tt
items_empty (item ∷ items) = empty-append (item_first item) (flat_map item_first items) (item_empty item) (items_empty items)

-- ---- the whole

pub first_begins : (component : Component) → IsKept component → Begins component (first_held component)
first_begins component kept = record {
  items = begun.1 has live;
  top = refl;
  rows = λ id. (empty_at (flat_map item_first component.items) id (items_empty component.items)).0;
  arrived = λ id. (empty_at (flat_map item_first component.items) id (items_empty component.items)).1;
}
  where
    begun : AreBegun (first_held component) (ids_in component.items) (owners_in component.items) (flat_map item_first component.items) (list_all (item_begins (first_held component)) component.items)
    begun = items_begun (first_held component) component.items

    has : HasAll (flat_map item_first component.items) (ids_in component.items) (flat_map item_first component.items)
    has = subst (λ ids. HasAll (flat_map item_first component.items) ids (flat_map item_first component.items)) (ap (range_with_len 0) (sym begun.0) ∙ sym kept.numbered.ids) (has_itself [] (flat_map item_first component.items))

    live : AllLive (true ∷ map (λ owner. true) (owners_in component.items)) (owners_in component.items)
    live = subst (λ owners. AllLive (true ∷ map (λ owner. true) (owners_in component.items)) owners) (sym kept.numbered.owners) (live_itself (true ∷ []) (owners_in component.items))
