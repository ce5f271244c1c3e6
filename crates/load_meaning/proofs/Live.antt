-- What a live load holds: a key, or that none has arrived.
use Rattle.std.proofs.Common.{◌≡◌, ℕ, zero, suc, ◌+◌, ◌⊎◌, inl, inr, if◌then◌else◌, Bool, true, List, [], ◌∷◌, ◌++◌, map, length, get_or, slice_get, Option, Some, None, refl, sym, ap, subst, ◌∙◌, arith, length-append}
use Rattle.std.specs.List.{flat_map, concat, range_with_len}
use Rattle.std.proofs.lemmas.List.{get_or-append-add, length-map}
use Rattle.std.proofs.lemmas.List.FromFn.{length-range_with_len}
use Rattle.values.specs.declared.code.Code.{Code}
use Rattle.component_items.specs.declared.component.Component.{Component}
use Rattle.component_items.specs.declared.component.Item.{Item}
use Rattle.component_items.specs.declared.component.Item.TheOpen as level
use Rattle.component_items.specs.declared.component.Item.TheOpen.{Item-F}
use Rattle.component_items.specs.declared.component.Item.TheViews.{roll-Item}
use Rattle.component_items.specs.declared.component.Item.TheFolds.{fold-roll-Item, map-Item, ind-Item}
use Rattle.component_items.specs.Ids.{attr_ids, ids_step, item_ids, ids_in}
use Rattle.component_items.specs.Kept.{IsKept}
use Rattle.plain_evaluation.specs.Changed.{load_in, load_of}
use Rattle.plain_evaluation.specs.Held.{Holding, nothing, value, stored, arrived, no_rows, Held, holding_of, arrived_in, arrived_held, first_attr, first_step, item_first, first_held}
use Rattle.plain_evaluation.specs.Written.{pairs_among, state_of}
use Rattle.plain_evaluation.proofs.Begins.{attrs_long}
use Rattle.plain_evaluation.proofs.Goings.{Numbered, numbered-cons, numbered-append}
use Rattle.plan_meaning.proofs.Rows.{append_at}
use Rattle.load_table.specs.Loads.{LoadOf, loads_step, item_loads, loads_among, loads_in, after_among, is_live_load}
use Rattle.held_state.specs.Holds.{no_form, load_form, form_of, HoldsAsSaid}

-- ---- at the start

-- holdings of these ids, the first of which is n: each of the loads has one that is a load's
abbrev HaveLoads : List ℕ → List Holding → List LoadOf → Type 0
HaveLoads ids holdings loads = (length ids ≡ length holdings) × ((n : ℕ) → Numbered n ids → (place : ℕ) (load : LoadOf) → slice_get loads place ≡ Some load → (k : ℕ) × (load.id ≡ n + k) × (get_or holdings k nothing ≡ arrived None))

first_stays : (xs ys : List Holding) (k : ℕ) → get_or xs k nothing ≡ arrived None → get_or (xs ++ ys) k nothing ≡ arrived None
first_stays [] ys k is = cc
first_stays (x ∷ xs) ys zero is = is
first_stays (x ∷ xs) ys (suc k) is = first_stays xs ys k is

have-append : (ids others : List ℕ) (xs ys : List Holding) (loads more : List LoadOf) → HaveLoads ids xs loads → HaveLoads others ys more → HaveLoads (ids ++ others) (xs ++ ys) (loads ++ more)
have-append ids others xs ys loads more first rest = (long, λ n numbered place load is. at n (numbered-append n ids others numbered) load (append_at loads more place load is))
  where
    long : length (ids ++ others) ≡ length (xs ++ ys)
    long = let a = length-append ids others in let b = length-append xs ys in let c = first.0 in let d = rest.0 in omega arith

    at : (n : ℕ) → Numbered n ids × Numbered (n + length ids) others → {place : ℕ} (load : LoadOf) → (slice_get loads place ≡ Some load) ⊎ ((j : ℕ) × (place ≡ length loads + j) × (slice_get more j ≡ Some load)) → (k : ℕ) × (load.id ≡ n + k) × (get_or (xs ++ ys) k nothing ≡ arrived None)
    at n parts {place} load (inl is) = let one = first.1 n parts.0 place load is in (one.0, one.1, first_stays xs ys one.0 one.2)
    at n parts load (inr there) =
        let one = rest.1 (n + length ids) parts.1 there.0 load there.2 in
        let same = first.0 in
        let id = one.1 in
        (length xs + one.0, omega (arith, id, same), get_or-append-add xs ys one.0 nothing ∙ one.2)

have_none : (ids : List ℕ) (holdings : List Holding) → length ids ≡ length holdings → HaveLoads ids holdings []
have_none ids holdings long = (long, λ n numbered place load is. cc)

have_load : (id : ℕ) (load : LoadOf) → load.id ≡ id → HaveLoads (id ∷ suc id ∷ []) (arrived None ∷ nothing ∷ []) (load ∷ [])
have_load id load same = (refl, λ n numbered place other is. at n (numbered-cons n id (suc id ∷ []) numbered).0 place other is)
  where
    at : (n : ℕ) → id ≡ n → (place : ℕ) (other : LoadOf) → slice_get (load ∷ []) place ≡ Some other → (k : ℕ) × (other.id ≡ n + k) × (get_or (arrived None ∷ nothing ∷ []) k nothing ≡ arrived None)
    at n e zero other is = let here : load ≡ other = cc in let mine : other.id ≡ load.id = ap (λ (l : LoadOf). l.id) (sym here) in (0, omega (arith, mine, same, e), refl)
    at n e (suc place) other is = cc

module _ (pairs : ℕ → List (Code × Code)) (after : ℕ → ℕ) where
  abbrev ItemHas : Item → Type 0
  ItemHas item = HaveLoads (item_ids item) (item_first item) (item_loads pairs after item)

  abbrev Proven : Type 0
  Proven = (item : Item) × ItemHas item

  abbrev items_of : List Proven → List Item
  items_of known = map (λ p. p.0) known

  abbrev FormHas : Item-F Item → Type 0
  FormHas x = HaveLoads (ids_step (map-Item Item (List ℕ) item_ids x)) (first_step (map-Item Item (List Holding) item_first x)) (loads_step pairs after (map-Item Item (List LoadOf) (item_loads pairs after) x))

  rolled : (x : Item-F Item) → FormHas x → ItemHas (roll-Item x)
  unfolding item_ids item_first item_loads
  rolled x has =
      subst (λ f. HaveLoads f (item_first (roll-Item x)) (item_loads pairs after (roll-Item x))) (sym (fold-roll-Item (List ℕ) ids_step x))
      (subst (λ f. HaveLoads (ids_step (map-Item Item (List ℕ) item_ids x)) f (item_loads pairs after (roll-Item x))) (sym (fold-roll-Item (List Holding) first_step x))
      (subst (λ f. HaveLoads (ids_step (map-Item Item (List ℕ) item_ids x)) (first_step (map-Item Item (List Holding) item_first x)) f) (sym (fold-roll-Item (List LoadOf) (loads_step pairs after) x))
      has))

  block : (known : List Proven) → HaveLoads (concat (map item_ids (items_of known))) (flat_map (λ one. one) (map item_first (items_of known))) (flat_map (λ one. one) (map (item_loads pairs after) (items_of known)))
  block [] = have_none [] [] refl
  block (k ∷ known) = have-append (item_ids k.0) (concat (map item_ids (items_of known))) (item_first k.0) (flat_map (λ one. one) (map item_first (items_of known))) (item_loads pairs after k.0) (flat_map (λ one. one) (map (item_loads pairs after) (items_of known))) k.1 (block known)

  -- the same with more before it
  behind : (ids : List ℕ) (xs : List Holding) (known : List Proven) → length ids ≡ length xs → HaveLoads (ids ++ concat (map item_ids (items_of known))) (xs ++ flat_map (λ one. one) (map item_first (items_of known))) (flat_map (λ one. one) (map (item_loads pairs after) (items_of known)))
  behind ids xs known long = have-append ids (concat (map item_ids (items_of known))) xs (flat_map (λ one. one) (map item_first (items_of known))) [] (flat_map (λ one. one) (map (item_loads pairs after) (items_of known))) (have_none ids xs long) (block known)

  by_form : (y : Item-F Proven) → FormHas (map-Item Proven Item (λ p. p.0) y)
  by_form (level.Signal id name start) = have_none (id ∷ []) (value start ∷ []) refl
  by_form (level.Memo id name expr) = have_none (id ∷ []) (nothing ∷ []) refl
  by_form (level.Effect id name expr) = have_none (id ∷ []) (nothing ∷ []) refl
  by_form (level.Resource id name own_after keys values) = have_none (id ∷ []) (nothing ∷ []) refl
  by_form (level.Load id name resource key) = have_load id (record { id = id; resource = resource; after = after resource; pairs = pairs resource }) refl
  by_form (level.Store id name max fields starts) = have_none (range_with_len id (2 + length fields)) (stored (no_rows max (length fields)) ∷ nothing ∷ map (λ field. nothing) fields) (let a = length-range_with_len id (2 + length fields) in let b = length-map fields (λ (field : ℕ). nothing) in omega arith)
  by_form (level.Cleanup text) = have_none [] [] refl
  by_form (level.Area id name owner known) = behind (id ∷ []) (nothing ∷ []) known refl
  by_form (level.If id cond known) = behind (id ∷ []) (nothing ∷ []) known refl
  by_form (level.Each id store known) = behind (id ∷ []) (nothing ∷ []) known refl
  by_form (level.Element tag closed attrs known) = behind (flat_map attr_ids attrs) (flat_map first_attr attrs) known (attrs_long attrs)
  by_form (level.Text text) = have_none [] [] refl
  by_form (level.Shown id expr) = have_none (id ∷ []) (nothing ∷ []) refl

  item_has : (item : Item) → ItemHas item
  item_has = ind-Item ItemHas (λ x y is. subst (λ z. ItemHas (roll-Item z)) is (rolled (map-Item Proven Item (λ p. p.0) y) (by_form y)))

  items_have : (items : List Item) → HaveLoads (ids_in items) (flat_map item_first items) (loads_among pairs after items)
  items_have [] = have_none [] [] refl
  items_have (item ∷ items) = have-append (item_ids item) (ids_in items) (item_first item) (flat_map item_first items) (item_loads pairs after item) (loads_among pairs after items) (item_has item) (items_have items)

first_load_held : (component : Component) → IsKept component → (place : ℕ) (load : LoadOf) → slice_get (loads_in component) place ≡ Some load → holding_of (first_held component) load.id ≡ arrived None
first_load_held component kept place load is =
    let one = (items_have (pairs_among component.items) (after_among component.items) component.items).1 0 kept.numbered.ids place load is in
    let id = one.1 in
    ap (holding_of (first_held component)) {x = load.id} {y = one.0} (omega (arith, id)) ∙ one.2

-- ---- at any time

load_formed : (holding : Holding) → form_of holding ≡ load_form → (key : Option Code) × (holding ≡ arrived key)
load_formed nothing is = cc
load_formed (value code) is = cc
load_formed (stored store) is = cc
load_formed (arrived key) is = (key, refl)

-- a live load holds its key
pub holds_key : (component : Component) (held : Held) → IsKept component → HoldsAsSaid component held → (place : ℕ) (load : LoadOf) → slice_get (loads_in component) place ≡ Some load → is_live_load component (state_of held) load ≡ true → holding_of held load.id ≡ arrived (arrived_held held load.id)
holds_key component held kept holds place load is lives =
    let same : form_of (holding_of held load.id) ≡ form_of (holding_of (first_held component) load.id) =
    holds.each load.id ∙ ap (λ (b : Bool). if b then form_of (holding_of (first_held component) load.id) else no_form) lives in
    let one = load_formed (holding_of held load.id) (same ∙ ap form_of (first_load_held component kept place load is)) in
    one.1 ∙ ap (λ (holding : Holding). arrived (arrived_in holding)) (sym one.1)

-- so its key can arrive
pub can_arrive : (component : Component) (held : Held) → IsKept component → HoldsAsSaid component held → (place : ℕ) (load : LoadOf) → slice_get (loads_in component) place ≡ Some load → is_live_load component (state_of held) load ≡ true → load_of held load.id ≡ Some (arrived_held held load.id)
can_arrive component held kept holds place load is lives = ap load_in (holds_key component held kept holds place load is lives)
