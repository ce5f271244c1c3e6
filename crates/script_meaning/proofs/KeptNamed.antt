-- What the names of a component stand for.
use Rattle.std.proofs.Common.{◌≡◌, ℕ, ◌==◌, ◌&&◌, Bool, true, false, if◌then◌else◌, List, [], ◌∷◌, ◌++◌, length, map, Some, None, Option, Contains, sym, subst, ◌∙◌}
use Rattle.std.specs.List.{AllByRecursion as Each, find, flat_map, list_all}
use Rattle.std.specs.Option.{option_map, option_and_then}
use Rattle.std.proofs.lemmas.Bool.{and_parts, eqb-true}
use Rattle.std.proofs.lemmas.List.Elements.{Contains-append_left, Contains-append_right, Contains-push}
use Rattle.values.specs.declared.code.Code.{Code}
use Rattle.values.specs.Texts.{index_of}
use Rattle.component_items.specs.declared.component.Item.{Item}
use Rattle.component_items.specs.declared.component.Item.TheOpen as level
use Rattle.component_items.specs.declared.component.Item.TheOpen.{Item-F}
use Rattle.component_items.specs.declared.component.Item.TheViews.{roll-Item}
use Rattle.component_items.specs.declared.component.Item.TheFolds.{fold-roll-Item, map-Item, ind-Item}
use Rattle.component_items.specs.Kept.{code_has_text, all_true, has_texts_step, item_has_texts, shape_step, item_has_shape}
use Rattle.script_items.specs.Members.{Member, a_signal as signal_member, a_memo as memo_member, a_load as load_member, a_store as store_member, an_area as area_member, members_step, item_members, members_of}
use Rattle.script_meaning.specs.Names.{Named, nothing, a_signal, a_memo, a_load, a_store, an_area, another, Declaration, names_step, item_names, names_in, find_name, named_by}
use Rattle.script_meaning.proofs.KeptOps.{each_more, each_append}

-- ---- what is meant

-- a store has as many starts as fields
pub record IsStore (members : List Member) (count id : ℕ) (fields : List ℕ) (starts : List Code) : Type 0 where
  pub declared : Contains members (store_member id (length fields))
  pub even : length fields ≡ length starts
  pub words : list_all (code_has_text count) starts ≡ true

abbrev pub IsNamed : List Member → ℕ → Named → Type 0
IsNamed members count nothing = Unit {0}
IsNamed members count (a_signal id) = Contains members (signal_member id)
IsNamed members count (a_memo id) = Contains members (memo_member id)
IsNamed members count (a_load id) = Contains members (load_member id)
IsNamed members count (a_store id fields starts) = IsStore members count id fields starts
IsNamed members count (an_area owner) = Contains members (area_member owner)
IsNamed members count another = Unit {0}

abbrev pub Declares : List Member → ℕ → Declaration → Type 0
Declares members count d = IsNamed members count d.what

-- among more members
more_named : (members others : List Member) → ((m : Member) → Contains members m → Contains others m) → (count : ℕ) (what : Named) → IsNamed members count what → IsNamed others count what
more_named members others more count nothing h = tt
more_named members others more count (a_signal id) h = more _ h
more_named members others more count (a_memo id) h = more _ h
more_named members others more count (a_load id) h = more _ h
more_named members others more count (a_store id fields starts) h = record { declared = more _ h.declared; even = h.even; words = h.words }
more_named members others more count (an_area owner) h = more _ h
more_named members others more count another h = tt

first : (m : Member) (members : List Member) → Contains (m ∷ members) m
first m members = Contains-append_left (m ∷ []) members m (Contains-push [] m)

more_declared : (members others : List Member) → ((m : Member) → Contains members m → Contains others m) → (count : ℕ) (names : List Declaration) → Each (Declares members count) names → Each (Declares others count) names
more_declared members others more count names h =
    each_more (Declares members count) (Declares others count) (λ d. more_named members others more count d.what) names h

-- ---- items

module _ (count : ℕ) where
  abbrev Named-of : Item → Type 0
  Named-of i = item_has_texts count i ≡ true → item_has_shape i ≡ true → (owner : ℕ) → Each (Declares (item_members i) count) (item_names i owner)

  abbrev Known : Type 0
  Known = (i : Item) × Named-of i

  names_layer : (x : Item-F Item) → item_names (roll-Item x) ≡ names_step (map-Item Item (ℕ → List Declaration) item_names x)
  unfolding item_names
  names_layer x = fold-roll-Item (ℕ → List Declaration) names_step x

  members_layer : (x : Item-F Item) → item_members (roll-Item x) ≡ members_step (map-Item Item (List Member) item_members x)
  unfolding item_members
  members_layer x = fold-roll-Item (List Member) members_step x

  texts_layer : (x : Item-F Item) → item_has_texts count (roll-Item x) ≡ has_texts_step count (map-Item Item Bool (item_has_texts count) x)
  unfolding item_has_texts
  texts_layer x = fold-roll-Item Bool (has_texts_step count) x

  shape_layer : (x : Item-F Item) → item_has_shape (roll-Item x) ≡ shape_step (map-Item Item Bool item_has_shape x)
  unfolding item_has_shape
  shape_layer x = fold-roll-Item Bool shape_step x

  inner : (known : List Known) (owner : ℕ)
      → all_true (map (item_has_texts count) (map (λ k. k.0) known)) ≡ true → all_true (map item_has_shape (map (λ k. k.0) known)) ≡ true
      → Each (Declares (flat_map (λ one. one) (map item_members (map (λ k. k.0) known))) count) (flat_map (λ item. item owner) (map item_names (map (λ k. k.0) known)))
  inner [] owner has shaped = tt
  inner (k ∷ known) owner has shaped =
      let here = and_parts (item_has_texts count k.0) (all_true (map (item_has_texts count) (map (λ k. k.0) known))) has in
      let formed = and_parts (item_has_shape k.0) (all_true (map item_has_shape (map (λ k. k.0) known))) shaped in
      let rest = flat_map (λ one. one) (map item_members (map (λ k. k.0) known)) in
      each_append (Declares (item_members k.0 ++ rest) count) (item_names k.0 owner) (flat_map (λ item. item owner) (map item_names (map (λ k. k.0) known)))
      (more_declared (item_members k.0) (item_members k.0 ++ rest) (λ m. Contains-append_left (item_members k.0) rest m) count (item_names k.0 owner) (k.1 here.0 formed.0 owner))
      (more_declared rest (item_members k.0 ++ rest) (λ m. Contains-append_right (item_members k.0) rest m) count _ (inner known owner here.1 formed.1))

  step : (y : Item-F Known)
      → has_texts_step count (map-Item Item Bool (item_has_texts count) (map-Item Known Item (λ k. k.0) y)) ≡ true
      → shape_step (map-Item Item Bool item_has_shape (map-Item Known Item (λ k. k.0) y)) ≡ true → (owner : ℕ)
      → Each (Declares (members_step (map-Item Item (List Member) item_members (map-Item Known Item (λ k. k.0) y))) count) (names_step (map-Item Item (ℕ → List Declaration) item_names (map-Item Known Item (λ k. k.0) y)) owner)
  step (level.Signal id name start) has shaped owner = (first (signal_member id) [], tt)
  step (level.Memo id name expr) has shaped owner = (first (memo_member id) [], tt)
  step (level.Effect id name expr) has shaped owner = (tt, tt)
  step (level.Resource id name after keys values) has shaped owner = (tt, tt)
  step (level.Load id name resource key) has shaped owner = (first (load_member id) [], tt)
  step (level.Store id name max fields starts) has shaped owner =
      let even = and_parts (length fields == length starts) _ shaped in
      let words = and_parts _ (list_all (code_has_text count) starts) has in
      (record { declared = first (store_member id (length fields)) []; even = eqb-true (length fields) (length starts) even.0; words = words.1 }, tt)
  step (level.Cleanup text) has shaped owner = tt
  step (level.Area id name inside known) has shaped owner =
      let words = and_parts _ (all_true (map (item_has_texts count) (map (λ k. k.0) known))) has in
      let members = flat_map (λ one. one) (map item_members (map (λ k. k.0) known)) in
      (first (area_member inside) members, more_declared members (area_member inside ∷ members) (λ m. Contains-append_right (area_member inside ∷ []) members m) count _ (inner known inside words.1 shaped))
  step (level.If id cond known) has shaped owner = tt
  step (level.Each id store known) has shaped owner = tt
  step (level.Element tag closed attrs known) has shaped owner =
      let words = and_parts _ (all_true (map (item_has_texts count) (map (λ k. k.0) known))) has in
      inner known owner words.1 shaped
  step (level.Text text) has shaped owner = tt
  step (level.Shown id expr) has shaped owner = tt

  by_form : (y : Item-F Known) → Named-of (roll-Item (map-Item Known Item (λ k. k.0) y))
  by_form y has shaped owner =
      subst (λ (members : List Member). Each (Declares members count) (item_names (roll-Item (map-Item Known Item (λ k. k.0) y)) owner)) (sym (members_layer _))
      (subst (λ (names : ℕ → List Declaration). Each (Declares (members_step (map-Item Item (List Member) item_members (map-Item Known Item (λ k. k.0) y))) count) (names owner)) (sym (names_layer _))
      (step y (sym (texts_layer _) ∙ has) (sym (shape_layer _) ∙ shaped) owner))

  item_named : (i : Item) → Named-of i
  item_named = ind-Item Named-of (λ x y is. subst (λ z. Named-of (roll-Item z)) is (by_form y))

  pub names_are_named : (owner : ℕ) (items : List Item) → list_all (item_has_texts count) items ≡ true → list_all item_has_shape items ≡ true → Each (Declares (members_of items) count) (names_in owner items)
  names_are_named owner [] has shaped = tt
  names_are_named owner (i ∷ items) has shaped =
      let here = and_parts (item_has_texts count i) (list_all (item_has_texts count) items) has in
      let formed = and_parts (item_has_shape i) (list_all item_has_shape items) shaped in
      each_append (Declares (members_of (i ∷ items)) count) (item_names i owner) (names_in owner items)
      (more_declared (item_members i) (members_of (i ∷ items)) (λ m. Contains-append_left (item_members i) (members_of items) m) count (item_names i owner) (item_named i here.0 formed.0 owner))
      (more_declared (members_of items) (members_of (i ∷ items)) (λ m. Contains-append_right (item_members i) (members_of items) m) count (names_in owner items) (names_are_named owner items here.1 formed.1))

-- ---- looking up

abbrev pub IsFound : List Member → ℕ → Option Named → Type 0
IsFound members count None = Unit {0}
IsFound members count (Some what) = IsNamed members count what

module _ (members : List Member) (count : ℕ) where
  found_in : (p : Declaration → Bool) (names : List Declaration) → Each (Declares members count) names → IsFound members count (option_map (λ d. d.what) (find p names))
  found_in p [] h = tt
  found_in p (d ∷ names) h = at (p d) (found_in p names h.1)
    where
      at : (b : Bool) → IsFound members count (option_map (λ (e : Declaration). e.what) (find p names)) → IsFound members count (option_map (λ (e : Declaration). e.what) (if b then Some d else find p names))
      at true others = h.0
      at false others = others

  pub found : (bytes : List ℕ) (texts : List (List ℕ)) (owner : ℕ) (names : List Declaration) → Each (Declares members count) names → IsFound members count (named_by bytes texts owner names)
  found bytes texts owner names h = at (index_of bytes texts)
    where
      at : (o : Option ℕ) → IsFound members count (option_and_then (λ n. find_name owner n names) o)
      at None = tt
      at (Some n) = found_in (λ d. d.owner == owner && d.name == n) names h
