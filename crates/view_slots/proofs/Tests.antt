-- Tests of parts, and which parts items have none of.
use Rattle.std.proofs.Common.{◌≡◌, ℕ, ◌==◌, ◌||◌, not, if◌then◌else◌, Bool, true, false, List, [], ◌∷◌, ◌++◌, map, Option, Some, refl, sym, ap, subst, ◌∙◌}
use Rattle.std.specs.List.{list_any, flat_map, concat}
use Rattle.std.proofs.lemmas.List.Folds.{list_any-append}
use Rattle.values.specs.declared.code.Code.{Code}
use Rattle.values.specs.Evaluation.{truth}
use Rattle.component_items.specs.declared.component.Attr.{Attr}
use Rattle.component_items.specs.declared.component.Attr.TheVariants as attr
use Rattle.component_items.specs.declared.component.Item.{Item}
use Rattle.component_items.specs.declared.component.Item.TheOpen as level
use Rattle.component_items.specs.declared.component.Item.TheOpen.{Item-F}
use Rattle.component_items.specs.declared.component.Item.TheViews.{roll-Item}
use Rattle.component_items.specs.declared.component.Item.TheFolds.{fold-roll-Item, map-Item, ind-Item}
use Rattle.component_items.specs.Ids.{attr_ids, ids_step, item_ids, ids_in}
use Rattle.plain_evaluation.specs.Page.{View}
use Rattle.plain_evaluation.specs.Place.{Place, same_key, same_place, place_at}
use Rattle.plain_evaluation.proofs.Places.{and_cases, or_none, place_itself}
use Rattle.view_meaning.specs.Parts.{Part, plain, shows, begins, bare, fixed, valued, begun, ends, area, branch, each, row, attr_part, parts_joined, ending, parts_step, item_parts, items_parts, cell_in, place_in, has_cell}
use Rattle.view_slots.specs.Home.{rowless}

-- ---- tests

abbrev pub is_cell : Place → Part → Bool
is_cell p part = list_any (λ q. same_place q p) (cell_in part)

pub has_cell-any : (parts : List Part) (p : Place) → has_cell parts p ≡ list_any (is_cell p) parts
has_cell-any [] p = refl
has_cell-any (part ∷ parts) p = list_any-append (λ q. same_place q p) (cell_in part) (flat_map cell_in parts) ∙ ap (λ b. is_cell p part || b) (has_cell-any parts p)

-- a part with this id
abbrev pub has_id : ℕ → Part → Bool
has_id id part = list_any (λ q. q.id == id) (place_in part)

-- a part that stands in another row than the one with this key, or in none where that is
abbrev pub is_elsewhere : Option Code → Part → Bool
is_elsewhere key (plain number) = false
is_elsewhere key (shows q) = not (same_key q.key key)
is_elsewhere key (begins tag) = false
is_elsewhere key (bare name) = false
is_elsewhere key (fixed name number) = false
is_elsewhere key (valued name q) = not (same_key q.key key)
is_elsewhere key begun = false
is_elsewhere key (ends tag) = false
is_elsewhere key (area q) = not (same_key q.key key)
is_elsewhere key (branch q) = not (same_key q.key key)
is_elsewhere key (each id store) = false
is_elsewhere key (row id k) = false

abbrev pub is_repeated : Part → Bool
is_repeated (plain number) = false
is_repeated (shows q) = false
is_repeated (begins tag) = false
is_repeated (bare name) = false
is_repeated (fixed name number) = false
is_repeated (valued name q) = false
is_repeated begun = false
is_repeated (ends tag) = false
is_repeated (area q) = false
is_repeated (branch q) = false
is_repeated (each id store) = true
is_repeated (row id k) = false

-- ---- what no part passes

pub or_false : (a b : Bool) → a ≡ false → b ≡ false → (a || b) ≡ false
or_false a b h g = (λ i. h i || b) ∙ g

pub contra : (a b : Bool) → (a ≡ true → b ≡ true) → b ≡ false → a ≡ false
contra true b leads none = let e : true ≡ false = sym (leads refl) ∙ none in absurd cc
contra false b leads none = refl

pub none_leading : (test weaker : Part → Bool) → ((part : Part) → test part ≡ true → weaker part ≡ true) → (parts : List Part) → list_any weaker parts ≡ false → list_any test parts ≡ false
none_leading test weaker leads [] none = refl
none_leading test weaker leads (part ∷ parts) none =
    let both = or_none (weaker part) (list_any weaker parts) none in
    or_false (test part) (list_any test parts) (contra (test part) (weaker part) (leads part) both.0) (none_leading test weaker leads parts both.1)

pub none_either : (first second : Part → Bool) (parts : List Part) → list_any first parts ≡ false → list_any second parts ≡ false → list_any (λ part. first part || second part) parts ≡ false
none_either first second [] one two = refl
none_either first second (part ∷ parts) one two =
    let a = or_none (first part) (list_any first parts) one in
    let b = or_none (second part) (list_any second parts) two in
    or_false (first part || second part) (list_any (λ p. first p || second p) parts) (or_false (first part) (second part) a.0 b.0) (none_either first second parts a.1 b.1)

pub none-append : (test : Part → Bool) (xs ys : List Part) → list_any test xs ≡ false → list_any test ys ≡ false → list_any test (xs ++ ys) ≡ false
none-append test xs ys h g = list_any-append test xs ys ∙ or_false (list_any test xs) (list_any test ys) h g

none_if : (test : Part → Bool) (holds : Bool) (first : Part) (inner : List Part) → test first ≡ false → list_any test inner ≡ false → list_any test (if holds then first ∷ inner else []) ≡ false
none_if test true first inner h g = or_false (test first) (list_any test inner) h g
none_if test false first inner h g = refl

none_rows : (test : Part → Bool) (part : Code → List Part) (keys : List Code) → ((k : Code) → list_any test (part k) ≡ false) → list_any test (flat_map part keys) ≡ false
none_rows test part [] every = refl
none_rows test part (k ∷ keys) every = none-append test (part k) (flat_map part keys) (every k) (none_rows test part keys every)

-- ---- parts have the ids of their items

abbrev pub among : ℕ → List ℕ → Bool
among id ids = list_any (λ x. x == id) ids

module _ (view : View) (id : ℕ) where
  abbrev Without : Item → Type 0
  Without item = (key : Option Code) → among id (item_ids item) ≡ false → list_any (has_id id) (item_parts view item key) ≡ false

  abbrev Known : Type 0
  Known = (item : Item) × Without item

  abbrev known_items : List Known → List Item
  known_items known = map (λ k. k.0) known

  without_all : (known : List Known) (key : Option Code) → among id (concat (map item_ids (known_items known))) ≡ false → list_any (has_id id) (parts_joined (map (item_parts view) (known_items known)) key) ≡ false
  without_all [] key out = refl
  without_all (k ∷ known) key out =
      let both = or_none (among id (item_ids k.0)) (among id (concat (map item_ids (known_items known)))) (sym (list_any-append (λ x. x == id) (item_ids k.0) (concat (map item_ids (known_items known)))) ∙ out) in
      none-append (has_id id) (item_parts view k.0 key) (parts_joined (map (item_parts view) (known_items known)) key) (k.1 key both.0) (without_all known key both.1)

  pub without_attrs : (attrs : List Attr) (key : Option Code) → among id (flat_map attr_ids attrs) ≡ false → list_any (has_id id) (map (attr_part key) attrs) ≡ false
  without_attrs [] key out = refl
  without_attrs (attr.Bare name ∷ attrs) key out = without_attrs attrs key out
  without_attrs (attr.Fixed name text ∷ attrs) key out = without_attrs attrs key out
  without_attrs (attr.Shown name own expr ∷ attrs) key out =
      let both = or_none (own == id) (among id (flat_map attr_ids attrs)) out in
      or_false ((own == id) || false) (list_any (has_id id) (map (attr_part key) attrs)) (or_false (own == id) false both.0 refl) (without_attrs attrs key both.1)

  pub without_end : (tag : ℕ) (closed : Bool) → list_any (has_id id) (ending tag closed) ≡ false
  without_end tag true = refl
  without_end tag false = refl

  alone : (own : ℕ) → (own == id) ≡ false → ((own == id) || false) ≡ false
  alone own h = or_false (own == id) false h refl

  without_form : (y : Item-F Known) (key : Option Code) → among id (ids_step (map-Item Item (List ℕ) item_ids (map-Item Known Item (λ k. k.0) y))) ≡ false → list_any (has_id id) (parts_step view (map-Item Item (Option Code → List Part) (item_parts view) (map-Item Known Item (λ k. k.0) y)) key) ≡ false
  without_form (level.Signal own name start) key out = refl
  without_form (level.Memo own name expr) key out = refl
  without_form (level.Effect own name expr) key out = refl
  without_form (level.Resource own name after keys values) key out = refl
  without_form (level.Load own name resource expr) key out = refl
  without_form (level.Store own name max fields starts) key out = refl
  without_form (level.Cleanup text) key out = refl
  without_form (level.Area own name owner known) key out =
      let both = or_none (own == id) (among id (concat (map item_ids (known_items known)))) out in
      none_if (has_id id) (view.live owner) (area (place_at own key)) (parts_joined (map (item_parts view) (known_items known)) key) (alone own both.0) (without_all known key both.1)
  without_form (level.If own cond known) key out =
      let both = or_none (own == id) (among id (concat (map item_ids (known_items known)))) out in
      none_if (has_id id) (truth (view.value (place_at own key))) (branch (place_at own key)) (parts_joined (map (item_parts view) (known_items known)) key) (alone own both.0) (without_all known key both.1)
  without_form (level.Each own store known) key out =
      let both = or_none (own == id) (among id (concat (map item_ids (known_items known)))) out in
      let part : Code → List Part = λ k. row own k ∷ parts_joined (map (item_parts view) (known_items known)) (Some k) in
      or_false ((own == id) || false) (list_any (has_id id) (flat_map part (view.keys own store))) (alone own both.0)
      (none_rows (has_id id) part (view.keys own store) (λ k. or_false ((own == id) || false) (list_any (has_id id) (parts_joined (map (item_parts view) (known_items known)) (Some k))) (alone own both.0) (without_all known (Some k) both.1)))
  without_form (level.Element tag closed attrs known) key out =
      let both = or_none (among id (flat_map attr_ids attrs)) (among id (concat (map item_ids (known_items known)))) (sym (list_any-append (λ x. x == id) (flat_map attr_ids attrs) (concat (map item_ids (known_items known)))) ∙ out) in
      let first : List Part = begins tag ∷ map (attr_part key) attrs in
      let inner : List Part = parts_joined (map (item_parts view) (known_items known)) key in
      none-append (has_id id) (first ++ begun ∷ inner) (ending tag closed)
      (none-append (has_id id) first (begun ∷ inner) (without_attrs attrs key both.0) (without_all known key both.1))
      (without_end tag closed)
  without_form (level.Text text) key out = refl
  without_form (level.Shown own expr) key out =
      let both = or_none (own == id) false out in
      or_false ((own == id) || false) false (alone own both.0) refl

  without_layer : (x : Item-F Item) (key : Option Code) → (among id (ids_step (map-Item Item (List ℕ) item_ids x)) ≡ false → list_any (has_id id) (parts_step view (map-Item Item (Option Code → List Part) (item_parts view) x) key) ≡ false) → among id (item_ids (roll-Item x)) ≡ false → list_any (has_id id) (item_parts view (roll-Item x) key) ≡ false
  unfolding item_parts item_ids
  without_layer x key known out = ap (λ (f : Option Code → List Part). list_any (has_id id) (f key)) (fold-roll-Item (Option Code → List Part) (parts_step view) x) ∙ known (ap (among id) (sym (fold-roll-Item (List ℕ) ids_step x)) ∙ out)

  pub without_id : (item : Item) → Without item
  without_id = ind-Item Without (λ x y is. subst (λ z. Without (roll-Item z)) is (λ key out. without_layer (map-Item Known Item (λ k. k.0) y) key (without_form y key) out))

  pub items_without_id : (items : List Item) (key : Option Code) → among id (ids_in items) ≡ false → list_any (has_id id) (items_parts view items key) ≡ false
  items_without_id [] key out = refl
  items_without_id (item ∷ items) key out =
      let both = or_none (among id (item_ids item)) (among id (ids_in items)) (sym (list_any-append (λ x. x == id) (item_ids item) (ids_in items)) ∙ out) in
      none-append (has_id id) (item_parts view item key) (items_parts view items key) (without_id item key both.0) (items_without_id items key both.1)

-- ---- parts stand in the row of their items

module _ (view : View) where
  abbrev bare_view : View
  bare_view = rowless view

  abbrev Placed : Item → Type 0
  Placed item = (key : Option Code) → list_any (is_elsewhere key) (item_parts bare_view item key) ≡ false

  abbrev Set : Type 0
  Set = (item : Item) × Placed item

  abbrev set_items : List Set → List Item
  set_items known = map (λ k. k.0) known

  own_key : (key : Option Code) → not (same_key key key) ≡ false
  own_key key = ap not (and_cases (0 == 0) (same_key key key) (place_itself (place_at 0 key))).1

  placed_all : (known : List Set) (key : Option Code) → list_any (is_elsewhere key) (parts_joined (map (item_parts bare_view) (set_items known)) key) ≡ false
  placed_all [] key = refl
  placed_all (k ∷ known) key = none-append (is_elsewhere key) (item_parts bare_view k.0 key) (parts_joined (map (item_parts bare_view) (set_items known)) key) (k.1 key) (placed_all known key)

  placed_attrs : (attrs : List Attr) (key : Option Code) → list_any (is_elsewhere key) (map (attr_part key) attrs) ≡ false
  placed_attrs [] key = refl
  placed_attrs (attr.Bare name ∷ attrs) key = placed_attrs attrs key
  placed_attrs (attr.Fixed name text ∷ attrs) key = placed_attrs attrs key
  placed_attrs (attr.Shown name own expr ∷ attrs) key = or_false (not (same_key key key)) (list_any (is_elsewhere key) (map (attr_part key) attrs)) (own_key key) (placed_attrs attrs key)

  placed_end : (key : Option Code) (tag : ℕ) (closed : Bool) → list_any (is_elsewhere key) (ending tag closed) ≡ false
  placed_end key tag true = refl
  placed_end key tag false = refl

  placed_form : (y : Item-F Set) (key : Option Code) → list_any (is_elsewhere key) (parts_step bare_view (map-Item Item (Option Code → List Part) (item_parts bare_view) (map-Item Set Item (λ k. k.0) y)) key) ≡ false
  placed_form (level.Signal own name start) key = refl
  placed_form (level.Memo own name expr) key = refl
  placed_form (level.Effect own name expr) key = refl
  placed_form (level.Resource own name after keys values) key = refl
  placed_form (level.Load own name resource expr) key = refl
  placed_form (level.Store own name max fields starts) key = refl
  placed_form (level.Cleanup text) key = refl
  placed_form (level.Area own name owner known) key = none_if (is_elsewhere key) (view.live owner) (area (place_at own key)) (parts_joined (map (item_parts bare_view) (set_items known)) key) (own_key key) (placed_all known key)
  placed_form (level.If own cond known) key = none_if (is_elsewhere key) (truth (view.value (place_at own key))) (branch (place_at own key)) (parts_joined (map (item_parts bare_view) (set_items known)) key) (own_key key) (placed_all known key)
  placed_form (level.Each own store known) key = refl
  placed_form (level.Element tag closed attrs known) key =
      let first : List Part = begins tag ∷ map (attr_part key) attrs in
      let inner : List Part = parts_joined (map (item_parts bare_view) (set_items known)) key in
      none-append (is_elsewhere key) (first ++ begun ∷ inner) (ending tag closed)
      (none-append (is_elsewhere key) first (begun ∷ inner) (placed_attrs attrs key) (placed_all known key))
      (placed_end key tag closed)
  placed_form (level.Text text) key = refl
  placed_form (level.Shown own expr) key = or_false (not (same_key key key)) false (own_key key) refl

  placed_layer : (x : Item-F Item) (key : Option Code) → list_any (is_elsewhere key) (parts_step bare_view (map-Item Item (Option Code → List Part) (item_parts bare_view) x) key) ≡ false → list_any (is_elsewhere key) (item_parts bare_view (roll-Item x) key) ≡ false
  unfolding item_parts
  placed_layer x key known = ap (λ (f : Option Code → List Part). list_any (is_elsewhere key) (f key)) (fold-roll-Item (Option Code → List Part) (parts_step bare_view) x) ∙ known

  pub placed : (item : Item) → Placed item
  placed = ind-Item Placed (λ x y is. subst (λ z. Placed (roll-Item z)) is (λ key. placed_layer (map-Item Set Item (λ k. k.0) y) key (placed_form y key)))

  pub items_placed : (items : List Item) (key : Option Code) → list_any (is_elsewhere key) (items_parts bare_view items key) ≡ false
  items_placed [] key = refl
  items_placed (item ∷ items) key = none-append (is_elsewhere key) (item_parts bare_view item key) (items_parts bare_view items key) (placed item key) (items_placed items key)
