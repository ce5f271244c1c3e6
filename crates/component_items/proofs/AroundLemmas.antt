-- What is found around an id, in parts.
use Rattle.std.proofs.Common.{◌≡◌, ℕ, suc, zero, ◌+◌, ◌<◌, Bool, true, false, ◌==◌, if◌then◌else◌, Option, Some, None, ◌⊎◌, inl, inr, List, [], ◌∷◌, ◌++◌, length, map, drop, slice_get, refl, sym, ap, ◌∙◌, drop-cons, get_or, arith}
use Rattle.std.specs.List.{find}
use Rattle.std.specs.Option.{option_map, option_or, is_some}
use Rattle.std.proofs.lemmas.List.{append-nil}
use Rattle.std.proofs.lemmas.List.Folds.{find-append}
use Rattle.component_items.specs.declared.component.Attr.{Attr}
use Rattle.component_items.specs.declared.component.Item.{Item}
use Rattle.component_items.specs.declared.component.Item.TheOpen as level
use Rattle.component_items.specs.declared.component.Item.TheOpen.{Item-F}
use Rattle.component_items.specs.declared.component.Item.TheViews.{out-Item, roll-Item, roll-out-Item, outs-Area, outs-If, outs-Each, outs-Element, rolls-Area, rolls-If, rolls-Each, rolls-Element}
use Rattle.component_items.specs.declared.component.Item.TheVariants.{Area, If, Each, Element}
use Rattle.values.specs.declared.expr.Expr.{Expr}
use Rattle.component_items.specs.declared.component.Item.TheFolds.{fold_out-Item, map-Item}
use Rattle.component_items.specs.Around.{Around, Listed, named, nameless, within, listed_fields, listed_attrs, listed_all, listed_step, item_listed, items_listed}
use Rattle.component_items.specs.declared.around.Own.{Own}
use Rattle.component_items.specs.declared.around.Own.TheVariants as own
use Rattle.component_items.specs.Own.{place, listed_as, own_path, own_step, own_listed, held_step, held, inside_step, inside, owner_among, path_among}

listed_all-map : (items : List Item) (around : Around) → listed_all around (map item_listed items) ≡ items_listed items around
listed_all-map [] around = refl
listed_all-map (item ∷ items) around = ap (λ more. item_listed item around ++ more) (listed_all-map items around)

step_parts : (x : Item-F Item) (around : Around) → listed_step (map-Item Item (Around → List Listed) item_listed x) around ≡ own_step x around ++ items_listed (held_step x) (inside_step x around)
step_parts (level.Signal id name start) around = refl
step_parts (level.Memo id name expr) around = refl
step_parts (level.Effect id name expr) around = refl
step_parts (level.Resource id name after keys values) around = refl
step_parts (level.Load id name resource key) around = refl
step_parts (level.Store id name max fields starts) around = sym (append-nil (own_step (level.Store id name max fields starts) around))
step_parts (level.Cleanup text) around = refl
step_parts (level.Area id name owner items) around = ap (λ more. named id name around ∷ more) (listed_all-map items (within name owner around))
step_parts (level.If id cond items) around = ap (λ more. nameless id around ∷ more) (listed_all-map items around)
step_parts (level.Each id store items) around = ap (λ more. nameless id around ∷ more) (listed_all-map items around)
step_parts (level.Element tag closed attrs items) around = ap (λ more. listed_attrs around attrs ++ more) (listed_all-map items around)
step_parts (level.Text text) around = refl
step_parts (level.Shown id expr) around = refl

-- an item's ids are its own and then those of the items that it holds
pub item_parts : (item : Item) (around : Around) → item_listed item around ≡ own_listed item around ++ items_listed (held item) (inside item around)
unfolding item_listed
item_parts item around = ap (λ f. f around) (fold_out-Item (Around → List Listed) listed_step item) ∙ step_parts (out-Item item) around

pub found_own : (item : Item) (id : ℕ) (around : Around) (one : Listed) → find (λ l. l.id == id) (own_listed item around) ≡ Some one → find (λ l. l.id == id) (item_listed item around) ≡ Some one
found_own item id around one is =
    ap (find (λ l. l.id == id)) (item_parts item around)
    ∙ find-append (λ l. l.id == id) (own_listed item around) (items_listed (held item) (inside item around))
    ∙ ap (λ o. option_or o (find (λ l. l.id == id) (items_listed (held item) (inside item around)))) is

pub found_held : (item : Item) (id : ℕ) (around : Around) → find (λ l. l.id == id) (own_listed item around) ≡ None → find (λ l. l.id == id) (item_listed item around) ≡ find (λ l. l.id == id) (items_listed (held item) (inside item around))
found_held item id around is =
    ap (find (λ l. l.id == id)) (item_parts item around)
    ∙ find-append (λ l. l.id == id) (own_listed item around) (items_listed (held item) (inside item around))
    ∙ ap (λ o. option_or o (find (λ l. l.id == id) (items_listed (held item) (inside item around)))) is

-- no field has an id before the first
pub fields_before : (first id : ℕ) (fields : List ℕ) (around : Around) → id < first → find (λ l. l.id == id) (listed_fields first fields around) ≡ None
fields_before first id [] around before = refl
fields_before first id (name ∷ fields) around before = at (first == id) refl (fields_before (suc first) id fields around (omega arith))
  where
    at : (same : Bool) → (first == id) ≡ same → find (λ l. l.id == id) (listed_fields (suc first) fields around) ≡ None → (if same then Some (named first name around) else find (λ l. l.id == id) (listed_fields (suc first) fields around)) ≡ None
    at true is others = absurd (grind arith)
    at false is others = others

-- the name of the field with the id
pub fields_at : (first id k : ℕ) (fields : List ℕ) (around : Around) → id ≡ first + k → find (λ l. l.id == id) (listed_fields first fields around) ≡ option_map (λ name. named id name around) (slice_get fields k)
fields_at first id k [] around is = refl
fields_at first id zero (name ∷ fields) around is = at (first == id) refl
  where
    at : (same : Bool) → (first == id) ≡ same → (if same then Some (named first name around) else find (λ l. l.id == id) (listed_fields (suc first) fields around)) ≡ Some (named id name around)
    at true same = let e : first ≡ id = omega arith in ap (λ n. Some (named n name around)) e
    at false other = absurd (grind arith)
fields_at first id (suc k) (name ∷ fields) around is = at (first == id) refl (fields_at (suc first) id k fields around (omega arith))
  where
    at : (same : Bool) → (first == id) ≡ same → find (λ l. l.id == id) (listed_fields (suc first) fields around) ≡ option_map (λ name. named id name around) (slice_get fields k) → (if same then Some (named first name around) else find (λ l. l.id == id) (listed_fields (suc first) fields around)) ≡ option_map (λ name. named id name around) (slice_get fields k)
    at true same others = absurd (grind arith)
    at false other others = others

-- ---- owners

-- what an item takes itself has the owner of its place
pub owner_own : (item : Item) (id owner : ℕ) (areas : List ℕ) (r : Option Own) → is_some r ≡ true → ((around : Around) → find (λ l. l.id == id) (own_listed item around) ≡ option_map (listed_as id around) r) → owner_among id (item_listed item (place owner areas)) ≡ Some owner
owner_own item id owner areas None has finds = cc
owner_own item id owner areas (Some (own.Named name)) has finds = ap (option_map (λ l. l.owner)) (found_own item id (place owner areas) (named id name (place owner areas)) (finds (place owner areas)))
owner_own item id owner areas (Some own.Nameless) has finds = ap (option_map (λ l. l.owner)) (found_own item id (place owner areas) (nameless id (place owner areas)) (finds (place owner areas)))

-- and the path of the areas of its place, with its name
pub path_own : (item : Item) (id owner : ℕ) (areas : List ℕ) (one : Own) → ((around : Around) → find (λ l. l.id == id) (own_listed item around) ≡ Some (listed_as id around one)) → path_among id (item_listed item (place owner areas)) ≡ Some (areas ++ own_path one)
path_own item id owner areas (own.Named name) finds = ap (option_map (λ l. l.path)) (found_own item id (place owner areas) (named id name (place owner areas)) (finds (place owner areas)))
path_own item id owner areas own.Nameless finds = ap (option_map (λ l. l.path)) (found_own item id (place owner areas) (nameless id (place owner areas)) (finds (place owner areas))) ∙ ap Some (sym (append-nil areas))

-- an id that an item does not take itself is among the items that it holds, if it is there
pub found_inside : (item : Item) (id : ℕ) (around : Around) (r : Option Own) → is_some r ≡ false → find (λ l. l.id == id) (own_listed item around) ≡ option_map (listed_as id around) r → find (λ l. l.id == id) (item_listed item around) ≡ find (λ l. l.id == id) (items_listed (held item) (inside item around))
found_inside item id around None has finds = found_held item id around finds
found_inside item id around (Some one) has finds = cc

-- ---- the items that an item holds

pub held_items : (item : Item) (items : List Item) → ((id : ℕ) × (name : ℕ) × (owner : ℕ) × (item ≡ Area id name owner items)) ⊎ (((id : ℕ) × (cond : Expr) × (item ≡ If id cond items)) ⊎ (((id : ℕ) × (store : ℕ) × (item ≡ Each id store items)) ⊎ ((tag : ℕ) × (closed : Bool) × (attrs : List Attr) × (item ≡ Element tag closed attrs items)))) → held item ≡ items
held_items item items (inl h) = ap held h.3 ∙ ap held_step (outs-Area h.0 h.1 h.2 items)
held_items item items (inr (inl h)) = ap held h.2 ∙ ap held_step (outs-If h.0 h.1 items)
held_items item items (inr (inr (inl h))) = ap held h.2 ∙ ap held_step (outs-Each h.0 h.1 items)
held_items item items (inr (inr (inr h))) = ap held h.3 ∙ ap held_step (outs-Element h.0 h.1 h.2 items)

pub inside_area : (item : Item) (id name owner : ℕ) (items : List Item) (around : Around) → item ≡ Area id name owner items → inside item around ≡ within name owner around
inside_area item id name owner items around is = ap (λ x. inside x around) is ∙ ap (λ x. inside_step x around) (outs-Area id name owner items)

-- what is in another item has the place of that
pub inside_other : (item : Item) (around : Around) → ((id name owner : ℕ) (items : List Item) → item ≡ Area id name owner items → ⊥) → inside item around ≡ around
inside_other item around no_area = at (out-Item item) (sym (roll-out-Item item))
  where
    at : (x : Item-F Item) → item ≡ roll-Item x → inside_step x around ≡ around
    at (level.Area id name owner items) is = absurd (no_area id name owner items (is ∙ rolls-Area id name owner items))
    at _ is = refl

pub held_area : (item : Item) (id name owner : ℕ) (items : List Item) (around : Around) → item ≡ Area id name owner items → items_listed (held item) (inside item around) ≡ items_listed items (within name owner around)
held_area item id name owner items around is =
    ap (λ x. items_listed (held x) (inside x around)) is
    ∙ ap (λ x. items_listed (held_step x) (inside_step x around)) (outs-Area id name owner items)

-- what is in an `if`, an `each` or an element has the place of that
pub held_block : (item : Item) (items : List Item) (around : Around) → ((id : ℕ) × (cond : Expr) × (item ≡ If id cond items)) ⊎ (((id : ℕ) × (store : ℕ) × (item ≡ Each id store items)) ⊎ ((tag : ℕ) × (closed : Bool) × (attrs : List Attr) × (item ≡ Element tag closed attrs items))) → items_listed (held item) (inside item around) ≡ items_listed items around
held_block item items around (inl h) = ap (λ x. items_listed (held x) (inside x around)) h.2 ∙ ap (λ x. items_listed (held_step x) (inside_step x around)) (outs-If h.0 h.1 items)
held_block item items around (inr (inl h)) = ap (λ x. items_listed (held x) (inside x around)) h.2 ∙ ap (λ x. items_listed (held_step x) (inside_step x around)) (outs-Each h.0 h.1 items)
held_block item items around (inr (inr h)) = ap (λ x. items_listed (held x) (inside x around)) h.3 ∙ ap (λ x. items_listed (held_step x) (inside_step x around)) (outs-Element h.0 h.1 h.2 items)

-- any other item holds none
pub held_none : (item : Item) → ((id name owner : ℕ) (items : List Item) → item ≡ Area id name owner items → ⊥) → ((id : ℕ) (cond : Expr) (items : List Item) → item ≡ If id cond items → ⊥) → ((id store : ℕ) (items : List Item) → item ≡ Each id store items → ⊥) → ((tag : ℕ) (closed : Bool) (attrs : List Attr) (items : List Item) → item ≡ Element tag closed attrs items → ⊥) → held item ≡ []
held_none item no_area no_if no_each no_element = at (out-Item item) (sym (roll-out-Item item))
  where
    at : (x : Item-F Item) → item ≡ roll-Item x → held_step x ≡ []
    at (level.Area id name owner items) is = absurd (no_area id name owner items (is ∙ rolls-Area id name owner items))
    at (level.If id cond items) is = absurd (no_if id cond items (is ∙ rolls-If id cond items))
    at (level.Each id store items) is = absurd (no_each id store items (is ∙ rolls-Each id store items))
    at (level.Element tag closed attrs items) is = absurd (no_element tag closed attrs items (is ∙ rolls-Element tag closed attrs items))
    at _ is = refl

-- ---- items one after another

first_of_two : {A : Type 0} (f : Listed → A) (one other : Option Listed) (v : A) → option_map f one ≡ Some v → option_map f (option_or one other) ≡ Some v
first_of_two f None other v is = cc
first_of_two f (Some one) other v is = is

second_of_two : {A : Type 0} (f : Listed → A) (one other : Option Listed) → option_map f one ≡ None → option_map f (option_or one other) ≡ option_map f other
second_of_two f None other is = refl
second_of_two f (Some one) other is = cc

listed_from : (items : List Item) (i : ℕ) (item : Item) (around : Around) → i < length items → item ≡ get_or items i item → items_listed (drop i items) around ≡ item_listed item around ++ items_listed (drop (i + 1) items) around
listed_from items i item around within is =
    ap (λ xs. items_listed xs around) (drop-cons items i item within)
    ∙ ap (λ one. item_listed one around ++ items_listed (drop (suc i) items) around) (sym is)
    ∙ ap (λ k. item_listed item around ++ items_listed (drop k items) around) {x = suc i} {y = i + 1} (omega arith)

pub found_here : {A : Type 0} (f : Listed → A) (id : ℕ) (items : List Item) (i : ℕ) (item : Item) (around : Around) → i < length items → item ≡ get_or items i item → (v : A) → option_map f (find (λ l. l.id == id) (item_listed item around)) ≡ Some v → option_map f (find (λ l. l.id == id) (items_listed (drop i items) around)) ≡ Some v
found_here f id items i item around within is v here =
    ap (λ xs. option_map f (find (λ l. l.id == id) xs)) (listed_from items i item around within is)
    ∙ ap (option_map f) (find-append (λ l. l.id == id) (item_listed item around) (items_listed (drop (i + 1) items) around))
    ∙ first_of_two f (find (λ l. l.id == id) (item_listed item around)) (find (λ l. l.id == id) (items_listed (drop (i + 1) items) around)) v here

pub found_behind : {A : Type 0} (f : Listed → A) (id : ℕ) (items : List Item) (i : ℕ) (item : Item) (around : Around) → i < length items → item ≡ get_or items i item → option_map f (find (λ l. l.id == id) (item_listed item around)) ≡ None → option_map f (find (λ l. l.id == id) (items_listed (drop i items) around)) ≡ option_map f (find (λ l. l.id == id) (items_listed (drop (i + 1) items) around))
found_behind f id items i item around within is none =
    ap (λ xs. option_map f (find (λ l. l.id == id) xs)) (listed_from items i item around within is)
    ∙ ap (option_map f) (find-append (λ l. l.id == id) (item_listed item around) (items_listed (drop (i + 1) items) around))
    ∙ second_of_two f (find (λ l. l.id == id) (item_listed item around)) (find (λ l. l.id == id) (items_listed (drop (i + 1) items) around)) none
