-- The rows of the keys of loads stand in the order of the loads.
use Rattle.std.proofs.Common.{◌≡◌, ℕ, zero, suc, ◌+◌, ◌<◌, inl, inr, if◌then◌else◌, Bool, true, false, List, [], ◌∷◌, ◌++◌, map, length, slice_get, Option, Some, None, refl, sym, ap, subst, ◌∙◌, append_assoc, arith, length-append}
use Rattle.std.specs.List.{flat_map, filter}
use Rattle.std.proofs.lemmas.List.Elements.{filter-append}
use Rattle.values.specs.declared.code.Code.{Code}
use Rattle.values.specs.declared.expr.Expr.{Expr}
use Rattle.values.specs.declared.plan.Kind.TheVariants as kind
use Rattle.store_fields.specs.declared.row.Row.{Row}
use Rattle.component_items.specs.declared.component.Attr.{Attr}
use Rattle.component_items.specs.declared.component.Attr.TheVariants as attr
use Rattle.component_items.specs.declared.component.Component.{Component}
use Rattle.component_items.specs.declared.component.Item.{Item}
use Rattle.component_items.specs.declared.component.Item.TheOpen as level
use Rattle.component_items.specs.declared.component.Item.TheOpen.{Item-F}
use Rattle.component_items.specs.declared.component.Item.TheViews.{roll-Item}
use Rattle.component_items.specs.declared.component.Item.TheFolds.{fold-roll-Item, map-Item, ind-Item}
use Rattle.component_items.specs.Kept.{IsKept}
use Rattle.plain_evaluation.specs.Fits.{RowsFit}
use Rattle.plain_evaluation.specs.Origins.{Origin}
use Rattle.plain_evaluation.specs.Place.{outside}
use Rattle.plain_evaluation.specs.Sound.{Among}
use Rattle.plain_evaluation.specs.Written.{State, Scene, given, loaded, derived, Written, place_of, in_row, in_area, write_attr, write_fields, write_all, write_step, write_item, write_items, pairs_among, written_in, at_top}
use Rattle.plain_evaluation.proofs.Makes.{makes_sense}
use Rattle.plain_evaluation.proofs.Origins.{have_origins}
use Rattle.plan_meaning.specs.Layout.{is_computed, rows_of, places_of, row_of}
use Rattle.plan_meaning.specs.There.{AreNested}
use Rattle.plan_meaning.specs.Told.{kind_told, kind_of_id}
use Rattle.plan_meaning.proofs.Lines.{key_line}
use Rattle.plan_meaning.proofs.Rows.{sources_of, computed_of, true_or_false, among-append, among_has, are_apart, at_map}
use Rattle.plan_meaning.proofs.Told.{kinds}
use Rattle.load_table.specs.Loads.{LoadOf, loads_in, is_live_load}
use Rattle.load_table.proofs.Keys.{row_before, key_before}
use Rattle.load_table.proofs.Lines.{is_loaded, loaded_of, load_line, loads_written}
use Rattle.load_table.proofs.Pending.{among_filter}

-- ---- each line of a load stands right behind that of its key

-- where this is the line before them
abbrev KeysBefore : Option Written → List Written → Type 0
KeysBefore before [] = Unit {0}
KeysBefore before (w ∷ ws) = (is_loaded w.says ≡ true → (key : Expr) × (before ≡ Some (key_line w key))) × KeysBefore (Some w) ws

-- such a text begins with no load, so it may stand behind any line
anywhere : (before : Option Written) (ws : List Written) → KeysBefore None ws → KeysBefore before ws
anywhere before [] keys = tt
anywhere before (w ∷ ws) keys = ((λ is. let one = keys.0 is in let none = one.1 in cc), keys.1)

keys-append : (before : Option Written) (xs ys : List Written) → KeysBefore before xs → KeysBefore None ys → KeysBefore before (xs ++ ys)
keys-append before [] ys first second = anywhere before ys second
keys-append before (x ∷ xs) ys first second = (first.0, keys-append (Some x) xs ys first.1 second)

other : (w : Written) (ws : List Written) → is_loaded w.says ≡ false → KeysBefore None ws → KeysBefore None (w ∷ ws)
other w ws not_load rest = ((λ is. absurd (true_or_false (is_loaded w.says) is not_load)), anywhere (Some w) ws rest)

fields_keyed : (first : ℕ) (codes : List Code) (scene : Scene) → KeysBefore None (write_fields first codes scene)
fields_keyed first [] scene = tt
fields_keyed first (code ∷ codes) scene = other (record { id = first; scene = scene; says = given kind.Field code }) (write_fields (suc first) codes scene) refl (fields_keyed (suc first) codes scene)

attrs_keyed : (attrs : List Attr) (scene : Scene) → KeysBefore None (flat_map (write_attr scene) attrs)
attrs_keyed [] scene = tt
attrs_keyed (attr.Bare name ∷ attrs) scene = attrs_keyed attrs scene
attrs_keyed (attr.Fixed name text ∷ attrs) scene = attrs_keyed attrs scene
attrs_keyed (attr.Shown name id expr ∷ attrs) scene = other (record { id = id; scene = scene; says = derived kind.Memo expr }) (flat_map (write_attr scene) attrs) refl (attrs_keyed attrs scene)

rows_keyed : (part : Row → List Written) (rows : List Row) → ((row : Row) → KeysBefore None (part row)) → KeysBefore None (flat_map part rows)
rows_keyed part [] each = tt
rows_keyed part (row ∷ rows) each = keys-append None (part row) (flat_map part rows) (each row) (rows_keyed part rows each)

if_keyed : (live : Bool) (ws : List Written) → KeysBefore None ws → KeysBefore None (if live then ws else [])
if_keyed true ws keys = keys
if_keyed false ws keys = tt

module _ (state : State) (pairs : ℕ → List (Code × Code)) where
  abbrev Keyed : (Scene → List Written) → Type 0
  Keyed writes = (scene : Scene) → KeysBefore None (writes scene)

  abbrev ItemKeyed : Item → Type 0
  ItemKeyed item = Keyed (write_item state pairs item)

  abbrev Proven : Type 0
  Proven = (item : Item) × ItemKeyed item

  abbrev items_of : List Proven → List Item
  items_of known = map (λ k. k.0) known

  abbrev FormKeyed : Item-F Item → Type 0
  FormKeyed x = Keyed (write_step state pairs (map-Item Item (Scene → List Written) (write_item state pairs) x))

  rolled : (x : Item-F Item) → FormKeyed x → ItemKeyed (roll-Item x)
  unfolding write_item
  rolled x keys = subst Keyed (sym (fold-roll-Item (Scene → List Written) (write_step state pairs) x)) keys

  block : (known : List Proven) → Keyed (write_all (map (write_item state pairs) (items_of known)))
  block [] scene = tt
  block (k ∷ known) scene = keys-append None (write_item state pairs k.0 scene) (write_all (map (write_item state pairs) (items_of known)) scene) (k.1 scene) (block known scene)

  by_form : (y : Item-F Proven) → FormKeyed (map-Item Proven Item (λ k. k.0) y)
  by_form (level.Signal id name start) scene = ((λ is. cc), tt)
  by_form (level.Memo id name expr) scene = ((λ is. cc), tt)
  by_form (level.Effect id name expr) scene = ((λ is. cc), tt)
  by_form (level.Resource id name after keys values) scene = tt
  by_form (level.Load id name resource key) scene = ((λ is. cc), ((λ is. (key, refl)), tt))
  by_form (level.Store id name max fields starts) scene = rows_keyed (λ row. write_fields (2 + id) row.fields (in_row id row.key scene)) (state.rows id) (λ row. fields_keyed (2 + id) row.fields (in_row id row.key scene))
  by_form (level.Cleanup text) scene = tt
  by_form (level.Area id name owner known) scene = if_keyed (state.live owner) (write_all (map (write_item state pairs) (items_of known)) (in_area owner scene)) (block known (in_area owner scene))
  by_form (level.If id cond known) scene = other (record { id = id; scene = scene; says = derived kind.Memo cond }) (write_all (map (write_item state pairs) (items_of known)) scene) refl (block known scene)
  by_form (level.Each id store known) scene = rows_keyed (λ row. write_all (map (write_item state pairs) (items_of known)) (in_row store row.key scene)) (state.rows store) (λ row. block known (in_row store row.key scene))
  by_form (level.Element tag closed attrs known) scene = keys-append None (flat_map (write_attr scene) attrs) (write_all (map (write_item state pairs) (items_of known)) scene) (attrs_keyed attrs scene) (block known scene)
  by_form (level.Text text) scene = tt
  by_form (level.Shown id expr) scene = ((λ is. cc), tt)

  item_keyed : (item : Item) → ItemKeyed item
  item_keyed = ind-Item ItemKeyed (λ x y is. subst (λ z. ItemKeyed (roll-Item z)) is (rolled (map-Item Proven Item (λ k. k.0) y) (by_form y)))

  items_keyed : (items : List Item) → Keyed (write_items state pairs items)
  items_keyed [] scene = tt
  items_keyed (item ∷ items) scene = keys-append None (write_item state pairs item scene) (write_items state pairs items scene) (item_keyed item scene) (items_keyed items scene)

all_keyed : (component : Component) (state : State) → KeysBefore None (written_in component state)
all_keyed component state = if_keyed (state.live 0) (write_items state (pairs_among component.items) component.items at_top) (items_keyed state (pairs_among component.items) component.items at_top)

-- the last line before a load is that of its key
last_key : (x : Written) (xs ys : List Written) (w : Written) → KeysBefore (Some x) (xs ++ w ∷ ys) → is_loaded w.says ≡ true → (key : Expr) × (zs : List Written) × (x ∷ xs ≡ zs ++ key_line w key ∷ [])
last_key x [] ys w keys is = let one = keys.0 is in let e = one.1 in let same : x ≡ key_line w one.0 = cc in (one.0, [], λ i. same i ∷ [])
last_key x (y ∷ xs) ys w keys is = let one = last_key y xs ys w keys.1 is in (one.0, x ∷ one.1, λ i. x ∷ one.2 i)

behind_its_key : (xs ys : List Written) (w : Written) → KeysBefore None (xs ++ w ∷ ys) → is_loaded w.says ≡ true → (key : Expr) × (zs : List Written) × (xs ≡ zs ++ key_line w key ∷ [])
behind_its_key [] ys w keys is = let one = keys.0 is in let none = one.1 in cc
behind_its_key (x ∷ xs) ys w keys is = last_key x xs ys w keys.1 is

-- ---- the lines of two loads

module _ (live : LoadOf → Bool) (line : LoadOf → Written) where
  abbrev lines : List LoadOf → List Written
  lines loads = map line (filter live loads)

  parted_at : (loads : List LoadOf) (place : ℕ) (load : LoadOf) → slice_get loads place ≡ Some load → live load ≡ true → (xs : List Written) × (ys : List Written) × (lines loads ≡ xs ++ line load ∷ ys)
  parted_at [] place load is lives = cc
  parted_at (x ∷ loads) zero load is lives = let same : x ≡ load = cc in at (live x) (ap live same ∙ lives) (ap line same)
    where
      at : (b : Bool) → b ≡ true → line x ≡ line load → (xs : List Written) × (ys : List Written) × (map line (if b then x ∷ filter live loads else filter live loads) ≡ xs ++ line load ∷ ys)
      at true is same = ([], lines loads, λ i. same i ∷ lines loads)
      at false is same = cc
  parted_at (x ∷ loads) (suc place) load is lives = at (live x) (parted_at loads place load is lives)
    where
      at : (b : Bool) → (xs : List Written) × (ys : List Written) × (lines loads ≡ xs ++ line load ∷ ys) → (xs : List Written) × (ys : List Written) × (map line (if b then x ∷ filter live loads else filter live loads) ≡ xs ++ line load ∷ ys)
      at true one = (line x ∷ one.0, one.1, λ i. line x ∷ one.2 i)
      at false one = one

  -- that of the first is before that of the second
  first_before : (loads : List LoadOf) (j i : ℕ) (one two : LoadOf) → j < i → slice_get loads j ≡ Some one → slice_get loads i ≡ Some two → live one ≡ true → live two ≡ true → (xs : List Written) × (ys : List Written) × (lines loads ≡ xs ++ line two ∷ ys) × Among xs (line one)
  first_before [] j i one two lt at_one at_two live_one live_two = cc
  first_before (x ∷ loads) zero zero one two lt at_one at_two live_one live_two = absurd (omega arith)
  first_before (x ∷ loads) zero (suc i) one two lt at_one at_two live_one live_two = let same : x ≡ one = cc in at (live x) (ap live same ∙ live_one) (ap line same) (parted_at loads i two at_two live_two)
    where
      at : (b : Bool) → b ≡ true → line x ≡ line one → (xs : List Written) × (ys : List Written) × (lines loads ≡ xs ++ line two ∷ ys) → (xs : List Written) × (ys : List Written) × (map line (if b then x ∷ filter live loads else filter live loads) ≡ xs ++ line two ∷ ys) × Among xs (line one)
      at true is same part = (line x ∷ part.0, part.1, (λ i. line x ∷ part.2 i), inl same)
      at false is same part = cc
  first_before (x ∷ loads) (suc j) zero one two lt at_one at_two live_one live_two = absurd (omega arith)
  first_before (x ∷ loads) (suc j) (suc i) one two lt at_one at_two live_one live_two = at (live x) (first_before loads j i one two (omega arith) at_one at_two live_one live_two)
    where
      at : (b : Bool) → (xs : List Written) × (ys : List Written) × (lines loads ≡ xs ++ line two ∷ ys) × Among xs (line one) → (xs : List Written) × (ys : List Written) × (map line (if b then x ∷ filter live loads else filter live loads) ≡ xs ++ line two ∷ ys) × Among xs (line one)
      at true r = (line x ∷ r.0, r.1, (λ i. line x ∷ r.2 i), inr r.3)
      at false r = r

-- a part of the lines of loads is that of a part of the text
split_loaded : (ws xs ys : List Written) (w : Written) → loaded_of ws ≡ xs ++ w ∷ ys → (before : List Written) × (after : List Written) × (ws ≡ before ++ w ∷ after) × (loaded_of before ≡ xs)
split_loaded [] [] ys w is = cc
split_loaded [] (x ∷ xs) ys w is = cc
split_loaded (v ∷ ws) xs ys w is = at (is_loaded v.says) refl xs is (split_loaded ws)
  where
    at : (b : Bool) → is_loaded v.says ≡ b → (xs : List Written) → (if b then v ∷ loaded_of ws else loaded_of ws) ≡ xs ++ w ∷ ys → ((zs us : List Written) (u : Written) → loaded_of ws ≡ zs ++ u ∷ us → (before : List Written) × (after : List Written) × (ws ≡ before ++ u ∷ after) × (loaded_of before ≡ zs)) → (before : List Written) × (after : List Written) × (v ∷ ws ≡ before ++ w ∷ after) × (loaded_of before ≡ xs)
    at true d [] is later = let e : v ≡ w = cc in ([], ws, (λ i. e i ∷ ws), refl)
    at true d (x ∷ xs) is later =
        let e : v ≡ x = cc in
        let rest : loaded_of ws ≡ xs ++ w ∷ ys = cc in
        let one = later xs ys w rest in
        (v ∷ one.0, one.1, (λ i. v ∷ one.2 i), ap (λ (b : Bool). if b then v ∷ loaded_of one.0 else loaded_of one.0) d ∙ (λ i. e i ∷ one.3 i))
    at false d xs is later =
        let one = later xs ys w is in
        (v ∷ one.0, one.1, (λ i. v ∷ one.2 i), ap (λ (b : Bool). if b then v ∷ loaded_of one.0 else loaded_of one.0) d ∙ one.3)

not_last : (xs : List Written) (k v : Written) → (k ≡ v → ⊥) → Among (xs ++ k ∷ []) v → Among xs v
not_last [] k v apart (inl same) = absurd (apart same)
not_last [] k v apart (inr none) = absurd none
not_last (x ∷ xs) k v apart (inl here) = inl here
not_last (x ∷ xs) k v apart (inr later) = inr (not_last xs k v apart later)

at_end : (xs ys : List Written) (k : Written) → slice_get (xs ++ k ∷ ys) (length xs) ≡ Some k
at_end [] ys k = refl
at_end (x ∷ xs) ys k = at_end xs ys k

-- ---- keys

pub keys_rise : (component : Component) (state : State) → IsKept component → RowsFit component state → AreNested component state → (j i : ℕ) (one two : LoadOf) → j < i → slice_get (loads_in component) j ≡ Some one → slice_get (loads_in component) i ≡ Some two → is_live_load component state one ≡ true → is_live_load component state two ≡ true → (first second : ℕ) → row_of (places_of (written_in component state)) (outside (suc one.id)) ≡ Some first → row_of (places_of (written_in component state)) (outside (suc two.id)) ≡ Some second → first < second
keys_rise component state kept fits nested j i one two lt at_one at_two live_one live_two first second found_one found_two = omega (arith, low, high)
  where
    ws : List Written
    ws = written_in component state

    order : (xs : List Written) × (ys : List Written) × (map (load_line component state) (filter (is_live_load component state) (loads_in component)) ≡ xs ++ load_line component state two ∷ ys) × Among xs (load_line component state one)
    order = first_before (is_live_load component state) (load_line component state) (loads_in component) j i one two lt at_one at_two live_one live_two

    split : (before : List Written) × (after : List Written) × (ws ≡ before ++ load_line component state two ∷ after) × (loaded_of before ≡ order.0)
    split = split_loaded ws order.0 order.1 (load_line component state two) (loads_written component state kept nested ∙ order.2)

    key : (key : Expr) × (zs : List Written) × (split.0 ≡ zs ++ key_line (load_line component state two) key ∷ [])
    key = behind_its_key split.0 split.1 (load_line component state two) (subst (KeysBefore None) split.2 (all_keyed component state)) refl

    zs : List Written
    zs = key.1

    k : Written
    k = key_line (load_line component state two) key.0

    rest : List Written
    rest = load_line component state two ∷ split.1

    whole : ws ≡ zs ++ k ∷ rest
    whole = split.2 ∙ ap (λ (xs : List Written). xs ++ rest) key.2 ∙ append_assoc zs (k ∷ []) rest

    apart : k ≡ load_line component state one → ⊥
    apart same = let says : derived kind.Memo key.0 ≡ loaded one.pairs (state.arrived one.id) = ap (λ (w : Written). w.says) same in cc

    among : Among zs (load_line component state one)
    among = not_last zs k (load_line component state one) apart (subst (λ (xs : List Written). Among xs (load_line component state one)) key.2 (among_filter (λ w. is_loaded w.says) split.0 (load_line component state one) (subst (λ (xs : List Written). Among xs (load_line component state one)) (sym split.3) order.3)))

    is_load : kind_of_id component one.id ≡ Some kind.Load
    is_load =
        ap (λ (o : Origin). kind_told o.told) (have_origins component state kept fits (load_line component state one) (subst (λ (xs : List Written). Among xs (load_line component state one)) (sym whole) (among-append zs (k ∷ rest) (load_line component state one) (inl among))))
        ∙ kinds (loaded one.pairs (state.arrived one.id))

    low : first < length (sources_of ws) + length (computed_of zs)
    low = row_before ws zs (k ∷ rest) (outside (suc one.id)) first whole (key_before component state kept fits zs (k ∷ rest) whole (outside one.id) is_load (among_has zs (load_line component state one) among)) found_one

    parted : rows_of ws ≡ (sources_of ws ++ computed_of zs) ++ k ∷ computed_of rest
    parted = ap (λ (xs : List Written). sources_of ws ++ computed_of xs) whole ∙ ap (λ (xs : List Written). sources_of ws ++ xs) (filter-append (λ v. is_computed v.says) zs (k ∷ rest)) ∙ sym (append_assoc (sources_of ws) (computed_of zs) (k ∷ computed_of rest))

    at_row : slice_get (rows_of ws) (length (sources_of ws ++ computed_of zs)) ≡ Some k
    at_row = ap (λ (xs : List Written). slice_get xs (length (sources_of ws ++ computed_of zs))) parted ∙ at_end (sources_of ws ++ computed_of zs) (computed_of rest) k

    high : second ≡ length (sources_of ws) + length (computed_of zs)
    high =
        let row : row_of (places_of ws) (outside (suc two.id)) ≡ Some (length (sources_of ws ++ computed_of zs)) = are_apart ws (makes_sense component state kept fits).differ (length (sources_of ws ++ computed_of zs)) (outside (suc two.id)) (at_map place_of (rows_of ws) (length (sources_of ws ++ computed_of zs)) k at_row) in
        let same : Some second ≡ Some (length (sources_of ws ++ computed_of zs)) = sym found_two ∙ row in
        let here : second ≡ length (sources_of ws ++ computed_of zs) = cc in
        here ∙ length-append (sources_of ws) (computed_of zs)
