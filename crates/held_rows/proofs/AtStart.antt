-- What each id holds at the start, against what the text says of it.
use Rattle.std.proofs.Common.{◌≡◌, ℕ, zero, suc, ◌+◌, ◌<◌, ◌≤◌, ◌^◌, ◌⊎◌, inl, inr, ◌==◌, ◌&&◌, if◌then◌else◌, Bool, true, false, List, [], ◌∷◌, ◌++◌, map, length, get_or, Option, Some, None, refl, sym, ap, subst, ◌∙◌, arith}
use Rattle.std.specs.List.{flat_map, list_all, range_with_len}
use Rattle.std.proofs.Math.ListN.{get_or-eq_default}
use Rattle.std.proofs.lemmas.Bool.{eqb-true}
use Rattle.values.specs.declared.code.Code.{Code}
use Rattle.values.specs.declared.plan.Kind.TheVariants as kind
use Rattle.store_fields.specs.Edits.{KeyedRows}
use Rattle.component_items.specs.declared.component.Attr.{Attr}
use Rattle.component_items.specs.declared.component.Attr.TheVariants as attr
use Rattle.component_items.specs.declared.component.Component.{Component}
use Rattle.component_items.specs.declared.component.Item.{Item}
use Rattle.component_items.specs.declared.component.Item.TheOpen as level
use Rattle.component_items.specs.declared.component.Item.TheOpen.{Item-F}
use Rattle.component_items.specs.declared.component.Item.TheViews.{roll-Item}
use Rattle.component_items.specs.declared.component.Item.TheFolds.{fold-roll-Item, map-Item, ind-Item}
use Rattle.component_items.specs.Ids.{ids_in}
use Rattle.component_items.specs.Kept.{IsKept}
use Rattle.plain_evaluation.specs.Changed.{store_in, store_of}
use Rattle.plain_evaluation.specs.Fits.{all_fit, fits_step, item_fits, rows_fit, holding_fits, store_held}
use Rattle.plain_evaluation.specs.Held.{Holding, nothing, value, stored, arrived, Held, holding_of, is_live, first_attr, first_step, item_first, first_held}
use Rattle.plain_evaluation.specs.Lookup.{found_in}
use Rattle.plain_evaluation.specs.Origins.{Told, nothing_told, source, derives, Around, Origin, no_origin, tell_attr, tell_fields, tell_all, tell_step, tell_item, tell_items, top_around, origin_in}
use Rattle.plain_evaluation.specs.Written.{pairs_among}
use Rattle.plain_evaluation.proofs.Begins.{items_begun}
use Rattle.plain_evaluation.proofs.Goings.{items_go}
use Rattle.plain_evaluation.proofs.Lookup.{ids_of, length_ids, AreFound, found-append}
use Rattle.plain_evaluation.proofs.Places.{and_cases}
use Rattle.plain_evaluation.proofs.Told.{origins_right}
use Rattle.held_state.specs.Holds.{Form, no_form, signal_form, store_form, form_of, owner_around}
use Rattle.held_state.specs.State.{HeldState, IsOf}
use Rattle.held_state.proofs.Gone.{items_taken}
use Rattle.held_state.proofs.OfComponent.{store_form_of}
use Rattle.held_rows.specs.Writing.{HasIds}

-- ---- origins and holdings, one for each id in text order

abbrev Aligned : (ℕ → Origin → Holding → Type 0) → List (ℕ × Origin) → List Holding → Type 0
Aligned P [] [] = Unit {0}
Aligned P [] (h ∷ hs) = ⊥
Aligned P (pair ∷ pairs) [] = ⊥
Aligned P (pair ∷ pairs) (h ∷ hs) = P pair.0 pair.1 h × Aligned P pairs hs

aligned-append : (P : ℕ → Origin → Holding → Type 0) (xs ys : List (ℕ × Origin)) (hs gs : List Holding) → Aligned P xs hs → Aligned P ys gs → Aligned P (xs ++ ys) (hs ++ gs)
aligned-append P [] ys [] gs a b = b
aligned-append P [] ys (h ∷ hs) gs a b = absurd a
aligned-append P (x ∷ xs) ys [] gs a b = absurd a
aligned-append P (x ∷ xs) ys (h ∷ hs) gs a b = (a.0, aligned-append P xs ys hs gs a.1 b)

aligned_at : (P : ℕ → Origin → Holding → Type 0) (told : ℕ → Origin) (pairs : List (ℕ × Origin)) (hs : List Holding) (first k : ℕ) → ids_of pairs ≡ range_with_len first (length pairs) → AreFound told pairs → Aligned P pairs hs → k < length hs → P (first + k) (told (first + k)) (get_or hs k nothing)
aligned_at P told [] [] first k ids found all lt = absurd (omega arith)
aligned_at P told [] (h ∷ hs) first k ids found all lt = absurd all
aligned_at P told (pair ∷ pairs) [] first k ids found all lt = absurd all
aligned_at P told (pair ∷ pairs) (h ∷ hs) first zero ids found all lt =
    let same : pair.0 ≡ first = cc in
    let here : pair.0 ≡ first + 0 = omega arith in
    subst (λ (n : ℕ). P n (told n) h) here (subst (λ (o : Origin). P pair.0 o h) (sym found.0) all.0)
aligned_at P told (pair ∷ pairs) (h ∷ hs) first (suc k) ids found all lt =
    let rest : ids_of pairs ≡ range_with_len (first + 1) (length pairs) = cc in
    let here : (first + 1) + k ≡ first + suc k = omega arith in
    subst (λ (n : ℕ). P n (told n) (get_or hs k nothing)) here (aligned_at P told pairs hs (first + 1) k rest found.1 all.1 (omega arith))

-- an id past all of them has no origin
past : (pairs : List (ℕ × Origin)) (first id : ℕ) → ids_of pairs ≡ range_with_len first (length pairs) → first + length pairs ≤ id → found_in no_origin pairs id ≡ no_origin
past [] first id ids le = refl
past (pair ∷ pairs) first id ids le =
    let same : pair.0 ≡ first = cc in
    let rest : ids_of pairs ≡ range_with_len (first + 1) (length pairs) = cc in
    at (pair.0 == id) refl same (past pairs (first + 1) id rest (omega arith))
  where
    at : (b : Bool) → (pair.0 == id) ≡ b → pair.0 ≡ first → found_in no_origin pairs id ≡ no_origin → (if b then pair.1 else found_in no_origin pairs id) ≡ no_origin
    at true is same later = let e : pair.0 ≡ id = eqb-true pair.0 id is in absurd (omega arith)
    at false is same later = later

-- ---- one id

module _ (held : Held) (told : ℕ → Origin) where
  -- a store with the id is of so many fields, and the ids behind its own and that of its key are theirs
  pub record HasFields (id : ℕ) : Type 0 where
    pub max : ℕ
    pub width : ℕ
    pub fits : store_held held id max width ≡ true
    pub field : (k : ℕ) → k < width → ((told (2 + id + k)).told ≡ source kind.Field) × ((told (2 + id + k)).around.store ≡ Some id)

  pub record AtStart (id : ℕ) (origin : Origin) (h : Holding) : Type 0 where
    pub signal : form_of h ≡ signal_form → origin.told ≡ source kind.Signal
    pub said : origin.told ≡ source kind.Signal → form_of h ≡ signal_form
    pub store : form_of h ≡ store_form → HasFields id

  plain : (id : ℕ) (around : Around) (what : Told) → (what ≡ source kind.Signal → ⊥) → AtStart id (record { around = around; told = what }) nothing
  plain id around what other = record { signal = λ is. cc; said = λ is. absurd (other is); store = λ is. cc }

  attrs_at : (attrs : List Attr) (around : Around) → Aligned AtStart (flat_map (tell_attr around) attrs) (flat_map first_attr attrs)
  attrs_at [] around = tt
  attrs_at (attr.Bare name ∷ attrs) around = attrs_at attrs around
  attrs_at (attr.Fixed name text ∷ attrs) around = attrs_at attrs around
  attrs_at (attr.Shown name id expr ∷ attrs) around = (plain id around (derives kind.Memo expr) (λ is. cc), attrs_at attrs around)

  fields_at : (first : ℕ) (fields : List ℕ) (around : Around) → Aligned AtStart (tell_fields first fields around) (map (λ field. nothing) fields)
  fields_at first [] around = tt
  fields_at first (name ∷ fields) around = (plain first around (source kind.Field) (λ is. cc), fields_at (suc first) fields around)

  fields_found : (first : ℕ) (fields : List ℕ) (around : Around) (k : ℕ) → AreFound told (tell_fields first fields around) → k < length fields → told (first + k) ≡ record { around = around; told = source kind.Field }
  fields_found first [] around k found lt = absurd (omega arith)
  fields_found first (name ∷ fields) around zero found lt = let e : first + 0 ≡ first = omega arith in ap told e ∙ found.0
  fields_found first (name ∷ fields) around (suc k) found lt = let e : first + suc k ≡ suc first + k = omega arith in ap told e ∙ fields_found (suc first) fields around k found.1 (omega arith)

  abbrev Begins : Bool → (Around → List (ℕ × Origin)) → List Holding → Type 0
  Begins fits tells first = (around : Around) → fits ≡ true → AreFound told (tells around) → Aligned AtStart (tells around) first

  module _ (pairs : ℕ → List (Code × Code)) where
    abbrev ItemIs : Item → Type 0
    ItemIs item = Begins (item_fits (store_held held) item) (tell_item pairs item) (item_first item)

    abbrev Proven : Type 0
    Proven = (item : Item) × ItemIs item

    abbrev items_of : List Proven → List Item
    items_of known = map (λ k. k.0) known

    abbrev FormIs : Item-F Item → Type 0
    FormIs x = Begins (fits_step (store_held held) (map-Item Item Bool (item_fits (store_held held)) x)) (tell_step pairs (map-Item Item (Around → List (ℕ × Origin)) (tell_item pairs) x)) (first_step (map-Item Item (List Holding) item_first x))

    rolled : (x : Item-F Item) → FormIs x → ItemIs (roll-Item x)
    unfolding item_fits tell_item item_first
    rolled x is =
        subst (λ f. Begins f (tell_item pairs (roll-Item x)) (item_first (roll-Item x))) (sym (fold-roll-Item Bool (fits_step (store_held held)) x))
        (subst (λ f. Begins (fits_step (store_held held) (map-Item Item Bool (item_fits (store_held held)) x)) f (item_first (roll-Item x))) (sym (fold-roll-Item (Around → List (ℕ × Origin)) (tell_step pairs) x))
        (subst (λ f. Begins (fits_step (store_held held) (map-Item Item Bool (item_fits (store_held held)) x)) (tell_step pairs (map-Item Item (Around → List (ℕ × Origin)) (tell_item pairs) x)) f) (sym (fold-roll-Item (List Holding) first_step x))
        is))

    block : (known : List Proven) → Begins (all_fit (map (item_fits (store_held held)) (items_of known))) (tell_all (map (tell_item pairs) (items_of known))) (flat_map (λ one. one) (map item_first (items_of known)))
    block [] around fits found = tt
    block (k ∷ known) around fits found =
        let fit = and_cases (item_fits (store_held held) k.0) (all_fit (map (item_fits (store_held held)) (items_of known))) fits in
        let both = found-append told (tell_item pairs k.0 around) (tell_all (map (tell_item pairs) (items_of known)) around) found in
        aligned-append AtStart (tell_item pairs k.0 around) (tell_all (map (tell_item pairs) (items_of known)) around) (item_first k.0) (flat_map (λ one. one) (map item_first (items_of known))) (k.1 around fit.0 both.0) (block known around fit.1 both.1)

    by_form : (y : Item-F Proven) → FormIs (map-Item Proven Item (λ k. k.0) y)
    by_form (level.Signal id name start) around fits found = (record { signal = λ is. refl; said = λ is. refl; store = λ is. cc }, tt)
    by_form (level.Memo id name expr) around fits found = (plain id around (derives kind.Memo expr) (λ is. cc), tt)
    by_form (level.Effect id name expr) around fits found = (plain id around (derives kind.Effect expr) (λ is. cc), tt)
    by_form (level.Resource id name after keys values) around fits found = (plain id around nothing_told (λ is. cc), tt)
    by_form (level.Load id name resource key) around fits found = (record { signal = λ is. cc; said = λ is. cc; store = λ is. cc }, (plain (suc id) around (derives kind.Memo key) (λ is. cc), tt))
    by_form (level.Store id name max fields starts) around fits found = (
      record {
        signal = λ is. cc;
        said = λ is. cc;
        store = λ is. record {
          max = max;
          width = length fields;
          fits = fits;
          field = λ k lt. (let one = fields_found (2 + id) fields (record around { store = Some id }) k found.1.1 lt in (ap (λ (o : Origin). o.told) one, ap (λ (o : Origin). o.around.store) one));
        };
      },
      (plain (suc id) around nothing_told (λ is. cc), fields_at (2 + id) fields (record around { store = Some id })),
    )
    by_form (level.Cleanup text) around fits found = tt
    by_form (level.Area id name owner known) around fits found = (plain id around nothing_told (λ is. cc), block known (record around { owner = owner }) fits found.1)
    by_form (level.If id cond known) around fits found = (plain id around (derives kind.Memo cond) (λ is. cc), block known around fits found.1)
    by_form (level.Each id store known) around fits found = (plain id around nothing_told (λ is. cc), block known (record around { store = Some store }) fits found.1)
    by_form (level.Element tag closed attrs known) around fits found =
        let both = found-append told (flat_map (tell_attr around) attrs) (tell_all (map (tell_item pairs) (items_of known)) around) found in
        aligned-append AtStart (flat_map (tell_attr around) attrs) (tell_all (map (tell_item pairs) (items_of known)) around) (flat_map first_attr attrs) (flat_map (λ one. one) (map item_first (items_of known))) (attrs_at attrs around) (block known around fits both.1)
    by_form (level.Text text) around fits found = tt
    by_form (level.Shown id expr) around fits found = (plain id around (derives kind.Memo expr) (λ is. cc), tt)

    item_is : (item : Item) → ItemIs item
    item_is = ind-Item ItemIs (λ x y is. subst (λ z. ItemIs (roll-Item z)) is (rolled (map-Item Proven Item (λ k. k.0) y) (by_form y)))

    text_is : (items : List Item) → Begins (list_all (item_fits (store_held held)) items) (tell_items pairs items) (flat_map item_first items)
    text_is [] around fits found = tt
    text_is (item ∷ items) around fits found =
        let fit = and_cases (item_fits (store_held held) item) (list_all (item_fits (store_held held)) items) fits in
        let both = found-append told (tell_item pairs item around) (tell_items pairs items around) found in
        aligned-append AtStart (tell_item pairs item around) (tell_items pairs items around) (item_first item) (flat_map item_first items) (item_is item around fit.0 both.0) (text_is items around fit.1 both.1)

-- ---- all of a component

below_or_not : (k n : ℕ) → (k < n) ⊎ (n ≤ k)
below_or_not k zero = inr (omega arith)
below_or_not zero (suc n) = inl (omega arith)
below_or_not (suc k) (suc n) = at (below_or_not k n)
  where
    at : (k < n) ⊎ (n ≤ k) → (suc k < suc n) ⊎ (suc n ≤ suc k)
    at (inl lt) = inl (omega arith)
    at (inr le) = inr (omega arith)

module _ (component : Component) (kept : IsKept component) where
  abbrev pairs : ℕ → List (Code × Code)
  pairs = pairs_among component.items

  abbrev table : List (ℕ × Origin)
  table = tell_items pairs component.items top_around

  table_ids : ids_in component.items ≡ ids_of table
  table_ids = sym (items_go 0 component.items).all_ids ∙ (items_taken 0 pairs component.items).every_id top_around

  table_long : length table ≡ length (ids_in component.items)
  table_long = sym (length_ids table) ∙ ap length (sym table_ids)

  numbered : ids_of table ≡ range_with_len 0 (length table)
  numbered = sym table_ids ∙ kept.numbered.ids ∙ ap (range_with_len 0) (sym table_long)

  firsts_long : length (first_held component).holdings ≡ length (ids_in component.items)
  firsts_long = sym (items_begun (first_held component) component.items).0

  -- what an id past all of them has
  pub no_id : (id : ℕ) → length (ids_in component.items) ≤ id → origin_in component id ≡ no_origin
  no_id id le = past table 0 id numbered (let long = table_long in omega arith)

  pub at_start : (held : Held) → list_all (item_fits (store_held held)) component.items ≡ true → (id : ℕ) → AtStart held (origin_in component) id (origin_in component id) (holding_of (first_held component) id)
  at_start held fits id = at (below_or_not id (length (first_held component).holdings))
    where
      right : AreFound (origin_in component) table
      right = origins_right pairs component.items top_around kept.numbered.ids

      at : (id < length (first_held component).holdings) ⊎ (length (first_held component).holdings ≤ id) → AtStart held (origin_in component) id (origin_in component id) (holding_of (first_held component) id)
      at (inl lt) = let e : 0 + id ≡ id = omega arith in subst (λ (n : ℕ). AtStart held (origin_in component) n (origin_in component n) (holding_of (first_held component) id)) e (aligned_at (AtStart held (origin_in component)) (origin_in component) table (first_held component).holdings 0 id numbered right (text_is held (origin_in component) pairs component.items top_around fits right) lt)
      at (inr le) =
          let none : holding_of (first_held component) id ≡ nothing = get_or-eq_default (first_held component).holdings nothing le in
          subst (λ (o : Origin). AtStart held (origin_in component) id o (holding_of (first_held component) id)) (sym (no_id id (let long = firsts_long in omega arith)))
          (subst (λ (h : Holding). AtStart held (origin_in component) id no_origin h) (sym none) (plain held (origin_in component) id top_around nothing_told (λ is. cc)))

  module _ (state : HeldState) (is : IsOf component state) where
    -- what an id holds is of the form that it has at the start, or nothing
    form_first : (id : ℕ) (form : Form) → (form ≡ no_form → ⊥) → form_of (holding_of state.held id) ≡ form → (form_of (holding_of (first_held component) id) ≡ form) × (is_live state.held (owner_around component id) ≡ true)
    form_first id form some has = at (is_live state.held (owner_around component id)) refl (sym (is.holds.each id) ∙ has)
      where
        at : (b : Bool) → is_live state.held (owner_around component id) ≡ b → (if b then form_of (holding_of (first_held component) id) else no_form) ≡ form → (form_of (holding_of (first_held component) id) ≡ form) × (is_live state.held (owner_around component id) ≡ true)
        at true live e = (e, live)
        at false dead e = absurd (some (sym e))

    -- what holds a value is a signal, and is so by the text
    pub value_told : (id : ℕ) → form_of (holding_of state.held id) ≡ signal_form → (origin_in component id).told ≡ source kind.Signal
    value_told id has = (at_start state.held is.fits.stores id).signal (form_first id signal_form (λ e. cc) has).0

    -- a live signal holds a value
    pub signal_held : (id : ℕ) → (origin_in component id).told ≡ source kind.Signal → is_live state.held (owner_around component id) ≡ true → form_of (holding_of state.held id) ≡ signal_form
    signal_held id told live = is.holds.each id ∙ ap (λ (b : Bool). if b then form_of (holding_of (first_held component) id) else no_form) live ∙ (at_start state.held is.fits.stores id).said told

    sized : (h : Holding) (store : KeyedRows) → store_in h ≡ Some store → (max width : ℕ) → holding_fits max width h ≡ true → (store.width ≡ width) × (rows_fit store.max store.width store.rows ≡ true)
    sized nothing store was max width fit = cc
    sized (value code) store was max width fit = cc
    sized (stored other) store was max width fit =
        let same : other ≡ store = cc in
        let now : holding_fits max width (stored store) ≡ true = ap (λ (s : KeyedRows). holding_fits max width (stored s)) (sym same) ∙ fit in
        let both = and_cases ((store.max == max) && (store.width == width)) (rows_fit max width store.rows) now in
        let two = and_cases (store.max == max) (store.width == width) both.0 in
        let at_max : store.max ≡ max = eqb-true store.max max two.0 in
        let at_width : store.width ≡ width = eqb-true store.width width two.1 in
        (at_width, (λ i. rows_fit (at_max i) (at_width i) store.rows) ∙ both.1)
    sized (arrived key) store was max width fit = cc

    store_fields : (id : ℕ) (store : KeyedRows) → store_of state.held id ≡ Some store → HasFields state.held (origin_in component) id
    store_fields id store was = (at_start state.held is.fits.stores id).store (form_first id store_form (λ e. cc) (store_form_of (holding_of state.held id) store was)).0

    -- a live store's rows are as it may have them
    pub store_fits : (id : ℕ) (store : KeyedRows) → store_of state.held id ≡ Some store → rows_fit store.max store.width store.rows ≡ true
    store_fits id store was = let has = store_fields id store was in (sized (holding_of state.held id) store was has.max has.width has.fits).1

    -- the ids of a live store's fields are told to be its fields
    pub field_told : (id : ℕ) (store : KeyedRows) (k : ℕ) → store_of state.held id ≡ Some store → k < store.width → ((origin_in component (2 + id + k)).told ≡ source kind.Field) × ((origin_in component (2 + id + k)).around.store ≡ Some id)
    field_told id store k was lt =
        let has = store_fields id store was in
        let width = (sized (holding_of state.held id) store was has.max has.width has.fits).0 in
        has.field k (omega arith)

    pub few_holdings : length state.held.holdings < 2 ^ 31
    few_holdings = let long = is.holds.long in let few = kept.few_ids in omega arith

    -- the ids of fields are ids
    pub field_ids : (id : ℕ) → HasIds id (store_of state.held id)
    field_ids id = at (store_of state.held id) refl
      where
        within : (store : KeyedRows) → store_of state.held id ≡ Some store → (k : ℕ) → k < store.width → (2 + id + k < length (ids_in component.items)) ⊎ (length (ids_in component.items) ≤ 2 + id + k) → 2 + id + k < 2 ^ 32
        within store was k lt (inl below) = let few = kept.few_ids in omega arith
        within store was k lt (inr past_all) =
            let told = (field_told id store k was lt).0 in
            let none : (origin_in component (2 + id + k)).told ≡ nothing_told = ap (λ (o : Origin). o.told) (no_id (2 + id + k) past_all) in
            let clash : nothing_told ≡ source kind.Field = sym none ∙ told in
            cc

        at : (o : Option KeyedRows) → store_of state.held id ≡ o → HasIds id o
        at None was = tt
        at (Some store) was = λ k lt. within store was k lt (below_or_not (2 + id + k) (length (ids_in component.items)))
