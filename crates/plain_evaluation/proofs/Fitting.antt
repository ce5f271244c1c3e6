-- State that fits a component.
use Rattle.std.proofs.Common.{◌≡◌, ℕ, ◌≤◌, ◌==◌, ◌&&◌, Bool, true, List, [], ◌∷◌, map, length, refl, sym, ap, subst, ◌∙◌, arith}
use Rattle.std.specs.List.{list_all}
use Rattle.std.proofs.lemmas.Bool.{eqb-true}
use Rattle.store_fields.specs.declared.row.Row.{Row}
use Rattle.component_items.specs.declared.component.Component.{Component}
use Rattle.component_items.specs.declared.component.Item.{Item}
use Rattle.component_items.specs.declared.component.Item.TheOpen as level
use Rattle.component_items.specs.declared.component.Item.TheOpen.{Item-F}
use Rattle.component_items.specs.declared.component.Item.TheViews.{roll-Item}
use Rattle.component_items.specs.declared.component.Item.TheFolds.{fold-roll-Item, map-Item, ind-Item}
use Rattle.component_items.specs.Counts.{maximum_in}
use Rattle.plain_evaluation.specs.Held.{Holding, nothing, value, stored, arrived, Held, holding_of, is_live, rows_in}
use Rattle.plain_evaluation.specs.Written.{state_of}
use Rattle.plain_evaluation.specs.Begins.{all_begin, store_begins, begins_step, item_begins, Begins}
use Rattle.plain_evaluation.specs.Fits.{keys_differ, rows_fit, all_fit, fits_step, item_fits, store_fits, RowsFit, holding_fits, store_held, Fits}
use Rattle.plain_evaluation.proofs.Places.{and_cases, and_both}

-- ---- where each store fits in one way, it fits in another

module _ (one other : ℕ → ℕ → ℕ → Bool) (more : (id max width : ℕ) → one id max width ≡ true → other id max width ≡ true) where
  abbrev Follows : Item → Type 0
  Follows item = item_fits one item ≡ true → item_fits other item ≡ true

  abbrev Proven : Type 0
  Proven = (item : Item) × Follows item

  abbrev items_of : List Proven → List Item
  items_of known = map (λ p. p.0) known

  abbrev FormFollows : Item-F Item → Type 0
  FormFollows x = fits_step one (map-Item Item Bool (item_fits one) x) ≡ true → fits_step other (map-Item Item Bool (item_fits other) x) ≡ true

  rolled : (x : Item-F Item) → FormFollows x → Follows (roll-Item x)
  unfolding item_fits
  rolled x follows fits = fold-roll-Item Bool (fits_step other) x ∙ follows (sym (fold-roll-Item Bool (fits_step one) x) ∙ fits)

  block : (known : List Proven) → all_fit (map (item_fits one) (items_of known)) ≡ true → all_fit (map (item_fits other) (items_of known)) ≡ true
  block [] fits = refl
  block (p ∷ known) fits =
      let both = and_cases (item_fits one p.0) (all_fit (map (item_fits one) (items_of known))) fits in
      and_both _ _ (p.1 both.0) (block known both.1)

  by_form : (y : Item-F Proven) → FormFollows (map-Item Proven Item (λ p. p.0) y)
  by_form (level.Signal id name start) fits = refl
  by_form (level.Memo id name expr) fits = refl
  by_form (level.Effect id name expr) fits = refl
  by_form (level.Resource id name after keys values) fits = refl
  by_form (level.Load id name resource key) fits = refl
  by_form (level.Store id name max fields starts) fits = more id max (length fields) fits
  by_form (level.Cleanup text) fits = refl
  by_form (level.Area id name owner known) fits = block known fits
  by_form (level.If id cond known) fits = block known fits
  by_form (level.Each id store known) fits = block known fits
  by_form (level.Element tag closed attrs known) fits = block known fits
  by_form (level.Text text) fits = refl
  by_form (level.Shown id expr) fits = refl

  item_follows : (item : Item) → Follows item
  item_follows = ind-Item Follows (λ x y is. subst (λ z. Follows (roll-Item z)) is (rolled (map-Item Proven Item (λ p. p.0) y) (by_form y)))

  pub items_follow : (items : List Item) → list_all (item_fits one) items ≡ true → list_all (item_fits other) items ≡ true
  items_follow [] fits = refl
  items_follow (item ∷ items) fits =
      let both = and_cases (item_fits one item) (list_all (item_fits one) items) fits in
      and_both _ _ (item_follows item both.0) (items_follow items both.1)

none_fit : (max width : ℕ) → rows_fit max width [] ≡ true
none_fit max width = grind arith

holding_rows : (max width : ℕ) (holding : Holding) → holding_fits max width holding ≡ true → rows_fit max width (rows_in holding) ≡ true
holding_rows max width nothing fits = none_fit max width
holding_rows max width (value code) fits = none_fit max width
holding_rows max width (stored store) fits = (and_cases ((store.max == max) && (store.width == width)) (rows_fit max width store.rows) fits).1
holding_rows max width (arrived key) fits = none_fit max width

-- held state that fits has rows that fit
pub rows_of_held : (component : Component) (held : Held) → Fits component held → RowsFit component (state_of held)
rows_of_held component held fits = record {
  stores = items_follow (store_held held) (store_fits (state_of held)) (λ id max width. holding_rows max width (holding_of held id)) component.items fits.stores;
  keys = fits.keys;
  few = fits.few;
}

-- ---- at the start

begun_fits : (max width : ℕ) (holding : Holding) → store_begins max width holding ≡ true → holding_fits max width holding ≡ true
begun_fits max width nothing begins = refl
begun_fits max width (value code) begins = refl
begun_fits max width (stored store) begins =
    let both = and_cases ((store.max == max) && (store.width == width)) (length store.rows == 0) begins in
    and_both _ _ both.0 (at store.rows both.1)
  where
    at : (list : List Row) → (length list == 0) ≡ true → rows_fit max width list ≡ true
    at [] none = none_fit max width
    at (row ∷ list) none = let no : length (row ∷ list) ≡ 0 = eqb-true (length (row ∷ list)) 0 none in absurd (omega arith)
begun_fits max width (arrived key) begins = refl

module _ (held : Held) where
  abbrev BegunFits : Item → Type 0
  BegunFits item = item_begins held item ≡ true → item_fits (store_held held) item ≡ true

  abbrev Begun : Type 0
  Begun = (item : Item) × BegunFits item

  abbrev begun_of : List Begun → List Item
  begun_of known = map (λ p. p.0) known

  begun_rolled : (x : Item-F Item) → (begins_step held (map-Item Item Bool (item_begins held) x) ≡ true → fits_step (store_held held) (map-Item Item Bool (item_fits (store_held held)) x) ≡ true) → BegunFits (roll-Item x)
  unfolding item_begins item_fits
  begun_rolled x follows begins = fold-roll-Item Bool (fits_step (store_held held)) x ∙ follows (sym (fold-roll-Item Bool (begins_step held) x) ∙ begins)

  begun_block : (known : List Begun) → all_begin (map (item_begins held) (begun_of known)) ≡ true → all_fit (map (item_fits (store_held held)) (begun_of known)) ≡ true
  begun_block [] begins = refl
  begun_block (p ∷ known) begins =
      let both = and_cases (item_begins held p.0) (all_begin (map (item_begins held) (begun_of known))) begins in
      and_both _ _ (p.1 both.0) (begun_block known both.1)

  begun_form : (y : Item-F Begun) → begins_step held (map-Item Item Bool (item_begins held) (map-Item Begun Item (λ p. p.0) y)) ≡ true → fits_step (store_held held) (map-Item Item Bool (item_fits (store_held held)) (map-Item Begun Item (λ p. p.0) y)) ≡ true
  begun_form (level.Signal id name start) begins = refl
  begun_form (level.Memo id name expr) begins = refl
  begun_form (level.Effect id name expr) begins = refl
  begun_form (level.Resource id name after keys values) begins = refl
  begun_form (level.Load id name resource key) begins = refl
  begun_form (level.Store id name max fields starts) begins = begun_fits max (length fields) (holding_of held id) begins
  begun_form (level.Cleanup text) begins = refl
  begun_form (level.Area id name owner known) begins = begun_block known (and_cases (is_live held owner) (all_begin (map (item_begins held) (begun_of known))) begins).1
  begun_form (level.If id cond known) begins = begun_block known begins
  begun_form (level.Each id store known) begins = begun_block known begins
  begun_form (level.Element tag closed attrs known) begins = begun_block known begins
  begun_form (level.Text text) begins = refl
  begun_form (level.Shown id expr) begins = refl

  item_begun_fits : (item : Item) → BegunFits item
  item_begun_fits = ind-Item BegunFits (λ x y is. subst (λ z. BegunFits (roll-Item z)) is (begun_rolled (map-Item Begun Item (λ p. p.0) y) (begun_form y)))

  items_begun_fit : (items : List Item) → list_all (item_begins held) items ≡ true → list_all (item_fits (store_held held)) items ≡ true
  items_begun_fit [] begins = refl
  items_begun_fit (item ∷ items) begins =
      let both = and_cases (item_begins held item) (list_all (item_begins held) items) begins in
      and_both _ _ (item_begun_fits item both.0) (items_begun_fit items both.1)

pub begun_state_fits : (component : Component) (held : Held) → Begins component held → Fits component held
begun_state_fits component held begins = record {
  stores = items_begun_fit held component.items begins.items;
  keys = λ id. ap keys_differ (begins.rows id);
  few = λ id. subst (λ (list : List Row). length list ≤ maximum_in component.items id) (sym (begins.rows id)) (omega arith);
}
