-- Held state as rows show it is still of its component.
use Rattle.std.proofs.Common.{◌≡◌, ℕ, zero, suc, ◌+◌, ◌≤◌, ◌==◌, ◌&&◌, ◌||◌, not, nat_le, Bool, true, List, [], ◌∷◌, map, length, get_or, set, Option, Some, None, refl, sym, ap, subst, ◌∙◌, arith}
use Rattle.std.specs.Prelude.{IsSome}
use Rattle.std.specs.List.{list_all, list_any}
use Rattle.std.specs.Option.{option_map_or}
use Rattle.std.proofs.lemmas.List.{length-map, set-get_or}
use Rattle.values.specs.declared.code.Code.{Code}
use Rattle.values.specs.Evaluation.{is_same}
use Rattle.store_fields.specs.declared.row.Row.{Row}
use Rattle.store_fields.specs.Edits.{KeyedRows, with_rows}
use Rattle.component_items.specs.declared.component.Component.{Component}
use Rattle.component_items.specs.Counts.{maximum_in}
use Rattle.plain_evaluation.specs.Changed.{signal_in, store_in, most_in, with_holding}
use Rattle.plain_evaluation.specs.Fits.{keys_differ, rows_fit, holding_fits, store_held}
use Rattle.plain_evaluation.specs.Held.{Holding, nothing, value, stored, arrived, Held, holding_of, rows_in}
use Rattle.plain_evaluation.specs.Place.{Place, outside}
use Rattle.plain_evaluation.proofs.Fitting.{items_follow}
use Rattle.plan_meaning.specs.Layout.{row_of}
use Rattle.held_state.specs.Holds.{form_of}
use Rattle.held_state.specs.State.{HeldState, IsOf, with_held}
use Rattle.held_state.proofs.Holds.{alike_holds}
use Rattle.held_rows.specs.Shown.{fields_shown, row_shown, holding_shown, holdings_shown, held_shown}
use Rattle.held_rows.proofs.Upto.{upto, whole, upto_all}

module _ (places : List Place) (values : ℕ → Code) where
  -- ---- rows

  pub fields_long : (id : ℕ) (key : Code) (codes : List Code) → length (fields_shown places values id key codes) ≡ length codes
  fields_long id key [] = refl
  fields_long id key (code ∷ codes) = ap suc (fields_long (suc id) key codes)

  wide_same : (id width : ℕ) (rows : List Row) → list_all (λ row. length row.fields == width) (map (row_shown places values id) rows) ≡ list_all (λ row. length row.fields == width) rows
  wide_same id width [] = refl
  wide_same id width (row ∷ rows) = λ i. (fields_long (2 + id) row.key row.fields i == width) && wide_same id width rows i

  fit_same : (id max width : ℕ) (rows : List Row) → rows_fit max width (map (row_shown places values id) rows) ≡ rows_fit max width rows
  fit_same id max width rows = λ i. wide_same id width rows i && nat_le (length-map rows (row_shown places values id) i) max

  any_same : (id : ℕ) (key : Code) (rows : List Row) → list_any (λ (other : Row). is_same key other.key) (map (row_shown places values id) rows) ≡ list_any (λ (other : Row). is_same key other.key) rows
  any_same id key [] = refl
  any_same id key (row ∷ rows) = ap (λ (b : Bool). is_same key row.key || b) (any_same id key rows)

  differ_same : (id : ℕ) (rows : List Row) → keys_differ (map (row_shown places values id) rows) ≡ keys_differ rows
  differ_same id [] = refl
  differ_same id (row ∷ rows) = λ i. not (any_same id row.key rows i) && differ_same id rows i

  -- ---- holdings

  pub shown_here : (hs : List Holding) (first n : ℕ) → get_or (holdings_shown places values first hs) n nothing ≡ holding_shown places values (first + n) (get_or hs n nothing)
  shown_here [] first n = refl
  shown_here (h ∷ hs) first zero = let e : first ≡ first + 0 = omega arith in ap (λ (k : ℕ). holding_shown places values k h) e
  shown_here (h ∷ hs) first (suc n) = let e : suc first + n ≡ first + suc n = omega arith in shown_here hs (suc first) n ∙ ap (λ (k : ℕ). holding_shown places values k (get_or hs n nothing)) e

  pub holding_here : (held : Held) (id : ℕ) → holding_of (held_shown places values held) id ≡ holding_shown places values id (holding_of held id)
  holding_here held id = let e : 0 + id ≡ id = omega arith in shown_here held.holdings 0 id ∙ ap (λ (k : ℕ). holding_shown places values k (holding_of held id)) e

  shown_long : (hs : List Holding) (first : ℕ) → length (holdings_shown places values first hs) ≡ length hs
  shown_long [] first = refl
  shown_long (h ∷ hs) first = ap suc (shown_long hs (suc first))

  holdings_whole : (hs : List Holding) (first : ℕ) → whole (holding_shown places values) first hs ≡ holdings_shown places values first hs
  holdings_whole [] first = refl
  holdings_whole (h ∷ hs) first = ap (λ more. holding_shown places values first h ∷ more) (holdings_whole hs (suc first))

  -- held state with all holdings gone through
  pub all_shown : (held : Held) → ◌≡◌ {A = Held} (record held { holdings = upto (holding_shown places values) 0 (length held.holdings) held.holdings }) (held_shown places values held)
  all_shown held = ap (λ (hs : List Holding). record held { holdings = hs }) (upto_all (holding_shown places values) 0 held.holdings ∙ holdings_whole held.holdings 0)

  fits_shown : (id max width : ℕ) (h : Holding) → holding_fits max width h ≡ true → holding_fits max width (holding_shown places values id h) ≡ true
  fits_shown id max width nothing fit = refl
  fits_shown id max width (value code) fit = refl
  fits_shown id max width (stored store) fit = ap (λ (b : Bool). (store.max == max) && (store.width == width) && b) (fit_same id max width store.rows) ∙ fit
  fits_shown id max width (arrived key) fit = refl

  keys_shown : (id : ℕ) (h : Holding) → keys_differ (rows_in (holding_shown places values id h)) ≡ keys_differ (rows_in h)
  keys_shown id nothing = refl
  keys_shown id (value code) = refl
  keys_shown id (stored store) = differ_same id store.rows
  keys_shown id (arrived key) = refl

  few_shown : (id : ℕ) (h : Holding) → length (rows_in (holding_shown places values id h)) ≡ length (rows_in h)
  few_shown id nothing = refl
  few_shown id (value code) = refl
  few_shown id (stored store) = length-map store.rows (row_shown places values id)
  few_shown id (arrived key) = refl

  most_shown : (id : ℕ) (h : Holding) → most_in (holding_shown places values id h) ≡ most_in h
  most_shown id nothing = refl
  most_shown id (value code) = refl
  most_shown id (stored store) = refl
  most_shown id (arrived key) = refl

  form_shown : (id : ℕ) (h : Holding) → form_of (holding_shown places values id h) ≡ form_of h
  form_shown id nothing = refl
  form_shown id (value code) = refl
  form_shown id (stored store) = refl
  form_shown id (arrived key) = refl

  pub shown_is_of : (component : Component) (state : HeldState) → IsOf component state → IsOf component (with_held state (held_shown places values state.held))
  shown_is_of component state is = record {
    goings = is.goings;
    fits = record {
      stores = items_follow (store_held state.held) (store_held (held_shown places values state.held)) (λ id max width fit. ap (holding_fits max width) (holding_here state.held id) ∙ fits_shown id max width (holding_of state.held id) fit) component.items is.fits.stores;
      keys = λ id. ap (λ (h : Holding). keys_differ (rows_in h)) (holding_here state.held id) ∙ keys_shown id (holding_of state.held id) ∙ is.fits.keys id;
      few = λ id. subst (λ (n : ℕ). n ≤ maximum_in component.items id) (sym (ap (λ (h : Holding). length (rows_in h)) (holding_here state.held id) ∙ few_shown id (holding_of state.held id))) (is.fits.few id);
    };
    stores = record { most = λ id. subst (λ (n : ℕ). n ≤ maximum_in component.items id) (sym (ap most_in (holding_here state.held id) ∙ most_shown id (holding_of state.held id))) (is.stores.most id) };
    owners = record { areas = is.owners.areas };
    holds = alike_holds component state.held (held_shown places values state.held) (shown_long state.held.holdings 0) refl (λ id. ap form_of (holding_here state.held id) ∙ form_shown id (holding_of state.held id)) is.holds;
  }

  -- ---- what one id's writing leaves

  stays : (state : HeldState) (id : ℕ) → holding_shown places values id (holding_of state.held id) ≡ holding_of state.held id → state ≡ with_held state (with_holding state.held id (holding_shown places values id (holding_of state.held id)))
  stays state id same = λ i. with_held state (record state.held { holdings = (sym (set-get_or state.held.holdings id nothing) ∙ ap (λ (h : Holding). set state.held.holdings id h) (sym same)) i })

  pub signal_stays : (state : HeldState) (id : ℕ) → IsSome (signal_in (holding_of state.held id)) → row_of places (outside id) ≡ None → state ≡ with_held state (with_holding state.held id (holding_shown places values id (holding_of state.held id)))
  signal_stays state id some none = stays state id (at (holding_of state.held id) some)
    where
      at : (h : Holding) → IsSome (signal_in h) → holding_shown places values id h ≡ h
      at nothing s = cc
      at (value code) s = ap value (ap (λ (o : Option ℕ). option_map_or values o code) none)
      at (stored store) s = cc
      at (arrived key) s = cc

  pub signal_shown : (state : HeldState) (id n : ℕ) → IsSome (signal_in (holding_of state.held id)) → row_of places (outside id) ≡ Some n → with_held state (with_holding state.held id (value (values n))) ≡ with_held state (with_holding state.held id (holding_shown places values id (holding_of state.held id)))
  signal_shown state id n some found = ap (λ (h : Holding). with_held state (with_holding state.held id h)) (at (holding_of state.held id) some)
    where
      at : (h : Holding) → IsSome (signal_in h) → value (values n) ≡ holding_shown places values id h
      at nothing s = cc
      at (value code) s = ap value (sym (ap (λ (o : Option ℕ). option_map_or values o code) found))
      at (stored store) s = cc
      at (arrived key) s = cc

  pub store_shown : (state : HeldState) (id : ℕ) (store : KeyedRows) → store_in (holding_of state.held id) ≡ Some store → with_held state (with_holding state.held id (stored (with_rows store (map (row_shown places values id) store.rows)))) ≡ with_held state (with_holding state.held id (holding_shown places values id (holding_of state.held id)))
  store_shown state id store is = ap (λ (h : Holding). with_held state (with_holding state.held id h)) (at (holding_of state.held id) is)
    where
      at : (h : Holding) → store_in h ≡ Some store → stored (with_rows store (map (row_shown places values id) store.rows)) ≡ holding_shown places values id h
      at nothing s = cc
      at (value code) s = cc
      at (stored other) s = let e : store ≡ other = cc in ap (λ (x : KeyedRows). stored (with_rows x (map (row_shown places values id) x.rows))) e
      at (arrived key) s = cc

  pub other_stays : (state : HeldState) (id : ℕ) → signal_in (holding_of state.held id) ≡ None → store_in (holding_of state.held id) ≡ None → state ≡ with_held state (with_holding state.held id (holding_shown places values id (holding_of state.held id)))
  other_stays state id no_signal no_store = stays state id (at (holding_of state.held id) no_signal no_store)
    where
      at : (h : Holding) → signal_in h ≡ None → store_in h ≡ None → holding_shown places values id h ≡ h
      at nothing s t = refl
      at (value code) s t = cc
      at (stored store) s t = cc
      at (arrived key) s t = refl
