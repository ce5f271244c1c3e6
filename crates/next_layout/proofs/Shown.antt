-- What is shown of held state: id by id, twice, and in the layout.
use Rattle.std.proofs.Common.{◌≡◌, ℕ, zero, suc, ◌+◌, List, [], ◌∷◌, map, length, Option, Some, None, slice_get, slice_index_or, refl, sym, ap, subst, ◌∙◌, arith}
use Rattle.std.specs.Option.{option_map_or}
use Rattle.values.specs.declared.code.Code.{Code}
use Rattle.store_fields.specs.declared.row.Row.{Row}
use Rattle.store_fields.specs.Edits.{with_rows}
use Rattle.component_items.specs.declared.component.Component.{Component}
use Rattle.plain_evaluation.specs.Held.{Holding, nothing, value, stored, arrived, Held, holding_of, rows_in, arrived_in, rows_held, arrived_held, value_held}
use Rattle.plain_evaluation.specs.Place.{Place, place_at}
use Rattle.plain_evaluation.specs.Written.{State, state_of, loaded, Written, place_of, written, written_in}
use Rattle.plan_meaning.specs.Layout.{rows_of, row_of, places_of, plan_of}
use Rattle.held_rows.specs.Shown.{shown_at, fields_shown, row_shown, holding_shown, holdings_shown, held_shown}
use Rattle.next_layout.proofs.Alike as alike
use Rattle.next_layout.proofs.Alike.{RowsAlike}

module _ (places : List Place) (values : ℕ → Code) where
  -- ---- twice

  code_twice : (id : ℕ) (key : Option Code) (code : Code) → shown_at places values id key (shown_at places values id key code) ≡ shown_at places values id key code
  code_twice id key code = at (row_of places (place_at id key))
    where
      at : (o : Option ℕ) → option_map_or values o (option_map_or values o code) ≡ option_map_or values o code
      at None = refl
      at (Some n) = refl

  fields_twice : (id : ℕ) (key : Code) (codes : List Code) → fields_shown places values id key (fields_shown places values id key codes) ≡ fields_shown places values id key codes
  fields_twice id key [] = refl
  fields_twice id key (code ∷ codes) = λ i. code_twice id (Some key) code i ∷ fields_twice (suc id) key codes i

  rows_twice : (store : ℕ) (rows : List Row) → map (row_shown places values store) (map (row_shown places values store) rows) ≡ map (row_shown places values store) rows
  rows_twice store [] = refl
  rows_twice store (row ∷ rows) = λ i. record row { fields = fields_twice (2 + store) row.key row.fields i } ∷ rows_twice store rows i

  holding_twice : (id : ℕ) (holding : Holding) → holding_shown places values id (holding_shown places values id holding) ≡ holding_shown places values id holding
  holding_twice id nothing = refl
  holding_twice id (value code) = ap value (code_twice id None code)
  holding_twice id (stored store) = ap (λ (rows : List Row). stored (with_rows store rows)) (rows_twice id store.rows)
  holding_twice id (arrived key) = refl

  holdings_twice : (id : ℕ) (holdings : List Holding) → holdings_shown places values id (holdings_shown places values id holdings) ≡ holdings_shown places values id holdings
  holdings_twice id [] = refl
  holdings_twice id (holding ∷ holdings) = λ i. holding_twice id holding i ∷ holdings_twice (suc id) holdings i

  -- what is shown of it shows itself
  pub shown_twice : (held : Held) → held_shown places values (held_shown places values held) ≡ held_shown places values held
  shown_twice held = ap (λ (holdings : List Holding). record held { holdings = holdings }) (holdings_twice 0 held.holdings)

  -- ---- id by id

  shown_at_id : (holdings : List Holding) (k i : ℕ) → slice_index_or (holdings_shown places values k holdings) i nothing ≡ holding_shown places values (k + i) (slice_index_or holdings i nothing)
  shown_at_id [] k i = refl
  shown_at_id (h ∷ hs) k zero = let e : k ≡ k + 0 = omega arith in ap (λ (n : ℕ). holding_shown places values n h) e
  shown_at_id (h ∷ hs) k (suc i) = let e : suc k + i ≡ k + suc i = omega arith in shown_at_id hs (suc k) i ∙ ap (λ (n : ℕ). holding_shown places values n (slice_index_or hs i nothing)) e

  pub holding_is : (held : Held) (id : ℕ) → holding_of (held_shown places values held) id ≡ holding_shown places values id (holding_of held id)
  holding_is held id = let e : 0 + id ≡ id = omega arith in shown_at_id held.holdings 0 id ∙ ap (λ (n : ℕ). holding_shown places values n (holding_of held id)) e

  -- ---- the layout

  fields_long : (id : ℕ) (key : Code) (codes : List Code) → length codes ≡ length (fields_shown places values id key codes)
  fields_long id key [] = refl
  fields_long id key (code ∷ codes) = ap suc (fields_long (suc id) key codes)

  rows_alike : (store : ℕ) (rows : List Row) → RowsAlike rows (map (row_shown places values store) rows)
  rows_alike store [] = tt
  rows_alike store (row ∷ rows) = (refl, fields_long (2 + store) row.key row.fields, rows_alike store rows)

  holding_alike : (id : ℕ) (holding : Holding) → RowsAlike (rows_in holding) (rows_in (holding_shown places values id holding))
  holding_alike id nothing = tt
  holding_alike id (value code) = tt
  holding_alike id (stored store) = rows_alike id store.rows
  holding_alike id (arrived key) = tt

  held_alike : (held : Held) (id : ℕ) → RowsAlike (rows_held held id) (rows_held (held_shown places values held) id)
  held_alike held id = subst (λ (holding : Holding). RowsAlike (rows_held held id) (rows_in holding)) (sym (holding_is held id)) (holding_alike id (holding_of held id))

  same_key : (id : ℕ) (holding : Holding) → arrived_in (holding_shown places values id holding) ≡ arrived_in holding
  same_key id nothing = refl
  same_key id (value code) = refl
  same_key id (stored store) = refl
  same_key id (arrived key) = refl

  pub same_arrived : (held : Held) (id : ℕ) → arrived_held (held_shown places values held) id ≡ arrived_held held id
  same_arrived held id = ap arrived_in (holding_is held id) ∙ same_key id (holding_of held id)

  -- the state is another in values and fields alone
  state_is : (held : Held) → ◌≡◌ {A = State} (state_of (held_shown places values held)) (record (state_of held) { value = λ p. value_held (held_shown places values held) p.id; rows = rows_held (held_shown places values held) })
  state_is held = λ i. record {
    value = λ p. value_held (held_shown places values held) p.id;
    rows = rows_held (held_shown places values held);
    arrived = λ id. same_arrived held id i;
    live = (state_of held).live;
  }

  pub same_places : (component : Component) (held : Held) → places_of (written component (held_shown places values held)) ≡ places_of (written component held)
  same_places component held =
      ap (λ (s : State). places_of (written_in component s)) (state_is held)
      ∙ alike.places_stay component (state_of held) (λ p. value_held (held_shown places values held) p.id) (rows_held (held_shown places values held)) (held_alike held)

  pub same_plan : (component : Component) (held : Held) → plan_of component (state_of (held_shown places values held)) ≡ plan_of component (state_of held)
  same_plan component held =
      ap (plan_of component) (state_is held)
      ∙ alike.plan_stays component (state_of held) (λ p. value_held (held_shown places values held) p.id) (rows_held (held_shown places values held)) (held_alike held)

  -- and says of each load what it said
  pub same_loads : (component : Component) (held : Held) (n : ℕ) (w : Written) (pairs : List (Code × Code)) (key : Option Code) → slice_get (rows_of (written component (held_shown places values held))) n ≡ Some w → w.says ≡ loaded pairs key
      → (v : Written) × (slice_get (rows_of (written component held)) n ≡ Some v) × (place_of v ≡ place_of w) × (v.says ≡ w.says)
  same_loads component held n w pairs key at says =
      alike.loads_stay component (state_of held) (λ p. value_held (held_shown places values held) p.id) (rows_held (held_shown places values held)) (held_alike held) n w pairs key
      (ap (λ (s : State). slice_get (rows_of (written_in component s)) n) (sym (state_is held)) ∙ at) says
