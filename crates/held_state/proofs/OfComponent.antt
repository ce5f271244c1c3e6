-- State that is of a component.
use Rattle.std.proofs.Common.{◌≡◌, ℕ, zero, suc, ◌+◌, ◌<◌, ◌≤◌, ◌⊎◌, inl, inr, ◌==◌, Bool, true, false, List, [], ◌∷◌, ◌++◌, Option, Some, length, get_or, refl, sym, ap, ◌∙◌, arith}
use Rattle.std.specs.Prelude.{IsSome}
use Rattle.std.specs.List.{range_with_len}
use Rattle.std.proofs.Math.ListN.{get_or-eq_default}
use Rattle.std.proofs.lemmas.List.{get_or-map, length-map}
use Rattle.std.proofs.lemmas.List.FromFn.{get_or-range_with_len}
use Rattle.values.specs.declared.code.Code.{Code}
use Rattle.store_fields.specs.Edits.{KeyedRows}
use Rattle.component_items.specs.declared.component.Component.{Component}
use Rattle.component_items.specs.Ids.{owners_in}
use Rattle.component_items.specs.Kept.{IsKept}
use Rattle.plain_evaluation.specs.Held.{Holding, nothing, value, stored, arrived, holding_of, first_held}
use Rattle.plain_evaluation.specs.Changed.{signal_in, store_in, load_in, signal_of, store_of, load_of, with_holding, with_code, with_arrived, with_store}
use Rattle.plain_evaluation.specs.Fits.{keys_differ, rows_fit}
use Rattle.plain_evaluation.specs.Killed.{Going, none_going, going_if, ids_going, owners_going, going_with, without, killed}
use Rattle.plain_evaluation.proofs.Begins.{first_begins}
use Rattle.plain_evaluation.proofs.Fitting.{begun_state_fits}
use Rattle.plain_evaluation.proofs.Goings.{has_number, numbered_bounds, items_go}
use Rattle.plain_evaluation.proofs.KilledLemmas.{without_fits}
use Rattle.plain_evaluation.proofs.Nesting.{begun_owners_fit, killed_owners_fit}
use Rattle.plain_evaluation.proofs.Most.{MayStand, first_stores_fit, without_stores_fit, changed_fits, changed_stores_fit, code_may_stand, key_may_stand, rows_may_stand}
use Rattle.held_state.specs.Holds.{form_of, signal_form, store_form, load_form}
use Rattle.held_state.specs.State.{HeldState, goings_of, going_at, first_state, with_held, IsOf}
use Rattle.held_state.proofs.Holds.{first_holds, killed_holds, changed_holds}

pub first_is_of : (component : Component) → IsKept component → IsOf component (first_state component)
first_is_of component kept = record {
  goings = refl;
  fits = begun_state_fits component (first_held component) (first_begins component kept);
  stores = first_stores_fit component kept;
  owners = begun_owners_fit component (first_held component) (first_begins component kept);
  holds = first_holds component kept;
}

-- ---- what goes with each owner, by its number

before_or_behind : (k n : ℕ) → (k < n) ⊎ (n ≤ k)
before_or_behind k zero = inr (omega arith)
before_or_behind zero (suc n) = inl (omega arith)
before_or_behind (suc k) (suc n) = at (before_or_behind k n)
  where
    at : (k < n) ⊎ (n ≤ k) → (suc k < suc n) ⊎ (suc n ≤ suc k)
    at (inl lt) = inl (omega arith)
    at (inr le) = inr (omega arith)

pub going_by_number : (component : Component) (owner : ℕ) → IsKept component → going_at (goings_of component) owner ≡ going_with component owner
going_by_number component owner kept = at (before_or_behind owner (length (0 ∷ owners_in component.items)))
  where
    numbered : 0 ∷ owners_in component.items ≡ range_with_len 0 (length (0 ∷ owners_in component.items))
    numbered = ap (λ (more : List ℕ). 0 ∷ more) kept.numbered.owners

    here : owner < length (0 ∷ owners_in component.items) → get_or (0 ∷ owners_in component.items) owner 0 ≡ owner
    here within = ap (λ (numbers : List ℕ). get_or numbers owner 0) numbered ∙ get_or-range_with_len 0 (length (0 ∷ owners_in component.items)) owner 0 within ∙ (let same : 0 + owner ≡ owner = omega arith in same)

    not_top : length (0 ∷ owners_in component.items) ≤ owner → (owner == 0) ≡ false
    not_top past = go (owner == 0) refl
      where
        go : (b : Bool) → (owner == 0) ≡ b → b ≡ false
        go true is = let e : owner ≡ 0 = grind arith in absurd (omega arith)
        go false is = refl

    no_area : length (0 ∷ owners_in component.items) ≤ owner → has_number (owners_in component.items) owner ≡ false
    no_area past = go (has_number (owners_in component.items) owner) refl
      where
        go : (b : Bool) → has_number (owners_in component.items) owner ≡ b → b ≡ false
        go true is = let bounds = numbered_bounds 1 (owners_in component.items) owner kept.numbered.owners is in absurd (omega arith)
        go false is = refl

    nothing_goes : length (0 ∷ owners_in component.items) ≤ owner → ◌≡◌ {A = Going} none_going (going_with component owner)
    nothing_goes past = λ i. record {
      ids = sym (ap (ids_going owner component.items) (not_top past) ∙ (items_go owner component.items).no_ids (no_area past)) i;
      owners = sym (ap (λ (b : Bool). going_if b (0 ∷ []) ++ owners_going owner component.items b) (not_top past) ∙ (items_go owner component.items).no_owners (no_area past)) i;
    }

    at : (owner < length (0 ∷ owners_in component.items)) ⊎ (length (0 ∷ owners_in component.items) ≤ owner) → going_at (goings_of component) owner ≡ going_with component owner
    at (inl within) = get_or-map (going_with component) (0 ∷ owners_in component.items) owner 0 none_going within ∙ ap (going_with component) (here within)
    at (inr past) = get_or-eq_default (goings_of component) none_going long ∙ nothing_goes past
      where
        long : length (goings_of component) ≤ owner
        long = let count = length-map (0 ∷ owners_in component.items) (going_with component) in omega arith

pub goes_by_text : (component : Component) (state : HeldState) (owner : ℕ) → IsKept component → IsOf component state → without (going_at state.goings owner) state.held ≡ killed component owner state.held
goes_by_text component state owner kept is = ap (λ (going : Going). without going state.held) (ap (λ (goings : List Going). going_at goings owner) is.goings ∙ going_by_number component owner kept)

pub killed_is_of : (component : Component) (state : HeldState) (owner : ℕ) → IsKept component → IsOf component state → IsOf component (with_held state (killed component owner state.held))
killed_is_of component state owner kept is = record {
  goings = is.goings;
  fits = without_fits component state.held (going_with component owner) is.fits;
  stores = without_stores_fit component state.held (going_with component owner) is.stores;
  owners = killed_owners_fit component state.held owner kept is.owners;
  holds = killed_holds component state.held owner kept is.holds;
}

-- ---- changes

pub changed_is_of : (component : Component) (state : HeldState) (id : ℕ) (holding : Holding) → MayStand component state.held id holding → form_of holding ≡ form_of (holding_of state.held id) → IsOf component state → IsOf component (with_held state (with_holding state.held id holding))
changed_is_of component state id holding may same is = record {
  goings = is.goings;
  fits = changed_fits component state.held id holding may is.fits;
  stores = changed_stores_fit component state.held id holding may is.stores;
  owners = record { areas = is.owners.areas };
  holds = changed_holds component state.held id holding same is.holds;
}

-- ---- forms

pub signal_form_of : (holding : Holding) → IsSome (signal_in holding) → form_of holding ≡ signal_form
signal_form_of nothing some = cc
signal_form_of (value code) some = refl
signal_form_of (stored store) some = cc
signal_form_of (arrived key) some = cc

pub load_form_of : (holding : Holding) → IsSome (load_in holding) → form_of holding ≡ load_form
load_form_of nothing some = cc
load_form_of (value code) some = cc
load_form_of (stored store) some = cc
load_form_of (arrived key) some = refl

pub store_form_of : (holding : Holding) (before : KeyedRows) → store_in holding ≡ Some before → form_of holding ≡ store_form
store_form_of nothing before was = cc
store_form_of (value code) before was = cc
store_form_of (stored store) before was = refl
store_form_of (arrived key) before was = cc

pub code_is_of : (component : Component) (state : HeldState) (id : ℕ) (code : Code) → IsSome (signal_of state.held id) → IsOf component state → IsOf component (with_held state (with_code state.held id code))
code_is_of component state id code some is = changed_is_of component state id (value code) (code_may_stand component state.held id code) (sym (signal_form_of (holding_of state.held id) some)) is

pub key_is_of : (component : Component) (state : HeldState) (id : ℕ) (key : Option Code) → IsSome (load_of state.held id) → IsOf component state → IsOf component (with_held state (with_arrived state.held id key))
key_is_of component state id key some is = changed_is_of component state id (arrived key) (key_may_stand component state.held id key) (sym (load_form_of (holding_of state.held id) some)) is

pub rows_are_of : (component : Component) (state : HeldState) (id : ℕ) (before store : KeyedRows) → IsOf component state → store_of state.held id ≡ Some before → store.max ≡ before.max → store.width ≡ before.width → rows_fit before.max before.width store.rows ≡ true → keys_differ store.rows ≡ true → IsOf component (with_held state (with_store state.held id store))
rows_are_of component state id before store is was max_same width_same rows differ = changed_is_of component state id (stored store) (rows_may_stand component state.held id before store is.stores was max_same width_same rows differ) (sym (store_form_of (holding_of state.held id) before was)) is
