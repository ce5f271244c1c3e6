-- What a disposal leaves.
use Rattle.std.proofs.Common.{◌≡◌, ℕ, zero, suc, ◌≤◌, ◌⊎◌, inl, inr, true, List, [], ◌∷◌, length, get_or, set, refl, sym, ap, subst, ◌∙◌, arith}
use Rattle.component_items.specs.declared.component.Component.{Component}
use Rattle.component_items.specs.Counts.{maximum_in}
use Rattle.plain_evaluation.specs.Held.{Holding, nothing, Held, holding_of, rows_in, rows_held}
use Rattle.plain_evaluation.specs.Fits.{keys_differ, holding_fits, store_held, Fits}
use Rattle.plain_evaluation.specs.Killed.{Going, with_each, without}
use Rattle.plain_evaluation.proofs.Fitting.{items_follow}

-- a place has what it had, or what was put
pub set_cases : {A : Type 0} (list : List A) (place : ℕ) (new : A) (id : ℕ) (none : A) → (get_or (set list place new) id none ≡ get_or list id none) ⊎ (get_or (set list place new) id none ≡ new)
set_cases [] place new id none = inl refl
set_cases (x ∷ list) zero new zero none = inr refl
set_cases (x ∷ list) zero new (suc id) none = inl refl
set_cases (x ∷ list) (suc place) new zero none = inl refl
set_cases (x ∷ list) (suc place) new (suc id) none = set_cases list place new id none

each_cases : {A : Type 0} (new : A) (places : List ℕ) (list : List A) (id : ℕ) (none : A) → (get_or (with_each new places list) id none ≡ get_or list id none) ⊎ (get_or (with_each new places list) id none ≡ new)
each_cases new [] list id none = inl refl
each_cases {A} new (place ∷ places) list id none = at (each_cases new places (set list place new) id none)
  where
    at : (get_or (with_each new places (set list place new)) id none ≡ get_or (set list place new) id none) ⊎ (get_or (with_each new places (set list place new)) id none ≡ new) → (get_or (with_each new places (set list place new)) id none ≡ get_or list id none) ⊎ (get_or (with_each new places (set list place new)) id none ≡ new)
    at (inl same) = then (set_cases list place new id none)
      where
        then : (get_or (set list place new) id none ≡ get_or list id none) ⊎ (get_or (set list place new) id none ≡ new) → (get_or (with_each new places (set list place new)) id none ≡ get_or list id none) ⊎ (get_or (with_each new places (set list place new)) id none ≡ new)
        then (inl before) = inl (same ∙ before)
        then (inr put) = inr (same ∙ put)
    at (inr put) = inr put

-- an id holds what it held, or nothing
pub left : (going : Going) (held : Held) (id : ℕ) → (holding_of (without going held) id ≡ holding_of held id) ⊎ (holding_of (without going held) id ≡ nothing)
left going held id = each_cases nothing going.ids held.holdings id nothing

-- what fitted goes on to fit
pub without_fits : (component : Component) (held : Held) (going : Going) → Fits component held → Fits component (without going held)
without_fits component held going fits = record {
  stores = items_follow (store_held held) (store_held (without going held)) (λ id max width fit. store_of id max width fit (left going held id)) component.items fits.stores;
  keys = λ id. keys_of id (left going held id);
  few = λ id. few_of id (left going held id);
}
  where
    store_of : (id max width : ℕ) → store_held held id max width ≡ true → (holding_of (without going held) id ≡ holding_of held id) ⊎ (holding_of (without going held) id ≡ nothing) → store_held (without going held) id max width ≡ true
    store_of id max width fit (inl same) = ap (holding_fits max width) same ∙ fit
    store_of id max width fit (inr none) = ap (holding_fits max width) none

    keys_of : (id : ℕ) → (holding_of (without going held) id ≡ holding_of held id) ⊎ (holding_of (without going held) id ≡ nothing) → keys_differ (rows_held (without going held) id) ≡ true
    keys_of id (inl same) = ap (λ (holding : Holding). keys_differ (rows_in holding)) same ∙ fits.keys id
    keys_of id (inr none) = ap (λ (holding : Holding). keys_differ (rows_in holding)) none

    few_of : (id : ℕ) → (holding_of (without going held) id ≡ holding_of held id) ⊎ (holding_of (without going held) id ≡ nothing) → length (rows_held (without going held) id) ≤ maximum_in component.items id
    few_of id (inl same) = subst (λ (holding : Holding). length (rows_in holding) ≤ maximum_in component.items id) (sym same) (fits.few id)
    few_of id (inr none) = subst (λ (holding : Holding). length (rows_in holding) ≤ maximum_in component.items id) (sym none) (omega arith)
