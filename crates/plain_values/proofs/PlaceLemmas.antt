-- Values by place, in a map.
use Rattle.std.proofs.Common.{◌≡◌, ℕ, zero, suc, ◌+◌, ◌<◌, ◌==◌, ◌&&◌, cond, if◌then◌else◌, unwrap_or, Bool, true, false, List, [], ◌∷◌, drop, length, slice_get, min, Option, Some, None, Result, Ok, Err, OnOk, refl, ap, ◌∙◌, arith}
use Rattle.std.specs.Option.{option_eq}
use Rattle.std.specs.List.{zip}
use Rattle.values.specs.declared.code.Code.{Code}
use Rattle.values.specs.declared.code.Code.TheVariants.{Empty}
use Rattle.values.specs.contracts.code.CodePartialEq.TheImpl as code
use Rattle.store_fields.proofs.KeyLemmas.{eq_is_same}
use Rattle.store_fields.specs.Edits.{KeyedRows}
use Rattle.plain_evaluation.specs.Held.{Holding, nothing, value, stored, arrived, value_in, rows_in, arrived_in}
use Rattle.plain_evaluation.specs.Changed.{signal_in, store_in, load_in}
use Rattle.plain_evaluation.specs.Place.{same_key, same_place}
use Rattle.plain_values.specs.contracts.place_values.ValuePlacePartialEq.TheImpl.{ghosts}

keys_same : (a b : Option Code) → option_eq code.ghosts.eq a b ≡ same_key a b
keys_same None None = refl
keys_same None (Some b) = refl
keys_same (Some a) None = refl
keys_same (Some a) (Some b) = eq_is_same a b

-- the `==` of places is the test of the definitions
pub eq_is_same_place : ghosts.eq ≡ same_place
eq_is_same_place = λ i p q. (p.id == q.id) && keys_same p.key q.key i

-- what a place has after one was given a value
pub value_found : (same : Bool) (found : Option Code) (code : Code) → unwrap_or (cond same (Some code) found) Empty ≡ (if same then code else unwrap_or found Empty)
value_found true found code = refl
value_found false found code = refl

-- the items of a list from a place on
pub drop_at : {A : Type 0} (list : List A) (place : ℕ) (x : A) → slice_get list place ≡ Some x → drop place list ≡ x ∷ drop (place + 1) list
drop_at [] place x is = cc
drop_at (y ∷ list) zero x is = let same : y ≡ x = cc in λ i. same i ∷ drop (one i) (y ∷ list)
  where
    one : suc zero ≡ zero + 1
    one = omega arith
drop_at (y ∷ list) (suc place) x is = drop_at list place x is ∙ ap (λ (n : ℕ). x ∷ drop n (y ∷ list)) {x = suc (place + 1)} {y = suc place + 1} (omega arith)

-- what a call gave, said in another way
pub ok_then : {A E X : Type 0} (r : Result A E) (a b d : X) → OnOk r (a ≡ b) → b ≡ d → OnOk r (a ≡ d)
ok_then (Ok x) a b d first second = first ∙ second
ok_then (Err e) a b d first second = tt

-- what is held, by what is asked
pub no_rows_held : (holding : Holding) → None ≡ store_in holding → rows_in holding ≡ []
no_rows_held nothing is = refl
no_rows_held (value code) is = refl
no_rows_held (stored store) is = cc
no_rows_held (arrived key) is = refl

pub rows_as_held : (holding : Holding) (store : KeyedRows) → Some store ≡ store_in holding → rows_in holding ≡ store.rows
rows_as_held nothing store is = cc
rows_as_held (value code) store is = cc
rows_as_held (stored other) store is = let same : other ≡ store = cc in ap (λ (s : KeyedRows). s.rows) same
rows_as_held (arrived key) store is = cc

pub value_as_held : (holding : Holding) → unwrap_or (signal_in holding) Empty ≡ value_in holding
value_as_held nothing = refl
value_as_held (value code) = refl
value_as_held (stored store) = refl
value_as_held (arrived key) = refl

pub arrived_as_held : (holding : Holding) → unwrap_or (load_in holding) None ≡ arrived_in holding
arrived_as_held nothing = refl
arrived_as_held (value code) = refl
arrived_as_held (stored store) = refl
arrived_as_held (arrived key) = refl

-- past the shorter of two lists no pair is left
pub zip_none : {A B : Type 0} (xs : List A) (ys : List B) (n : ℕ) → n ≡ min (length xs) (length ys) → zip (drop n xs) (drop n ys) ≡ []
zip_none [] ys zero is = refl
zip_none [] ys (suc n) is = refl
zip_none (x ∷ xs) [] zero is = refl
zip_none (x ∷ xs) [] (suc n) is = absurd (omega arith)
zip_none (x ∷ xs) (y ∷ ys) zero is = absurd (omega arith)
zip_none (x ∷ xs) (y ∷ ys) (suc n) is = zip_none xs ys n (omega arith)

-- past the end of no list
pub drop_some : {A : Type 0} (list : List A) (place : ℕ) → place < length list → (x : A) × (drop place list ≡ x ∷ drop (place + 1) list)
drop_some [] place within = absurd (omega arith)
drop_some (y ∷ list) zero within = (y, (let one : suc zero ≡ zero + 1 = omega arith in λ i. y ∷ drop (one i) (y ∷ list)))
drop_some (y ∷ list) (suc place) within =
    let found = drop_some list place (omega arith) in
    (found.0, found.1 ∙ ap (λ (n : ℕ). found.0 ∷ drop n (y ∷ list)) {x = suc (place + 1)} {y = suc place + 1} (omega arith))
