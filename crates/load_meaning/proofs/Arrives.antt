-- Held state with other keys arrived: what stays, and how one arrival changes it.
use Rattle.std.proofs.Common.{◌≡◌, ℕ, zero, suc, ◌+◌, inl, inr, ◌⊎◌, Bool, false, List, [], ◌∷◌, Option, length, get_or, refl, sym, ap, ◌∙◌, arith, length-set}
use Rattle.std.specs.Prelude.{slice_index_or}
use Rattle.values.specs.declared.code.Code.{Code}
use Rattle.plain_evaluation.specs.Changed.{with_arrived}
use Rattle.plain_evaluation.specs.Held.{Holding, nothing, value, stored, arrived, Held, holding_of, is_live, value_in, rows_in, arrived_in, value_held, rows_held, arrived_held}
use Rattle.plain_evaluation.specs.Written.{State, state_of}
use Rattle.plain_evaluation.proofs.Most.{changed}
use Rattle.run_meaning.specs.Run.{holding_arrived, holdings_arrived, held_arrived}

-- all is as it was, but for keys that have arrived
pub record Arrives (held later : Held) : Type 0 where
  pub live : later.live ≡ held.live
  pub long : length later.holdings ≡ length held.holdings
  pub each : (id : ℕ) → holding_of later id ≡ holding_arrived (arrived_held later id) (holding_of held id)

-- ---- one holding

itself : (holding : Holding) → holding ≡ holding_arrived (arrived_in holding) holding
itself nothing = refl
itself (value code) = refl
itself (stored store) = refl
itself (arrived key) = refl

-- the last key stands
pub twice : (first last : Option Code) (holding : Holding) → holding_arrived last (holding_arrived first holding) ≡ holding_arrived last holding
twice first last nothing = refl
twice first last (value code) = refl
twice first last (stored store) = refl
twice first last (arrived key) = refl

told_back : (key : Option Code) (holding : Holding) → holding_arrived key holding ≡ holding_arrived (arrived_in (holding_arrived key holding)) holding
told_back key nothing = refl
told_back key (value code) = refl
told_back key (stored store) = refl
told_back key (arrived before) = refl

same_value : (key : Option Code) (holding : Holding) → value_in (holding_arrived key holding) ≡ value_in holding
same_value key nothing = refl
same_value key (value code) = refl
same_value key (stored store) = refl
same_value key (arrived before) = refl

same_rows : (key : Option Code) (holding : Holding) → rows_in (holding_arrived key holding) ≡ rows_in holding
same_rows key nothing = refl
same_rows key (value code) = refl
same_rows key (stored store) = refl
same_rows key (arrived before) = refl

-- ---- all of them

pub arrives_itself : (held : Held) → Arrives held held
arrives_itself held = record { live = refl; long = refl; each = λ id. itself (holding_of held id) }

pub arrives_on : (held next last : Held) → Arrives held next → Arrives next last → Arrives held last
arrives_on held next last first second = record {
  live = second.live ∙ first.live;
  long = second.long ∙ first.long;
  each = λ id. second.each id ∙ ap (holding_arrived (arrived_held last id)) (first.each id) ∙ twice (arrived_held next id) (arrived_held last id) (holding_of held id);
}

-- one load, where the state has a key for it or that none has arrived
pub arrives_one : (held later : Held) (id : ℕ) (before key : Option Code) → holding_of held id ≡ arrived before → Arrives held later → Arrives held (with_arrived later id key)
arrives_one held later id before key was arrives = record {
  live = arrives.live;
  long = length-set later.holdings id (arrived key) ∙ arrives.long;
  each = λ other. at other (changed later id (arrived key) other);
}
  where
    at : (other : ℕ) → (holding_of (with_arrived later id key) other ≡ holding_of later other) ⊎ ((other ≡ id) × (holding_of (with_arrived later id key) other ≡ arrived key)) → holding_of (with_arrived later id key) other ≡ holding_arrived (arrived_held (with_arrived later id key) other) (holding_of held other)
    at other (inl same) = same ∙ arrives.each other ∙ ap (λ (h : Holding). holding_arrived (arrived_in h) (holding_of held other)) (sym same)
    at other (inr both) =
        both.1
        ∙ ap (holding_arrived key) (sym was ∙ ap (holding_of held) (sym both.0))
        ∙ ap (λ (h : Holding). holding_arrived (arrived_in h) (holding_of held other)) (sym both.1)

-- ---- the same by all keys at once

listed : (keys : ℕ → Option Code) (from : ℕ) (list later : List Holding) → length later ≡ length list → ((id : ℕ) → get_or later id nothing ≡ holding_arrived (keys (from + id)) (get_or list id nothing)) → later ≡ holdings_arrived keys from list
listed keys from [] [] long each = refl
listed keys from [] (y ∷ later) long each = absurd (omega (arith, long))
listed keys from (x ∷ list) [] long each = absurd (omega (arith, long))
listed keys from (x ∷ list) (y ∷ later) long each =
    let first : y ≡ holding_arrived (keys from) x = each zero ∙ ap (λ (n : ℕ). holding_arrived (keys n) x) {x = from + zero} {y = from} (omega arith) in
    let rest = listed keys (suc from) list later (omega (arith, long)) (λ id. each (suc id) ∙ ap (λ (n : ℕ). holding_arrived (keys n) (get_or list id nothing)) {x = from + suc id} {y = suc from + id} (omega arith)) in
    λ i. first i ∷ rest i

pub arrives_are : (held later : Held) → Arrives held later → later ≡ held_arrived (arrived_held later) held
arrives_are held later arrives = λ i. record { holdings = list i; live = arrives.live i }
  where
    list : later.holdings ≡ holdings_arrived (arrived_held later) 0 held.holdings
    list = listed (arrived_held later) 0 held.holdings later.holdings arrives.long (λ id. arrives.each id ∙ ap (λ (n : ℕ). holding_arrived (arrived_held later n) (holding_of held id)) {x = id} {y = 0 + id} (omega arith))

at_each : (keys : ℕ → Option Code) (from : ℕ) (list : List Holding) (id : ℕ) → get_or (holdings_arrived keys from list) id nothing ≡ holding_arrived (keys (from + id)) (get_or list id nothing)
at_each keys from [] id = refl
at_each keys from (x ∷ list) zero = ap (λ (n : ℕ). holding_arrived (keys n) x) {x = from} {y = from + zero} (omega arith)
at_each keys from (x ∷ list) (suc id) = at_each keys (suc from) list id ∙ ap (λ (n : ℕ). holding_arrived (keys n) (get_or list id nothing)) {x = suc from + id} {y = from + suc id} (omega arith)

as_long : (keys : ℕ → Option Code) (from : ℕ) (list : List Holding) → length (holdings_arrived keys from list) ≡ length list
as_long keys from [] = refl
as_long keys from (x ∷ list) = ap suc (as_long keys (suc from) list)

pub are_arrivals : (held : Held) (keys : ℕ → Option Code) → Arrives held (held_arrived keys held)
are_arrivals held keys = record {
  live = refl;
  long = as_long keys 0 held.holdings;
  each = λ id. (
      let here = at_each keys 0 held.holdings id in
      here ∙ told_back (keys (0 + id)) (holding_of held id) ∙ ap (λ (h : Holding). holding_arrived (arrived_in h) (holding_of held id)) (sym here));
}

pub list_twice : (first last : ℕ → Option Code) (from : ℕ) (list : List Holding) → holdings_arrived last from (holdings_arrived first from list) ≡ holdings_arrived last from list
list_twice first last from [] = refl
list_twice first last from (x ∷ list) = λ i. twice (first from) (last from) x i ∷ list_twice first last (suc from) list i

pub arrived_twice : (first last : ℕ → Option Code) (held : Held) → held_arrived last (held_arrived first held) ≡ held_arrived last held
arrived_twice first last held = λ i. record { holdings = list_twice first last 0 held.holdings i; live = held.live }

-- ---- what a text asks of the state

abbrev pub state_arrived : (ℕ → Option Code) → State → State
state_arrived keys state = record { value = state.value; rows = state.rows; arrived = keys; live = state.live }

pub asked_alike : (held later : Held) → Arrives held later → state_of later ≡ state_arrived (arrived_held later) (state_of held)
asked_alike held later arrives = λ i. record { value = λ p. values p.id i; rows = λ id. rows id i; arrived = arrived_held later; live = λ owner. live owner i }
  where
    values : (id : ℕ) → value_held later id ≡ value_held held id
    values id = ap value_in (arrives.each id) ∙ same_value (arrived_held later id) (holding_of held id)

    rows : (id : ℕ) → rows_held later id ≡ rows_held held id
    rows id = ap rows_in (arrives.each id) ∙ same_rows (arrived_held later id) (holding_of held id)

    live : (owner : ℕ) → is_live later owner ≡ is_live held owner
    live owner = ap (λ (flags : List Bool). slice_index_or flags owner false) arrives.live
