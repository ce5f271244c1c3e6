-- Serials of mounted rows.
use Rattle.std.specs.Prelude.{ℕ, suc, if◌then◌else◌, List, [], ◌∷◌, Option, Some, None, unwrap_or}
use Rattle.std.specs.Option.{option_map}
use Rattle.values.specs.declared.code.Code.{Code}
use Rattle.values.specs.Evaluation.{is_same}
use Rattle.outside.specs.Counts.{next_count}

-- the mounted rows of an `each`, each by its key with its serial, in the store's order; and the serial that the next
-- fresh row takes
pub record Rows : Type 0 where
  pub rows : List (Code × ℕ)
  pub next : ℕ

abbrev pub serial_among : List (Code × ℕ) → Code → Option ℕ
serial_among [] key = None
serial_among (pair ∷ pairs) key = if is_same pair.0 key then Some pair.1 else serial_among pairs key

-- a fresh row takes a serial, one that was there takes none
abbrev pub next_after : Option ℕ → ℕ → ℕ
next_after None next = next_count next
next_after (Some serial) next = next

-- the rows with these keys, in order: one that was there keeps its serial, a fresh one takes the next
abbrev pub numbered : List (Code × ℕ) → List Code → ℕ → List (Code × ℕ)
numbered old [] next = []
numbered old (key ∷ keys) next = (key, unwrap_or (serial_among old key) next) ∷ numbered old keys (next_after (serial_among old key) next)

-- the next serial behind them
abbrev pub next_behind : List (Code × ℕ) → List Code → ℕ → ℕ
next_behind old [] next = next
next_behind old (key ∷ keys) next = next_behind old keys (next_after (serial_among old key) next)

abbrev pub rows_again : Rows → List Code → Rows
rows_again old keys = record { rows = numbered old.rows keys old.next; next = next_behind old.rows keys old.next }

-- ---- what the laws say of them

-- how many of these keys are fresh
abbrev pub one_if_fresh : Option ℕ → ℕ → ℕ
one_if_fresh None n = suc n
one_if_fresh (Some serial) n = n

abbrev pub fresh_among : List (Code × ℕ) → List Code → ℕ
fresh_among old [] = 0
fresh_among old (key ∷ keys) = one_if_fresh (serial_among old key) (fresh_among old keys)

-- the keys before the first that is this one, where there is one
abbrev pub before_it : List Code → Code → Option (List Code)
before_it [] key = None
before_it (first ∷ keys) key = if is_same first key then Some [] else option_map (λ before. first ∷ before) (before_it keys key)
