-- Counts that are held to one more than the most.
use Rattle.std.specs.Prelude.{◌≡◌, ℕ, min, nat_eq, unwrap_or}
use Rattle.std.specs.HashMap.{HashMap, get}
use Rattle.node_counts.specs.declared.numbers.TheConstants.{TOO_MANY}

abbrev pub capped : ℕ → ℕ
capped n = min n TOO_MANY

-- what was noted of each store
abbrev pub most_in : {S : Type 0} → HashMap ℕ ℕ S → ℕ → ℕ
most_in most store = unwrap_or (get nat_eq most store) 0

-- as far as counts are told apart, the rows of each store are the same
abbrev pub Agrees : (ℕ → ℕ) → (ℕ → ℕ) → Type 0
Agrees most rows = (store : ℕ) → capped (most store) ≡ capped (rows store)
