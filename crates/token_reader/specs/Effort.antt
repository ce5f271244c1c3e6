-- How many steps the reader may take before the next token is taken.
use Rattle.std.specs.Prelude.{ℕ, zero, suc, ◌+◌, Bool, if◌then◌else◌, List, [], ◌∷◌}
use Rattle.grammar.specs.declared.symbol.Symbol.{Symbol}
use Rattle.grammar.specs.declared.symbol.Symbol.TheVariants.{Terminal, Rule, Action}
use Rattle.token_reader.specs.Rules.{Rules}

-- what the symbols cost up to the first that stands for some token, where each rule has a cost
abbrev pub ahead : {W R D : Type 0} → (R → Bool) → (R → ℕ) → List (Symbol W R D) → ℕ
ahead nullable c [] = 0
ahead nullable c (Terminal w ∷ rest) = 0
ahead nullable c (Action d ∷ rest) = suc (ahead nullable c rest)
ahead nullable c (Rule r ∷ rest) = c r + (if nullable r then ahead nullable c rest else 0)

abbrev pub all_ahead : {W R D : Type 0} → (R → Bool) → (R → ℕ) → List (List (Symbol W R D)) → ℕ
all_ahead nullable c [] = 0
all_ahead nullable c (body ∷ bodies) = ahead nullable c body + all_ahead nullable c bodies

module _ {W R D S : Type 0} (rules : Rules W R D S) where
  -- more than each production of the rule costs, where the rules that it leads to are less than so many levels deep
  unfoldable pub cost_at : ℕ → R → ℕ
  cost_at zero r = 0
  cost_at (suc n) r = suc (all_ahead rules.lookahead.nullable (cost_at n) (rules.table.productions r))

  unfoldable pub cost : R → ℕ
  unfolding cost_at
  cost r = cost_at (suc (rules.level r)) r

  unfoldable pub effort : List (Symbol W R D) → ℕ
  effort stack = ahead rules.lookahead.nullable cost stack
