-- What a reading adds to a size, where each terminal and each action adds so much at the most.
use Rattle.std.specs.Prelude.{ℕ, suc, ◌+◌, ◌-◌, nat_le, ◌&&◌, Bool, true, List, [], ◌∷◌}
use Rattle.std.specs.List.{list_all}
use Rattle.grammar.specs.declared.symbol.Symbol.{Symbol}
use Rattle.grammar.specs.declared.symbol.Symbol.TheVariants.{Terminal, Rule, Action}
use Rattle.grammar.specs.Table.{Table}

module _ {W R D K : Type 0} (t : Table W R D K) (rise : W → ℕ) (gain : D → ℕ) where
  -- with so much in hand: each terminal gives one and takes its rise, each action takes its gain
  abbrev pub pays : ℕ → List (Symbol W R D) → Bool
  pays k [] = true
  pays k (Terminal w ∷ rest) = nat_le (rise w) (suc k) && pays (suc k - rise w) rest
  pays k (Action d ∷ rest) = nat_le (gain d) k && pays (k - gain d) rest
  pays k (Rule r ∷ rest) = pays k rest

  abbrev pub rule_pays : R → Bool
  rule_pays r = list_all (pays 0) (t.productions r)

  -- what has to be in hand for the symbols
  abbrev pub need : List (Symbol W R D) → ℕ
  need [] = 0
  need (Terminal w ∷ rest) = (rise w + need rest) - 1
  need (Action d ∷ rest) = gain d + need rest
  need (Rule r ∷ rest) = need rest
