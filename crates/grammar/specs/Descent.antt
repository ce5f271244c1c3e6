-- That the machine's expansions end: no rule leads back to itself with no token in between.
use Rattle.std.specs.Prelude.{◌≡◌, ℕ, nat_lt, Bool, true, ◌&&◌, List, [], ◌∷◌}
use Rattle.std.specs.List.{list_all}
use Rattle.grammar.specs.declared.symbol.Symbol.{Symbol}
use Rattle.grammar.specs.declared.symbol.Symbol.TheVariants.{Terminal, Rule, Action}
use Rattle.grammar.specs.Table.{Table}
use Rattle.grammar.specs.Lookahead.{Lookahead, implies}

-- Each rule has a level.
module _ {W R D K : Type 0} (t : Table W R D K) (h : Lookahead W R K) (level : R → ℕ) where
  -- each rule that the symbols may lead to before a token is taken has a lower level
  abbrev pub goes_down : ℕ → List (Symbol W R D) → Bool
  goes_down n [] = true
  goes_down n (Terminal w ∷ rest) = true
  goes_down n (Action d ∷ rest) = goes_down n rest
  goes_down n (Rule r ∷ rest) = nat_lt (level r) n && implies (h.nullable r) (goes_down n rest)

  abbrev pub rule_goes_down : R → Bool
  rule_goes_down r = list_all (goes_down (level r)) (t.productions r)

  -- the test, over all rules
  abbrev pub leads_down : List R → Bool
  leads_down rules = list_all rule_goes_down rules

  -- every production leads to lower levels
  abbrev pub LeadsDown : Type 0
  LeadsDown = (r : R) → rule_goes_down r ≡ true
