-- Whole texts: what they mean, and their first bad token.
use Rattle.std.specs.Prelude.{◌≡◌, List, [], ◌∷◌, ◌++◌}
use Rattle.grammar.specs.declared.symbol.Symbol.{Symbol}
use Rattle.grammar.specs.declared.symbol.Symbol.TheVariants.{Terminal}
use Rattle.grammar.specs.Table.{Table}
use Rattle.grammar.specs.Semantics.{Semantics, Reads, Refuses}

-- the tokens are a text of the start symbols, and lead from the first state to the last
abbrev pub Means : {W R D K T S E : Type 0} → Table W R D K → Semantics W D K T S E → List (Symbol W R D) → S → List T → S → Type 0
Means t m start first xs last = Reads t m start first xs [] last

-- this is the first token of the list that is refused, and why
pub record IsFirstBad {W R D K T S E : Type 0} (t : Table W R D K) (m : Semantics W D K T S E) (start : List (Symbol W R D)) (first : S) (xs : List T) (why : E) : Type 0 where
  pub before : List T
  pub bad : T
  pub after : List T
  pub whole : xs ≡ before ++ bad ∷ after
  pub refuses : Refuses t m start first before bad why

-- the last symbol is a terminal, as the end of a text is
pub record ClosesWith {W R D : Type 0} (w : W) (s : List (Symbol W R D)) : Type 0 where
  pub inner : List (Symbol W R D)
  pub whole : s ≡ inner ++ Terminal w ∷ []
