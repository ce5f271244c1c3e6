-- A grammar as a table of productions, and the lists of kinds of token that it derives.
use Rattle.std.specs.Prelude.{◌≡◌, ℕ, zero, suc, Bool, true, List, [], ◌∷◌, ◌++◌, Option, Some, None}
use Rattle.grammar.specs.declared.symbol.Symbol.{Symbol}
use Rattle.grammar.specs.declared.symbol.Symbol.TheVariants.{Terminal, Rule, Action}

-- W are the terminals, R the rules, D the actions, K the kinds of token.
pub record Table (W R D K : Type 0) : Type 0 where
  -- whether a token of the kind may stand for the terminal
  pub matches : W → K → Bool
  -- the productions of each rule
  pub productions : R → List (List (Symbol W R D))

-- the production with a number, counted from 0
abbrev pub production_at : {S : Type 0} → List S → ℕ → Option S
production_at [] i = None
production_at (body ∷ productions) zero = Some body
production_at (body ∷ productions) (suc i) = production_at productions i

-- Tokens of these kinds, one after the other, stand for these symbols.
pub data Derives {W R D K : Type 0} (t : Table W R D K) : List (Symbol W R D) → List K → Type 0 where
  done : Derives t [] []
  terminal : {w : W} {k : K} {rest : List (Symbol W R D)} {ks : List K} → t.matches w k ≡ true → Derives t rest ks → Derives t (Terminal w ∷ rest) (k ∷ ks)
  rule : {r : R} {body rest : List (Symbol W R D)} {ks : List K} (i : ℕ) → production_at (t.productions r) i ≡ Some body → Derives t (body ++ rest) ks → Derives t (Rule r ∷ rest) ks
  action : {d : D} {rest : List (Symbol W R D)} {ks : List K} → Derives t rest ks → Derives t (Action d ∷ rest) ks

-- Some text that the symbols derive begins with these kinds.
abbrev pub Begins : {W R D K : Type 0} → Table W R D K → List (Symbol W R D) → List K → Type 0
Begins {K = K} t s ks = (more : List K) × Derives t s (ks ++ more)
