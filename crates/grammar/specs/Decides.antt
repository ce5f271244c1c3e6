-- That one token of lookahead decides which production to take.
use Rattle.std.specs.Prelude.{◌≡◌, ℕ, List, [], ◌∷◌, ◌++◌, Some}
use Rattle.grammar.specs.declared.symbol.Symbol.{Symbol}
use Rattle.grammar.specs.declared.symbol.Symbol.TheVariants.{Rule}
use Rattle.grammar.specs.Table.{Table, production_at, Derives, Begins}
use Rattle.grammar.specs.Lookahead.{Lookahead}
use Rattle.grammar.specs.Machine.{Takes, Fits}

module _ {W R D K : Type 0} (t : Table W R D K) (h : Lookahead W R K) where
  -- whatever is derived and begins with a kind takes the production that the lookahead chooses for the kind
  abbrev pub TakesChosen : Type 0
  TakesChosen = (r : R) (i : ℕ) (body rest : List (Symbol W R D)) (k : K) (ks : List K) → Fits t h (Rule r ∷ rest)
      → production_at (t.productions r) i ≡ Some body → Derives t (body ++ rest) (k ∷ ks) → h.choice r k ≡ i

  -- the machine takes the first kind of whatever is derived, and what it leaves derives the others
  abbrev pub FollowsDerivations : Type 0
  FollowsDerivations = (s : List (Symbol W R D)) (k : K) (ks : List K) → Fits t h s → Derives t s (k ∷ ks)
      → (out : List (Symbol W R D)) × Takes t h s k out × Fits t h out × Derives t out ks

  -- a stack that isn't stuck ends in a text
  abbrev pub NeverMisleads : Type 0
  NeverMisleads = (s out : List (Symbol W R D)) (k : K) → Takes t h s k out → Begins t s (k ∷ [])
