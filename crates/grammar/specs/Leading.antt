-- Where productions lead that a token chooses, before it is taken.
use Rattle.std.specs.Prelude.{◌≡◌, List, ◌∷◌, ◌++◌, Some}
use Rattle.grammar.specs.declared.symbol.Symbol.{Symbol}
use Rattle.grammar.specs.declared.symbol.Symbol.TheVariants.{Rule}
use Rattle.grammar.specs.Table.{Table, production_at}
use Rattle.grammar.specs.Lookahead.{Lookahead}

module _ {W R D K : Type 0} (t : Table W R D K) (h : Lookahead W R K) (k : K) where
  -- The symbols lead to others: a rule that comes first is replaced by the production that the lookahead chooses for
  -- the kind, as often as one likes.
  pub data Leads : List (Symbol W R D) → List (Symbol W R D) → Type 0 where
    stays : {s : List (Symbol W R D)} → Leads s s
    goes : {r : R} {body rest out : List (Symbol W R D)} → production_at (t.productions r) (h.choice r k) ≡ Some body → Leads (body ++ rest) out → Leads (Rule r ∷ rest) out

  -- the rule is replaced, and then perhaps rules that come first
  pub record Expands (r : R) (out : List (Symbol W R D)) : Type 0 where
    pub body : List (Symbol W R D)
    pub chosen : production_at (t.productions r) (h.choice r k) ≡ Some body
    pub leads : Leads body out
