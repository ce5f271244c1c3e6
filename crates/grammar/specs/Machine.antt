-- The machine that reads by one token of lookahead: it takes the production that the lookahead chooses until a terminal is next.
use Rattle.std.specs.Prelude.{◌≡◌, ℕ, true, List, [], ◌∷◌, ◌++◌, Some}
use Rattle.grammar.specs.declared.symbol.Symbol.{Symbol}
use Rattle.grammar.specs.declared.symbol.Symbol.TheVariants.{Terminal, Rule, Action}
use Rattle.grammar.specs.Table.{Table, production_at, Derives}
use Rattle.grammar.specs.Lookahead.{Lookahead, may_begin, is_nullable}

module _ {W R D K : Type 0} (t : Table W R D K) (h : Lookahead W R K) where
  pub data Takes : List (Symbol W R D) → K → List (Symbol W R D) → Type 0 where
    takes_terminal : {w : W} {k : K} {rest : List (Symbol W R D)} → t.matches w k ≡ true → Takes (Terminal w ∷ rest) k rest
    takes_rule : {r : R} {k : K} {body rest out : List (Symbol W R D)} → production_at (t.productions r) (h.choice r k) ≡ Some body → Takes (body ++ rest) k out → Takes (Rule r ∷ rest) k out
    takes_action : {d : D} {k : K} {rest out : List (Symbol W R D)} → Takes rest k out → Takes (Action d ∷ rest) k out

  -- what stands after each rule on the stack may follow it
  abbrev pub Fits : List (Symbol W R D) → Type 0
  Fits [] = Unit {0}
  Fits (Terminal w ∷ rest) = Fits rest
  Fits (Action d ∷ rest) = Fits rest
  Fits (Rule r ∷ rest) = ((k : K) → may_begin t h rest k ≡ true → h.follow r k ≡ true) × Fits rest

  -- the lookahead says of each production what is so
  pub record IsRight : Type 0 where
    pub first : (r : R) (i : ℕ) (body : List (Symbol W R D)) (k : K) → production_at (t.productions r) i ≡ Some body → may_begin t h body k ≡ true → h.first r k ≡ true
    pub empty : (r : R) (i : ℕ) (body : List (Symbol W R D)) → production_at (t.productions r) i ≡ Some body → is_nullable t h body ≡ true → h.nullable r ≡ true
    pub inner : (r : R) (i : ℕ) (body : List (Symbol W R D)) → production_at (t.productions r) i ≡ Some body → (rest : List (Symbol W R D)) → Fits (Rule r ∷ rest) → Fits (body ++ rest)
    pub choice_first : (r : R) (i : ℕ) (body : List (Symbol W R D)) (k : K) → production_at (t.productions r) i ≡ Some body → may_begin t h body k ≡ true → h.choice r k ≡ i
    pub choice_empty : (r : R) (i : ℕ) (body : List (Symbol W R D)) (k : K) → production_at (t.productions r) i ≡ Some body → is_nullable t h body ≡ true → h.follow r k ≡ true → h.choice r k ≡ i
    pub ends : (s : List (Symbol W R D)) → (ks : List K) × Derives t s ks
