-- The end of a text: it stands last, and nowhere else.
use Rattle.std.specs.Prelude.{◌≡◌, Bool, true, not, ◌&&◌, ◌||◌, List, [], ◌∷◌, ◌++◌, Ok}
use Rattle.std.specs.List.{list_all}
use Rattle.grammar.specs.declared.symbol.Symbol.{Symbol}
use Rattle.grammar.specs.declared.symbol.Symbol.TheVariants.{Terminal, Rule, Action}
use Rattle.grammar.specs.Table.{Table}
use Rattle.grammar.specs.Lookahead.{implies}
use Rattle.grammar.specs.Semantics.{Semantics}
use Rattle.grammar.specs.Meaning.{ClosesWith}

module _ {W R D K : Type 0} (t : Table W R D K) where
  -- a token of the kind stands for no terminal of the symbols
  abbrev pub lacks : K → List (Symbol W R D) → Bool
  lacks k [] = true
  lacks k (Terminal w ∷ rest) = not (t.matches w k) && lacks k rest
  lacks k (Action d ∷ rest) = lacks k rest
  lacks k (Rule r ∷ rest) = lacks k rest

  abbrev pub rule_lacks : K → R → Bool
  rule_lacks k r = list_all (lacks k) (t.productions r)

  -- The terminal closes the symbols, and what may stand for it may stand for no terminal before it and for none of a production.
  pub record IsEndOf (end : W) (start : List (Symbol W R D)) : Type 0 where
    pub closes : ClosesWith end start
    pub before : (k : K) → t.matches end k ≡ true → lacks k closes.inner ≡ true
    pub inside : (k : K) → t.matches end k ≡ true → (r : R) → rule_lacks k r ≡ true

  -- the test of that, over all rules and kinds, with the symbols before the end
  abbrev pub is_apart : W → List (Symbol W R D) → List R → List K → Bool
  is_apart end inner rules kinds = list_all (λ k. implies (t.matches end k) (lacks k inner && list_all (rule_lacks k) rules)) kinds

  -- No terminal of the symbols takes a token of the kind: it may not stand for the terminal, or the terminal is blocked.
  abbrev pub stops : (W → Bool) → K → List (Symbol W R D) → Bool
  stops blocked k [] = true
  stops blocked k (Terminal w ∷ rest) = (not (t.matches w k) || blocked w) && stops blocked k rest
  stops blocked k (Action d ∷ rest) = stops blocked k rest
  stops blocked k (Rule r ∷ rest) = stops blocked k rest

  abbrev pub rule_stops : (W → Bool) → K → R → Bool
  rule_stops blocked k r = list_all (stops blocked k) (t.productions r)

  -- The terminal closes the symbols, and a token of the kind is taken by no terminal before it and by none of a production.
  -- The end may take it or not.
  pub record IsLast (blocked : W → Bool) (end : W) (k : K) (start : List (Symbol W R D)) : Type 0 where
    pub closes : ClosesWith end start
    pub before : stops blocked k closes.inner ≡ true
    pub inside : (r : R) → rule_stops blocked k r ≡ true

-- the terminals that are blocked refuse every token, in every state
abbrev pub Blocks : {W D K T S E : Type 0} → Semantics W D K T S E → (W → Bool) → Type 0
Blocks {W = W} {T = T} {S = S} m blocked = (w : W) (a b : S) (x : T) → blocked w ≡ true → m.accept w a x ≡ Ok b → ⊥

-- the last token may stand for the end
pub record IsEnded {W R D K T S E : Type 0} (t : Table W R D K) (m : Semantics W D K T S E) (end : W) (xs : List T) : Type 0 where
  pub before : List T
  pub last : T
  pub whole : xs ≡ before ++ last ∷ []
  pub ends : t.matches end (m.kind last) ≡ true
