-- What a list of tokens means: each terminal and each action changes a state, or a token is refused.
use Rattle.std.specs.Prelude.{◌≡◌, ℕ, true, List, [], ◌∷◌, ◌++◌, map, Some, Result, Ok, Err}
use Rattle.grammar.specs.declared.symbol.Symbol.{Symbol}
use Rattle.grammar.specs.declared.symbol.Symbol.TheVariants.{Terminal, Rule, Action}
use Rattle.grammar.specs.Table.{Table, production_at, Begins}

-- T are the tokens, S the states, E the refusals.
pub record Semantics (W D K T S E : Type 0) : Type 0 where
  pub kind : T → K
  -- the state after the token, which stands for the terminal, or the first check that it fails
  pub accept : W → S → T → Result S E
  pub perform : D → S → S
  -- why a token that the grammar does not allow is refused
  pub unexpected : T → E

module _ {W R D K T S E : Type 0} (t : Table W R D K) (m : Semantics W D K T S E) where
  -- The tokens lead from the first symbols and state to the last, by any productions.
  pub data Reads : List (Symbol W R D) → S → List T → List (Symbol W R D) → S → Type 0 where
    here : {s : List (Symbol W R D)} {a : S} → Reads s a [] s a
    terminal : {w : W} {x : T} {rest out : List (Symbol W R D)} {xs : List T} {a b c : S} → t.matches w (m.kind x) ≡ true → m.accept w a x ≡ Ok b
        → Reads rest b xs out c → Reads (Terminal w ∷ rest) a (x ∷ xs) out c
    rule : {r : R} {body rest out : List (Symbol W R D)} {xs : List T} {a c : S} (i : ℕ) → production_at (t.productions r) i ≡ Some body
        → Reads (body ++ rest) a xs out c → Reads (Rule r ∷ rest) a xs out c
    action : {d : D} {rest out : List (Symbol W R D)} {xs : List T} {a c : S} → Reads rest (m.perform d a) xs out c → Reads (Action d ∷ rest) a xs out c

  -- The tokens before pass, and this one fails its check, or no text begins with them and this one.
  pub data Refuses (s : List (Symbol W R D)) (a : S) (before : List T) (x : T) : E → Type 0 where
    by_check : {w : W} {rest : List (Symbol W R D)} {b : S} {e : E} → Reads s a before (Terminal w ∷ rest) b → t.matches w (m.kind x) ≡ true
        → m.accept w b x ≡ Err e → Refuses s a before x e
    by_grammar : {out : List (Symbol W R D)} {b : S} → Reads s a before out b → (Begins t s (map m.kind before ++ m.kind x ∷ []) → ⊥)
        → Refuses s a before x (m.unexpected x)
