-- Properties that each step keeps.
use Rattle.std.specs.Prelude.{◌≡◌, ℕ, true, List, ◌∷◌, ◌++◌, Some, Ok}
use Rattle.grammar.specs.declared.symbol.Symbol.{Symbol}
use Rattle.grammar.specs.declared.symbol.Symbol.TheVariants.{Terminal, Rule, Action}
use Rattle.grammar.specs.Table.{Table, production_at}
use Rattle.grammar.specs.Semantics.{Semantics}

-- each token that is accepted, and each action, keeps what holds of the state
pub record Keeps {W R D K T S E : Type 0} (t : Table W R D K) (m : Semantics W D K T S E) (P : S → Type 0) : Type 0 where
  pub terminal : (w : W) (a b : S) (x : T) → t.matches w (m.kind x) ≡ true → m.accept w a x ≡ Ok b → P a → P b
  pub action : (d : D) (a : S) → P a → P (m.perform d a)

-- the same where the property also speaks of the symbols that are still to come
pub record KeepsAlong {W R D K T S E : Type 0} (t : Table W R D K) (m : Semantics W D K T S E) (Q : List (Symbol W R D) → S → Type 0) : Type 0 where
  pub terminal : (w : W) (rest : List (Symbol W R D)) (a b : S) (x : T) → t.matches w (m.kind x) ≡ true → m.accept w a x ≡ Ok b
      → Q (Terminal w ∷ rest) a → Q rest b
  pub rule : (r : R) (i : ℕ) (body rest : List (Symbol W R D)) (a : S) → production_at (t.productions r) i ≡ Some body
      → Q (Rule r ∷ rest) a → Q (body ++ rest) a
  pub action : (d : D) (rest : List (Symbol W R D)) (a : S) → Q (Action d ∷ rest) a → Q rest (m.perform d a)
