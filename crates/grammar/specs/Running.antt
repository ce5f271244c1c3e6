-- The meaning of a list of tokens in a form that computes, for worked inputs.
use Rattle.std.specs.Prelude.{ℕ, zero, suc, true, false, List, [], ◌∷◌, ◌++◌, Some, None, Ok, Err}
use Rattle.grammar.specs.declared.symbol.Symbol.{Symbol}
use Rattle.grammar.specs.declared.symbol.Symbol.TheVariants.{Terminal, Rule, Action}
use Rattle.grammar.specs.Table.{Table, production_at}
use Rattle.grammar.specs.Lookahead.{Lookahead}
use Rattle.grammar.specs.Semantics.{Semantics}

-- what comes of a list of tokens: it leads to a state, a token of it is refused, or neither was found within the steps
pub data Outcome (S E : Type 0) : Type 0 where
  read : S → Outcome S E
  refused : E → Outcome S E
  undecided : Outcome S E

-- What comes of the tokens in at most so many steps, by the productions that the lookahead chooses. Where no token
-- is left for a terminal or a rule, nothing is decided.
module _ {W R D K T S E : Type 0} (t : Table W R D K) (h : Lookahead W R K) (m : Semantics W D K T S E) where
  abbrev pub run : ℕ → List (Symbol W R D) → S → List T → Outcome S E
  run zero stack now xs = undecided
  run (suc n) [] now [] = read now
  run (suc n) [] now (x ∷ xs) = refused (m.unexpected x)
  run (suc n) (Terminal w ∷ rest) now [] = undecided
  run (suc n) (Terminal w ∷ rest) now (x ∷ xs) =
      elim (t.matches w (m.kind x)) [
        | true ↦
            elim (m.accept w now x) [
              | Ok b ↦ run n rest b xs
              | Err e ↦ refused e
            ]
        | false ↦ refused (m.unexpected x)
      ]
  run (suc n) (Rule r ∷ rest) now [] = undecided
  run (suc n) (Rule r ∷ rest) now (x ∷ xs) =
      elim (production_at (t.productions r) (h.choice r (m.kind x))) [
        | Some body ↦ run n (body ++ rest) now (x ∷ xs)
        | None ↦ refused (m.unexpected x)
      ]
  run (suc n) (Action d ∷ rest) now xs = run n rest (m.perform d now) xs
