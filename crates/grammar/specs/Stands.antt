-- Where a reader stands that has one token ahead.
use Rattle.std.specs.Prelude.{List, ◌∷◌, ◌++◌, map}
use Rattle.grammar.specs.declared.symbol.Symbol.{Symbol}
use Rattle.grammar.specs.Table.{Table, Derives}
use Rattle.grammar.specs.Lookahead.{Lookahead}
use Rattle.grammar.specs.Machine.{Fits}
use Rattle.grammar.specs.Semantics.{Semantics, Reads}

pub record Stands {W R D K T S E : Type 0} (t : Table W R D K) (h : Lookahead W R K) (m : Semantics W D K T S E)
    (start : List (Symbol W R D)) (first : S) (before : List T) (x : T) (stack : List (Symbol W R D)) (now : S) : Type 0 where
  pub reads : Reads t m start first before stack now
  pub fits : Fits t h stack
  pub only : (ks : List K) → Derives t start (map m.kind before ++ m.kind x ∷ ks) → Derives t stack (m.kind x ∷ ks)
