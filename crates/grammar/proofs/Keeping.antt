-- What each step keeps holds at the end.
use Rattle.std.proofs.Common.{List}
use Rattle.grammar.specs.declared.symbol.Symbol.{Symbol}
use Rattle.grammar.specs.Table.{Table}
use Rattle.grammar.specs.Semantics.{Semantics, Reads, here, terminal, rule, action}
use Rattle.grammar.specs.Keeping.{Keeps, KeepsAlong}

module _ {W R D K T S E : Type 0} (t : Table W R D K) (m : Semantics W D K T S E) where
  pub kept : (P : S → Type 0) → Keeps t m P → {s out : List (Symbol W R D)} {a b : S} {xs : List T} → Reads t m s a xs out b → P a → P b
  kept P keeps here holds = holds
  kept P keeps (terminal {w = w} {x = x} {a = a} {b = b} has takes go) holds = kept P keeps go (keeps.terminal w a b x has takes holds)
  kept P keeps (rule i at go) holds = kept P keeps go holds
  kept P keeps (action {d = d} {a = a} go) holds = kept P keeps go (keeps.action d a holds)

  pub kept_along : (Q : List (Symbol W R D) → S → Type 0) → KeepsAlong t m Q → {s out : List (Symbol W R D)} {a b : S} {xs : List T} → Reads t m s a xs out b → Q s a → Q out b
  kept_along Q keeps here holds = holds
  kept_along Q keeps (terminal {w = w} {x = x} {rest = rest} {a = a} {b = b} has takes go) holds = kept_along Q keeps go (keeps.terminal w rest a b x has takes holds)
  kept_along Q keeps (rule {r = r} {body = body} {rest = rest} {a = a} i at go) holds = kept_along Q keeps go (keeps.rule r i body rest a at holds)
  kept_along Q keeps (action {d = d} {rest = rest} {a = a} go) holds = kept_along Q keeps go (keeps.action d rest a holds)
