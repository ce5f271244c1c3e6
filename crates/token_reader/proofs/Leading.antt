-- Steps that stand for several productions.
use Rattle.std.proofs.Common.{ℕ, ◌<◌, ◌≤◌, List, ◌∷◌, ◌++◌, sym, subst, arith, append_assoc}
use Rattle.grammar.specs.declared.symbol.Symbol.{Symbol}
use Rattle.grammar.specs.declared.symbol.Symbol.TheVariants.{Rule}
use Rattle.grammar.specs.Leading.{Leads, stays, goes, Expands}
use Rattle.text_grammar.specs.declared.kind.Seen.{Seen}
use Rattle.token_reader.specs.Rules.{Rules, IsReadable}
use Rattle.token_reader.specs.Reading.{Settles, rule}
use Rattle.token_reader.specs.Effort.{effort}
use Rattle.token_reader.proofs.Effort.{less_rule}

module _ {W R D S : Type 0} (rules : Rules W R D S) (next : Seen) where
  abbrev Symbols : Type 0
  Symbols = List (Symbol W R D)

  settles_on : (bytes : List ℕ) (from : Symbols) (first : S) {s out : Symbols} → Leads rules.table rules.lookahead next s out → (rest : Symbols) (a : S)
      → Settles rules bytes next from first (s ++ rest) a → Settles rules bytes next from first (out ++ rest) a
  settles_on bytes from first stays rest a go = go
  settles_on bytes from first (goes {body = body} {rest = tail} chosen more) rest a go =
      settles_on bytes from first more rest a (subst (λ l. Settles rules bytes next from first l a) (sym (append_assoc body tail rest)) (rule go chosen))

  -- a rule is replaced by what it expands to
  pub settles_rule : (bytes : List ℕ) (from : Symbols) (first : S) (r : R) (out rest : Symbols) (a : S) → Expands rules.table rules.lookahead next r out
      → Settles rules bytes next from first (Rule r ∷ rest) a → Settles rules bytes next from first (out ++ rest) a
  settles_rule bytes from first r out rest a e go = settles_on bytes from first e.leads rest a (rule go e.chosen)

  module _ (ok : IsReadable rules) where
    no_more : {s out : Symbols} → Leads rules.table rules.lookahead next s out → (rest : Symbols) → effort rules (out ++ rest) ≤ effort rules (s ++ rest)
    no_more stays rest = omega arith
    no_more (goes {r = r} {body = body} {rest = tail} {out = out} chosen more) rest =
        let less = less_rule rules ok r (rules.lookahead.choice r next) body (tail ++ rest) chosen in
        let after = subst (λ l. effort rules (out ++ rest) ≤ effort rules l) (append_assoc body tail rest) (no_more more rest) in
        omega arith

    -- and the stack takes less then
    pub less_expansion : (r : R) (out rest : Symbols) → Expands rules.table rules.lookahead next r out → effort rules (out ++ rest) < effort rules (Rule r ∷ rest)
    less_expansion r out rest e =
        let less = less_rule rules ok r (rules.lookahead.choice r next) e.body rest e.chosen in
        let after = no_more e.leads rest in
        omega arith
