-- Where productions lead that a token chooses.
use Rattle.std.proofs.Common.{List, ◌∷◌, ◌++◌, subst, append_assoc}
use Rattle.grammar.specs.declared.symbol.Symbol.{Symbol}
use Rattle.grammar.specs.declared.symbol.Symbol.TheVariants.{Rule}
use Rattle.grammar.specs.Table.{Table}
use Rattle.grammar.specs.Lookahead.{Lookahead}
use Rattle.grammar.specs.Leading.{Leads, stays, goes, Expands}

module _ {W R D K : Type 0} (t : Table W R D K) (h : Lookahead W R K) (k : K) where
  abbrev Symbols : Type 0
  Symbols = List (Symbol W R D)

  -- what stands behind the symbols stays there
  pub leads_before : {s out : Symbols} → Leads t h k s out → (rest : Symbols) → Leads t h k (s ++ rest) (out ++ rest)
  leads_before stays rest = stays
  leads_before (goes {body = body} {rest = tail} {out = out} chosen more) rest =
      goes chosen (subst (λ l. Leads t h k l (out ++ rest)) (append_assoc body tail rest) (leads_before more rest))

  -- a rule that comes first leads where it expands to
  pub leads_first : {r : R} {out : Symbols} → Expands t h k r out → (rest : Symbols) → Leads t h k (Rule r ∷ rest) (out ++ rest)
  leads_first e rest = goes e.chosen (leads_before e.leads rest)
