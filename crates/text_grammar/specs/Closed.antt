-- The component texts without the production of the closer.
use Rattle.std.specs.Prelude.{◌≡◌, ◌⊎◌, Bool, true, false, List, [], ◌∷◌, ◌++◌, map, Err}
use Rattle.grammar.specs.declared.symbol.Symbol.TheVariants as s
use Rattle.grammar.specs.Table.{Table, Begins}
use Rattle.grammar.specs.Semantics.{Semantics, Reads, Refuses}
use Rattle.text_grammar.specs.declared.kind.Seen.{Seen}
use Rattle.text_grammar.specs.declared.component.Action.{Action}
use Rattle.text_grammar.specs.declared.component.Action.TheVariants as action
use Rattle.text_grammar.specs.declared.component.Terminal.{Terminal}
use Rattle.text_grammar.specs.declared.component.Terminal.TheVariants as terminal
use Rattle.text_grammar.specs.declared.component.Rule.{Rule}
use Rattle.text_grammar.specs.declared.component.Rule.TheVariants as rule
use Rattle.text_grammar.specs.Component.{Symbols, matches, productions, table, text}

-- an element that is not void ends with its closing tag alone
abbrev pub closed_productions : Rule → List Symbols
closed_productions rule.ElementEnd =
    (s.Terminal terminal.ClosingTag ∷ s.Terminal terminal.CloseTag ∷ s.Rule rule.CloseTagMore ∷ s.Terminal terminal.Greater ∷ s.Action action.Close ∷ []) ∷
    []
closed_productions r = productions r

abbrev pub closed_table : Table Terminal Rule Action Seen
closed_table = record { matches = matches; productions = closed_productions }

-- the closer, and no other terminal
abbrev pub is_closer : Terminal → Bool
is_closer terminal.Closer = true
is_closer _ = false

-- every token is refused that stands for a closer
abbrev pub RefusesClosers : {T S E : Type 0} → Semantics Terminal Action Seen T S E → Type 0
RefusesClosers {T = T} {S = S} {E = E} m = (a : S) (x : T) → (e : E) × (m.accept terminal.Closer a x ≡ Err e)

-- Behind these tokens of a text, which lead from the first state to b, an open element may end, and this
-- token, which is a `}` or the end of the text, would close what is around it.
pub record LeavesOpen {T S E : Type 0} (m : Semantics Terminal Action Seen T S E) (a : S) (before : List T) (x : T) (b : S) : Type 0 where
  pub rest : Symbols
  pub reads : Reads closed_table m text a before (s.Rule rule.ElementEnd ∷ rest) b
  pub closes : matches terminal.Closer (m.kind x) ≡ true

-- it is refused as a closer
abbrev pub IsUnclosed : {T S E : Type 0} → Semantics Terminal Action Seen T S E → S → List T → T → E → Type 0
IsUnclosed {S = S} m a before x e = (b : S) × LeavesOpen m a before x b × (m.accept terminal.Closer b x ≡ Err e)

-- what the table refuses is refused without the closer too, but for a closer
abbrev pub RefusesAlike : {T S E : Type 0} → Semantics Terminal Action Seen T S E → S → List T → T → E → Type 0
RefusesAlike m a before x e = Refuses table m text a before x e → Refuses closed_table m text a before x e ⊎ IsUnclosed m a before x e

-- where the table goes on behind tokens of a text, the texts go on too, but for a closer
abbrev pub GoesOnAlike : {T S E : Type 0} → Semantics Terminal Action Seen T S E → S → List T → T → Type 0
GoesOnAlike {S = S} m a before x =
    (out : Symbols) (b : S) → Reads closed_table m text a before out b → Begins table text (map m.kind before ++ m.kind x ∷ [])
    → Begins closed_table text (map m.kind before ++ m.kind x ∷ []) ⊎ ((c : S) × LeavesOpen m a before x c)
