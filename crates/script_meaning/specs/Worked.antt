-- A component for worked rows of scripts.
use Rattle.std.specs.Prelude.{ℕ, true, codes, pos, List, [], ◌∷◌}
use Rattle.values.specs.declared.code.Code.TheVariants.{Empty, Number}
use Rattle.values.specs.declared.expr.Expr.TheVariants.{Read}
use Rattle.component_items.specs.declared.component.Component.{Component}
use Rattle.component_items.specs.declared.component.Item.{Item}
use Rattle.component_items.specs.declared.component.Item.TheVariants as item
use Rattle.component_items.specs.declared.refusal.Refusal.TheVariants.{Bad}
use Rattle.component_items.specs.declared.refusal.Why.{Why}
use Rattle.script_items.specs.declared.operation.ScriptOp.{ScriptOp}
use Rattle.script_meaning.specs.Script.{IsScript, IsNoScript}

abbrev pub worked_texts : List (List ℕ)
worked_texts = [] ∷ codes "a" ∷ codes "m" ∷ codes "s" ∷ codes "t" ∷ codes "u" ∷ codes "side" ∷ codes "x" ∷ codes "p" ∷ codes "inner" ∷ codes "y" ∷ codes "e" ∷ codes "h" ∷ []

-- signal a = 1 memo m = a store s max 2 { t = 0 u = empty } area side { signal x = 2 <p>area inner { signal y = 3 }</p> } effect e = a if a { memo h = a }
abbrev pub worked_items : List Item
worked_items =
    item.Signal 0 1 (Number (pos 1)) ∷ item.Memo 1 2 (Read 0) ∷ item.Store 2 3 2 (4 ∷ 5 ∷ []) (Number (pos 0) ∷ Empty ∷ []) ∷
    item.Area 6 6 1 (item.Signal 7 7 (Number (pos 2)) ∷ item.Element 8 true [] (item.Area 8 9 2 (item.Signal 9 10 (Number (pos 3)) ∷ []) ∷ []) ∷ []) ∷
    item.Effect 10 11 (Read 0) ∷ item.If 11 (Read 0) (item.Memo 12 12 (Read 0) ∷ []) ∷ []

abbrev pub worked_component : Component
worked_component = record { texts = worked_texts; items = worked_items }

-- the bytes are refused as a script for it, for this reason at this line and column
abbrev pub RefusedAt : List ℕ → Why → ℕ → ℕ → Type 0
RefusedAt bytes why line column = IsNoScript worked_component 1 bytes (Bad why (record { line = line; column = column }))

-- the bytes are the text of the script for it, and these are all texts then
abbrev pub MeansPhases : List ℕ → List (List (List ScriptOp)) → List (List ℕ) → Type 0
MeansPhases bytes phases texts = IsScript worked_component 1 bytes phases texts
