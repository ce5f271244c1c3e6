-- A component for worked rows, with its text above it.
use Rattle.std.specs.Prelude.{[], ◌∷◌, Option, codes, true}
use Rattle.values.specs.declared.code.Code.{Code}
use Rattle.values.specs.declared.expr.Expr.TheVariants.{Read}
use Rattle.component_items.specs.declared.component.Component.{Component}
use Rattle.component_items.specs.declared.component.Item.TheVariants as item
use Rattle.plain_evaluation.specs.Held.{Held, nothing, value, arrived}
use Rattle.plain_evaluation.specs.Rows.{number}

-- component 1|resource a after 1 { 1 => 2 }|resource b after 0 { 2 => 3 }|resource c after 2 { 3 => 4 }|signal id = 1|load x = a(id)|load y = b(x)|load z = c(y)|<p>{z}</p>
abbrev pub chain : Component
chain = record {
  texts = [] ∷ codes "a" ∷ codes "b" ∷ codes "c" ∷ codes "id" ∷ codes "x" ∷ codes "y" ∷ codes "z" ∷ codes "p" ∷ [];
  items = item.Resource 0 1 1 (number 1 ∷ []) (number 2 ∷ []) ∷ item.Resource 1 2 0 (number 2 ∷ []) (number 3 ∷ []) ∷ item.Resource 2 3 2 (number 3 ∷ []) (number 4 ∷ []) ∷ item.Signal 3 4 (number 1) ∷ item.Load 4 5 0 (Read 3) ∷ item.Load 6 6 1 (Read 4) ∷ item.Load 8 7 2 (Read 6) ∷ item.Element 8 true [] (item.Shown 10 (Read 8) ∷ []) ∷ [];
}

-- with the keys that have arrived
abbrev pub chain_held : Option Code → Option Code → Option Code → Held
chain_held x y z = record { holdings = nothing ∷ nothing ∷ nothing ∷ value (number 1) ∷ arrived x ∷ nothing ∷ arrived y ∷ nothing ∷ arrived z ∷ nothing ∷ nothing ∷ []; live = true ∷ [] }
