-- A component with two loads, where the key of the second reads the first.
use Rattle.std.specs.Prelude.{List, [], ◌∷◌, pos}
use Rattle.values.specs.declared.code.Code.TheVariants.{Number}
use Rattle.values.specs.declared.expr.Expr.TheVariants.{Read}
use Rattle.component_items.specs.declared.component.Item.{Item}
use Rattle.component_items.specs.declared.component.Item.TheVariants as item

abbrev pub two_loads : List Item
two_loads = item.Signal 0 1 (Number (pos 1)) ∷ item.Resource 1 2 1 (Number (pos 1) ∷ []) (Number (pos 7) ∷ []) ∷ item.Load 2 3 1 (Read 0) ∷ item.Load 4 4 1 (Read 2) ∷ []
