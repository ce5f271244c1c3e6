-- A worked component: resource user, signal id, load who = user(id), and area side with load mail = user(id)
use Rattle.std.specs.Prelude.{List, [], ◌∷◌}
use Rattle.values.specs.declared.code.Code.TheVariants as code
use Rattle.values.specs.declared.expr.Expr.TheVariants as expr
use Rattle.component_items.specs.declared.component.Item.{Item}
use Rattle.component_items.specs.declared.component.Item.TheVariants as item

abbrev pub two_loads : List Item
two_loads =
    item.Resource 0 1 0 [] []
    ∷ item.Signal 1 2 code.Empty
    ∷ item.Load 2 3 0 (expr.Read 1)
    ∷ item.Area 4 4 1 (item.Load 5 5 0 (expr.Read 1) ∷ [])
    ∷ []
