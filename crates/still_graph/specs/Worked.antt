-- A component for the worked run.
use Rattle.std.specs.Prelude.{List, [], ◌∷◌, pos}
use Rattle.values.specs.declared.code.Code.TheVariants.{Number}
use Rattle.values.specs.declared.expr.Expr.TheVariants.{Read}
use Rattle.component_items.specs.declared.component.Item.{Item}
use Rattle.component_items.specs.declared.component.Item.TheVariants as item

abbrev pub doubled : List Item
doubled = item.Signal 0 1 (Number (pos 1)) ∷ item.Memo 1 2 (Read 0) ∷ []
