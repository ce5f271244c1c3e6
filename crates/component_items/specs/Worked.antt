-- A worked component.
use Rattle.std.specs.Prelude.{List, [], ◌∷◌, true, pos}
use Rattle.values.specs.declared.code.Code.TheVariants.{Empty, Number}
use Rattle.values.specs.declared.expr.Expr.TheVariants.{Read}
use Rattle.component_items.specs.declared.component.Attr.TheVariants as attr
use Rattle.component_items.specs.declared.component.Item.{Item}
use Rattle.component_items.specs.declared.component.Item.TheVariants as item

-- a store, and an area with a load
abbrev pub in_area : List Item
in_area = item.Store 4 7 3 (8 ∷ 9 ∷ []) (Empty ∷ Number (pos 1) ∷ []) ∷ item.Area 8 10 2 (item.Load 9 11 1 (Read 0) ∷ []) ∷ []

-- an element with a shown attribute, around an area with those
abbrev pub element : Item
element = item.Element 3 true (attr.Bare 4 ∷ attr.Shown 5 2 (Read 0) ∷ []) (item.Area 3 6 1 in_area ∷ item.Text 0 ∷ [])

-- a signal, a resource, and that element
abbrev pub items : List Item
items = item.Signal 0 1 Empty ∷ item.Resource 1 2 0 [] [] ∷ element ∷ []
