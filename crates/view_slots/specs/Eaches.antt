-- Where an `each` stands among items, with the items of its rows.
use Rattle.std.specs.Prelude.{ℕ, Bool, List, ◌∷◌}
use Rattle.values.specs.declared.expr.Expr.{Expr}
use Rattle.component_items.specs.declared.component.Attr.{Attr}
use Rattle.component_items.specs.declared.component.Item.{Item}
use Rattle.component_items.specs.declared.component.Item.TheVariants.{Area, If, Each, Element}

pub record EachOf : Type 0 where
  pub id : ℕ
  pub store : ℕ
  pub items : List Item

-- It is one of these items, or stands in an area, `if` or element among them. In an `each` there is no other.
pub data StandsIn (e : EachOf) : List Item → Type 0 where
  here : (more : List Item) → StandsIn e (Each e.id e.store e.items ∷ more)
  later : (item : Item) (more : List Item) → StandsIn e more → StandsIn e (item ∷ more)
  in_area : (id name owner : ℕ) (items more : List Item) → StandsIn e items → StandsIn e (Area id name owner items ∷ more)
  in_if : (id : ℕ) (cond : Expr) (items more : List Item) → StandsIn e items → StandsIn e (If id cond items ∷ more)
  in_element : (tag : ℕ) (closed : Bool) (attrs : List Attr) (items more : List Item) → StandsIn e items → StandsIn e (Element tag closed attrs items ∷ more)
