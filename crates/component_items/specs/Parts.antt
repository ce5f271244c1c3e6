-- What a component is made of.
use Rattle.std.specs.Prelude.{ℕ, List}
use Rattle.component_items.specs.declared.component.Item.{Item}

-- the bytes of its texts, in order of number, and its items, in text order
pub record Parts : Type 0 where
  pub texts : List (List ℕ)
  pub items : List Item
