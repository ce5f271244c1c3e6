-- Words for worked rows.
use Rattle.std.specs.Prelude.{ℕ, List}
use Rattle.component_items.specs.declared.component.Item.{Item}
use Rattle.component_items.specs.declared.refusal.Refusal.TheVariants.{Bad}
use Rattle.component_items.specs.declared.refusal.Why.{Why}
use Rattle.component_meaning.specs.Component.{IsComponent, IsNoComponent}

-- the bytes are refused, for this reason at this line and column
abbrev pub RefusedAt : List ℕ → Why → ℕ → ℕ → Type 0
RefusedAt bytes why line column = IsNoComponent bytes (Bad why (record { line = line; column = column }))

-- the bytes are the text of the component with these texts and items
abbrev pub MeansItems : List ℕ → List (List ℕ) → List Item → Type 0
MeansItems bytes texts items = IsComponent bytes (record { texts = texts; items = items })
