-- What the reader answers in place of a component.
use Rattle.std.specs.Prelude.{ℕ, List}
use Rattle.component_items.specs.declared.refusal.Refusal.{Refusal}
use Rattle.component_items.specs.declared.refusal.Refusal.TheVariants.{Bad, NoMemory}
use Rattle.component_meaning.specs.Component.{IsNoComponent}

-- why the bytes are the text of no component, or that memory could not be had
abbrev pub IsNoComponentOr : List ℕ → Refusal → Type 0
IsNoComponentOr bytes NoMemory = Unit {0}
IsNoComponentOr bytes (Bad why place) = IsNoComponent bytes (Bad why place)
