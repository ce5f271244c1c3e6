-- What the text says of a row, by the id of its place.
use Rattle.std.specs.Prelude.{ℕ, Option, Some, None}
use Rattle.values.specs.declared.plan.Kind.{Kind}
use Rattle.values.specs.declared.plan.Kind.TheVariants as kind
use Rattle.component_items.specs.declared.component.Component.{Component}
use Rattle.plain_evaluation.specs.Origins.{Told, nothing_told, source, loads, derives, origin_in}

abbrev pub kind_told : Told → Option Kind
kind_told nothing_told = None
kind_told (source kind) = Some kind
kind_told (loads pairs) = Some kind.Load
kind_told (derives kind expr) = Some kind

-- the kind of the nodes of an id, if it has nodes
abbrev pub kind_of_id : Component → ℕ → Option Kind
kind_of_id component id = kind_told (origin_in component id).told

-- the innermost area around an id, as an owner
abbrev pub owner_of_id : Component → ℕ → ℕ
owner_of_id component id = (origin_in component id).around.owner

-- the store with a row of which an id has a value each, if there is one: that of a field, or of the `each` around it
abbrev pub store_of_id : Component → ℕ → Option ℕ
store_of_id component id = (origin_in component id).around.store
