-- The pairs of resources, as values by id and key.
use Rattle.std.specs.Prelude.{ℕ, List, [], ◌∷◌}
use Rattle.std.specs.List.{zip}
use Rattle.values.specs.declared.code.Code.{Code}
use Rattle.component_items.specs.declared.component.Item.{Item}
use Rattle.component_items.specs.declared.component.Item.TheOpen as level
use Rattle.component_items.specs.declared.component.Item.TheOpen.{Item-F}
use Rattle.component_items.specs.declared.component.Item.TheViews.{out-Item}
use Rattle.plain_evaluation.specs.Place.{of_row}
use Rattle.plain_evaluation.specs.Scratch.{Values, with_value, no_values}

-- the pairs of the resource with the id, the first before the others
abbrev pub with_pairs : ℕ → List (Code × Code) → Values → Values
with_pairs id [] values = values
with_pairs id (pair ∷ pairs) values = with_value (of_row id pair.0) pair.1 (with_pairs id pairs values)

abbrev pub with_resource : Item-F Item → Values → Values
with_resource (level.Resource id name after keys codes) values = with_pairs id (zip keys codes) values
with_resource (level.Signal id name start) values = values
with_resource (level.Memo id name expr) values = values
with_resource (level.Effect id name expr) values = values
with_resource (level.Load id name resource key) values = values
with_resource (level.Store id name max fields starts) values = values
with_resource (level.Cleanup text) values = values
with_resource (level.Area id name owner items) values = values
with_resource (level.If id cond items) values = values
with_resource (level.Each id store items) values = values
with_resource (level.Element tag closed attrs items) values = values
with_resource (level.Text text) values = values
with_resource (level.Shown id expr) values = values

abbrev pub pairs_of : List Item → Values
pairs_of [] = no_values
pairs_of (item ∷ items) = with_resource (out-Item item) (pairs_of items)
