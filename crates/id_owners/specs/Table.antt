-- The owner of each id, by number.
use Rattle.std.specs.Prelude.{ℕ, List, [], None, map, length}
use Rattle.std.specs.List.{range_with_len}
use Rattle.component_items.specs.declared.component.Component.{Component}
use Rattle.component_items.specs.declared.component.Item.{Item}
use Rattle.component_items.specs.Ids.{ids_in}
use Rattle.plain_evaluation.specs.Origins.{Around, Origin, tell_item, tell_items}
use Rattle.plan_meaning.specs.Told.{owner_of_id}

-- one for each id that the component takes
abbrev pub owners_by_id : Component → List ℕ
owners_by_id component = map (owner_of_id component) (range_with_len 0 (length (ids_in component.items)))

-- ---- the same, in text order

abbrev pub owners_told : List (ℕ × Origin) → List ℕ
owners_told told = map (λ p. p.1.around.owner) told

-- directly in the area with this owner
abbrev pub in_owner : ℕ → Around
in_owner owner = record { owner = owner; store = None }

-- the owner of each id that an item takes, where this is the innermost area around it
abbrev pub item_owned : Item → ℕ → List ℕ
item_owned item owner = owners_told (tell_item (λ resource. []) item (in_owner owner))

abbrev pub items_owned : List Item → ℕ → List ℕ
items_owned items owner = owners_told (tell_items (λ resource. []) items (in_owner owner))
