-- The cleanups that stand among items.
use Rattle.std.specs.Prelude.{ℕ, List}
use Rattle.std.specs.List.{flat_map}
use Rattle.component_items.specs.declared.component.Item.{Item}
use Rattle.plan_meaning.specs.Owners.{item_owning}

abbrev pub cleanups_in : List Item → List ℕ
cleanups_in items = flat_map (λ item. (item_owning item).cleanups) items
