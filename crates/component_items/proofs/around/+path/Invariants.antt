use Rattle.std.proofs.Common.{◌≡◌, ℕ, drop}
use Rattle.component_items.specs.Around.{items_listed}
use Rattle.component_items.specs.Own.{place, path_among}
use Rattle.component_items.proofs.around.+path.Given as goal

abbrev pub invariant-path_among-loop-item : goal.invariant-path_among-loop-item
invariant-path_among-loop-item l = (l.path.items ≡ l.initial.path.items) × ((owner : ℕ) → path_among l.id (items_listed l.items (place owner l.initial.path.items)) ≡ path_among l.id (items_listed (drop l.item-index l.items) (place owner l.initial.path.items)))
