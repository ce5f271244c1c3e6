use Rattle.std.proofs.Common.{◌≡◌, List, ℕ, drop}
use Rattle.component_items.specs.Around.{items_listed}
use Rattle.component_items.specs.Own.{place, owner_among}
use Rattle.component_items.proofs.around.+owner.Given as goal

abbrev pub invariant-owner_among-loop-item : goal.invariant-owner_among-loop-item
invariant-owner_among-loop-item l = (areas : List ℕ) → owner_among l.id (items_listed l.items (place l.owner areas)) ≡ owner_among l.id (items_listed (drop l.item-index l.items) (place l.owner areas))
