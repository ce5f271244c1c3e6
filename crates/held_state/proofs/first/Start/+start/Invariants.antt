use Rattle.std.proofs.Common.{◌≡◌, drop}
use Rattle.component_items.specs.Ids.{ids_in, owners_in}
use Rattle.held_state.specs.Built.{with_items, AreNext}
use Rattle.held_state.specs.Start.{built}
use Rattle.held_state.proofs.first.Start.+start.Given as goal

abbrev pub invariant-items-loop-item : goal.invariant-items-loop-item
invariant-items-loop-item l = record {
  same : with_items (drop l.item-index l.items) (built l.self) ≡ with_items l.items (built l.initial.self);
  next : AreNext (built l.self) (ids_in (drop l.item-index l.items)) (owners_in (drop l.item-index l.items));
}
