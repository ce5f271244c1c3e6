use Rattle.std.proofs.Common.{◌≡◌, take}
use Rattle.values.specs.Reserved.{room_of}
use Rattle.values.proofs.reserved.Reserved.copy_from.Given as goal

abbrev pub invariant-loop-item : goal.invariant-loop-item
invariant-loop-item g l = record {
  list : l.self.list ≡ take l.item-index l.from;
  room : room_of l.self ≡ room_of l.initial.self;
}
