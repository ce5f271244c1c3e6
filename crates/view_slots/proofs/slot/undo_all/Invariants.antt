use Rattle.std.proofs.Common.{◌≡◌, ◌++◌, map, take, drop}
use Rattle.view_slots.specs.Home.{undone}
use Rattle.view_slots.specs.Plain.{sides_of, all_sides}
use Rattle.view_slots.proofs.slot.undo_all.Given as goal

abbrev pub invariant-loop-slot : goal.invariant-loop-slot
invariant-loop-slot l = map sides_of (take l.slot-index l.slots) ++ map (λ s. undone (sides_of s)) (drop l.slot-index l.slots) ≡ map undone (all_sides l.fn.slots)
