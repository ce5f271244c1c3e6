use Rattle.view_slots.specs.Home.{undone}
use Rattle.view_slots.specs.Plain.{sides_of}
use Rattle.view_slots.proofs.SlotLemmas.{map-map}
use Rattle.view_slots.proofs.slot.undo_all.Goals as goal

pub loop-slot-init : goal.loop-slot-init
loop-slot-init c = map-map undone sides_of c.args.slots.now
