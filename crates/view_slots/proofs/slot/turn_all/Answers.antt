use Rattle.view_slots.specs.Home.{turned}
use Rattle.view_slots.specs.Plain.{sides_of}
use Rattle.view_slots.proofs.SlotLemmas.{map-map}
use Rattle.view_slots.proofs.slot.turn_all.Goals as goal

pub loop-slot-init : goal.loop-slot-init
loop-slot-init c = map-map turned sides_of c.args.slots.now
