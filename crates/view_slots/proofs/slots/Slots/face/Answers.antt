use Rattle.std.proofs.Common.{◌<◌, List, length, subst, ◌∙◌}
use Rattle.view_slots.specs.declared.slot.Slot.{Slot}
use Rattle.view_slots.specs.Home.{IsOutside}
use Rattle.view_slots.proofs.PlainLemmas.{face_found, face_none}
use Rattle.view_slots.proofs.slots.Slots.face.Goals as goal

pub returns-in-Some : goal.returns-in-Some
returns-in-Some c = face_found c.self.inside.base c.self.inside.slots.items c.args.self.now c.self.view_is c.args.id c.in-Some.at c.index.result.now c.in-Some.ensures.at.0 (subst (λ (slots : List Slot). c.in-Some.at < length slots) c.as_slice.ensures.value c.in-Some.ensures.at.1) c.index.ensures

pub returns-in-None : goal.returns-in-None
returns-in-None c = c.blank.ensures ∙ face_none c.self.inside.base c.self.inside.slots.items c.args.self.now c.self.view_is c.args.id (subst (λ (slots : List Slot). IsOutside c.args.id c.self.inside.base (length slots)) c.as_slice.ensures.value c.in-None.ensures.none)
