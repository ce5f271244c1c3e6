use Rattle.view_slots.specs.Seen.{seen_by}
use Rattle.view_slots.proofs.PlainLemmas.{slot_area, none_area}
use Rattle.view_slots.proofs.mounting.Mounting.area.Goals as goal

pub returns-in-Some : goal.returns-in-Some
returns-in-Some c = slot_area (seen_by c.args.self.now.sight.now) c.args.self.now.key c.args.self.now.base c.args.slots.now c.args.id c.in-Some.at _ c.opened.result c.in-Some.ensures.at.0 c.in-Some.ensures.at.1 c.opened.ensures

pub returns-in_default : goal.returns-in_default
returns-in_default c = none_area (seen_by c.args.self.now.sight.now) c.args.self.now.key c.args.self.now.base c.args.slots.now c.args.id c.in_default.ensures.none
