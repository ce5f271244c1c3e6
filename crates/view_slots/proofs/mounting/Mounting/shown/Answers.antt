use Rattle.view_slots.specs.Plain.{cell_meant}
use Rattle.view_slots.specs.Seen.{seen_by}
use Rattle.view_slots.proofs.PlainLemmas.{slot_shown, none_shown}
use Rattle.view_slots.proofs.mounting.Mounting.shown.Goals as goal

pub returns-in-Some : goal.returns-in-Some
returns-in-Some c = slot_shown (seen_by c.args.self.now.sight.now) c.args.self.now.key c.args.self.now.base c.args.slots.now c.args.id c.in-Some.at _ c.with_cell.result c.in-Some.ensures.at.0 c.in-Some.ensures.at.1 (cell_meant c.again.result) c.with_cell.ensures c.look-found.result.code c.look-found.result.version c.again.ensures c.look-found.ensures.code c.look-found.ensures.version

pub returns-in_default : goal.returns-in_default
returns-in_default c = none_shown (seen_by c.args.self.now.sight.now) c.args.self.now.key c.args.self.now.base c.args.slots.now c.args.id c.in_default.ensures.none
