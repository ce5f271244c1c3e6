use Rattle.std.proofs.Common.{◌≡◌, take}
use Rattle.view_slots.specs.Home.{home_parts, mounted_with}
use Rattle.view_slots.specs.Plain.{all_sides}
use Rattle.view_slots.specs.Seen.{seen_by}
use Rattle.view_slots.proofs.mounting.Mounting.+mounting.Given as goal

abbrev pub invariant-items-loop-item : goal.invariant-items-loop-item
invariant-items-loop-item l = all_sides l.slots ≡ mounted_with (seen_by l.self.sight.now) (home_parts (seen_by l.self.sight.now).view (take l.item-index l.items) l.self.key) l.self.key l.self.base (all_sides l.fn.slots)
