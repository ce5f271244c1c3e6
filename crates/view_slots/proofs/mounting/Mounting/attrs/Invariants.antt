use Rattle.std.proofs.Common.{◌≡◌, map, take}
use Rattle.view_meaning.specs.Parts.{attr_part}
use Rattle.view_slots.specs.Home.{mounted_with}
use Rattle.view_slots.specs.Plain.{all_sides}
use Rattle.view_slots.specs.Seen.{seen_by}
use Rattle.view_slots.proofs.mounting.Mounting.attrs.Given as goal

abbrev pub invariant-loop-attr : goal.invariant-loop-attr
invariant-loop-attr l = all_sides l.slots ≡ mounted_with (seen_by l.self.sight.now) (map (attr_part l.self.key) (take l.attr-index l.attrs)) l.self.key l.self.base (all_sides l.fn.slots)
