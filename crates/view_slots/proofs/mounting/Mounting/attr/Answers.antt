use Rattle.std.proofs.Common.{◌∷◌, [], sym, ap, ◌∙◌}
use Rattle.view_meaning.specs.Parts.{attr_part}
use Rattle.view_slots.specs.Home.{mounted_with}
use Rattle.view_slots.specs.Plain.{all_sides}
use Rattle.view_slots.specs.Seen.{seen_by}
use Rattle.view_slots.proofs.SlotLemmas.{mounted-none}
use Rattle.view_slots.proofs.mounting.Mounting.attr.Goals as goal

pub returns-in-Bare : goal.returns-in-Bare
returns-in-Bare c = sym (ap (λ a. mounted_with (seen_by c.args.self.now.sight.now) (attr_part c.args.self.now.key a ∷ []) c.args.self.now.key c.args.self.now.base (all_sides c.args.slots.now)) c.in-Bare.is ∙ mounted-none (seen_by c.args.self.now.sight.now) c.args.self.now.key c.args.self.now.base (all_sides c.args.slots.now))

pub returns-in-Fixed : goal.returns-in-Fixed
returns-in-Fixed c = sym (ap (λ a. mounted_with (seen_by c.args.self.now.sight.now) (attr_part c.args.self.now.key a ∷ []) c.args.self.now.key c.args.self.now.base (all_sides c.args.slots.now)) c.in-Fixed.is ∙ mounted-none (seen_by c.args.self.now.sight.now) c.args.self.now.key c.args.self.now.base (all_sides c.args.slots.now))
