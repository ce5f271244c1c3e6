use Rattle.std.proofs.Common.{Some, sym, ap, ◌∙◌}
use Rattle.std.proofs.lemmas.Option.{slice_get-get_or}
use Rattle.view_meaning.specs.Parts.{attr_part}
use Rattle.view_slots.specs.Plain.{all_sides}
use Rattle.view_slots.specs.Seen.{seen_by}
use Rattle.view_slots.proofs.SlotLemmas.{mounted-none}
use Rattle.view_slots.proofs.WalkLemmas.{one_attr}
use Rattle.view_slots.proofs.mounting.Mounting.attrs.Goals as goal

pub loop-attr-init : goal.loop-attr-init
loop-attr-init c = sym (mounted-none (seen_by c.args.self.now.sight.now) c.args.self.now.key c.args.self.now.base (all_sides c.args.slots.now))

pub loop-attr-preserved : goal.loop-attr-preserved
loop-attr-preserved c = one_attr (seen_by c.args.self.now.sight.now) c.args.self.now.key c.args.self.now.base (attr_part c.args.self.now.key) c.args.attrs.now c.loop-attr.attr-index c.attr-item.result (all_sides c.args.slots.now) (all_sides c.loop-attr.slots) (all_sides c.attr.new.slots) (slice_get-get_or c.args.attrs.now c.loop-attr.attr-index c.attr-item.result c.loop-attr-test.true ∙ ap Some (sym c.attr-item.is)) c.loop-attr.invariant c.attr.ensures
