use Rattle.view_slots.proofs.PlainLemmas.{blank_is}
use Rattle.view_slots.proofs.slots.Slots.new.Goals as goal

pub returns : goal.returns
returns c = blank_is c.args.base c.args.count c.blank.result c.in_ok-slots.slots.items c.blank.ensures (c.in_ok-slots.ensures.items_if_clones_equal (λ y is. is))
