use Rattle.component_items.proofs.Longer.{kept_more, table_after}
use Rattle.component_items.proofs.component.Component.add_text.Goals as goal

pub invariant_of-self : goal.invariant_of-self
invariant_of-self c = kept_more _ _ _ (table_after c.add.result _ _ _ c.add.ensures.table c.add.ensures.unchanged) c.self.invariant
