use Rattle.store_fields.proofs.RowLemmas.{edit_or_none_keeps}
use Rattle.store_fields.proofs.rows.Rows.edit.Goals as goal

pub invariant_of-self : goal.invariant_of-self
invariant_of-self c = (
  c.edit.ensures.paired,
  edit_or_none_keeps _ _ _ _ c.args.op c.edit.result c.edit.ensures.edit c.edit.ensures.err c.self.invariant.1,
)
