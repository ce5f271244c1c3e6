use Rattle.std.proofs.Common.{subst, sym}
use Rattle.store_fields.specs.Edits.{IsStore}
use Rattle.store_fields.proofs.RowLemmas.{removed_keeps, rows_of}
use Rattle.store_fields.proofs.rows.Rows.remove.Goals as goal

pub invariant_of-self : goal.invariant_of-self
invariant_of-self c = (
  c.remove.ensures.paired,
  subst (IsStore c.self.inside.max c.self.inside.width) (sym (rows_of _ _ _ c.remove.ensures.edit)) (removed_keeps _ _ _ c.args.key c.self.invariant.1),
)
