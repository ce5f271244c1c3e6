use Rattle.std.proofs.Common.{subst, sym}
use Rattle.store_fields.specs.Edits.{IsStore}
use Rattle.store_fields.proofs.RowLemmas.{moved_keeps, rows_of}
use Rattle.store_fields.proofs.rows.Rows.place.Goals as goal

pub invariant_of-self : goal.invariant_of-self
invariant_of-self c = (
  c.place.ensures.paired,
  subst (IsStore c.self.inside.max c.self.inside.width) (sym (rows_of _ _ _ c.place.ensures.edit)) (moved_keeps _ _ _ c.args.key c.args.place c.self.invariant.1),
)
