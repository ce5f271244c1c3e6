use Rattle.std.proofs.Common.{subst, sym}
use Rattle.std.specs.Map.{values_of}
use Rattle.store_fields.specs.Edits.{IsStore}
use Rattle.store_fields.proofs.RowLemmas.{all_keep}
use Rattle.store_fields.proofs.rows.Rows.fold.Goals as goal

pub invariant_of-self-2 : goal.invariant_of-self-2
invariant_of-self-2 c = (
  c.edit_all.ensures.paired,
  subst (IsStore c.self.inside.max c.self.inside.width) (sym c.edit_all.ensures.rows) (all_keep _ _ _ c.in_ok-ops.ops.items (subst (λ es. IsStore c.self.inside.max c.self.inside.width (values_of es)) (sym c.in_ok-reserve.ensures.entries) c.self.invariant.1)),
)
