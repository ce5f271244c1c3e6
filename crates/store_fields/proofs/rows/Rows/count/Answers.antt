use Rattle.std.proofs.Common.{subst, ap}
use Rattle.std.specs.List.{IsDistinct}
use Rattle.values.specs.Evaluation.{is_same}
use Rattle.store_fields.specs.Edits.{keys}
use Rattle.store_fields.proofs.RowLemmas.{distinct_keys}
use Rattle.store_fields.proofs.rows.Rows.count.Goals as goal

pub returns-clause-distinct : goal.returns-clause-distinct
returns-clause-distinct c =
    subst (λ rows. IsDistinct is_same (keys rows)) (ap (λ s. s.rows) c.self.view_is) (distinct_keys _ c.self.invariant.0 c.len.ensures.unique)
