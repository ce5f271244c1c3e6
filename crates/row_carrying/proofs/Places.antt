-- Rows of two layouts go each to a row of its own.
use Rattle.std.proofs.Common.{◌≡◌, List, length, Some, ap, ◌∙◌}
use Rattle.std.proofs.lemmas.Option.{slice_get_within}
use Rattle.plain_evaluation.specs.Place.{Place}
use Rattle.plan_meaning.specs.Carried.{AreApart, rows_to}
use Rattle.plan_meaning.specs.Layout.{row_of}
use Rattle.plan_meaning.proofs.Rows.{map_at, row_got}
use Rattle.row_carrying.specs.Target.{AreTargets}
use Rattle.row_carrying.proofs.Over.{one_at}

pub are_targets : (old new : List Place) → AreApart old → AreTargets (rows_to old new) (length new)
are_targets old new apart = record {
  within = λ row later is. (let p = map_at (row_of new) old row (Some later) is in slice_get_within new later p.0 (row_got new p.0 later p.2));
  apart = λ row other later is also. (
      let p = map_at (row_of new) old row (Some later) is in
      let q = map_at (row_of new) old other (Some later) also in
      let same : p.0 ≡ q.0 = one_at p.0 q.0 (row_got new p.0 later p.2) (row_got new q.0 later q.2) in
      one_at row other (apart row p.0 p.1) (ap (λ (x : Place). row_of old x) same ∙ apart other q.0 q.1));
}
