use Rattle.std.proofs.Common.{◌≡◌, map, take}
use Rattle.plain_evaluation.specs.Held.{value_held}
use Rattle.plain_evaluation.specs.Place.{Place}
use Rattle.settled_rows.proofs.first.codes_of.Given as goal

abbrev pub invariant-loop-row : goal.invariant-loop-row
invariant-loop-row l = l.codes.items ≡ map (λ (p : Place). value_held l.held.held p.id) (take l.row l.names)
