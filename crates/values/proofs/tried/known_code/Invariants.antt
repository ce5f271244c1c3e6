use Rattle.std.proofs.Common.{◌≡◌, drop}
use Rattle.values.specs.Attempt.{known_value}
use Rattle.values.proofs.tried.known_code.Given as goal

abbrev pub invariant-loop-entry : goal.invariant-loop-entry
invariant-loop-entry l = known_value (drop l.entry-index l.known) l.row ≡ known_value l.known l.row
