use Rattle.std.proofs.Common.{◌≡◌, true}
use Rattle.still_rows.specs.Works.{IsStill, IsWorkOf}
use Rattle.still_effects.proofs.tests.play.Given as goal

abbrev pub invariant-loop-at : goal.invariant-loop-at
invariant-loop-at l = record { still : IsStill l.nodes l.rows l.readers l.clock; fits : IsWorkOf l.nodes l.work; phase : l.clock.in_phase ≡ true }
