use Rattle.std.proofs.Common.{◌≡◌, true}
use Rattle.still_rows.specs.Clock.{IsClock}
use Rattle.still_effects.proofs.tests.clock_at.Given as goal

abbrev pub invariant-loop : goal.invariant-loop
invariant-loop l = record { is_clock : IsClock l.clock; phase : l.clock.in_phase ≡ true }
