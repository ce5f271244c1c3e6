use Rattle.std.proofs.Common.{◌≡◌, take}
use Rattle.held_state.proofs.holding.copies.Given as goal

abbrev pub invariant-loop-holding : goal.invariant-loop-holding
invariant-loop-holding l = l.copied.items ≡ take l.holding-index l.holdings
