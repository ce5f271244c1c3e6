use Rattle.std.proofs.Common.{◌≡◌, take}
use Rattle.next_layout.proofs.making.live_flags.Given as goal

abbrev pub invariant-loop-owner : goal.invariant-loop-owner
invariant-loop-owner l = l.live.items ≡ take l.owner l.held.held.live
