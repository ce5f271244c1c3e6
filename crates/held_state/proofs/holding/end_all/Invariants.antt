use Rattle.std.proofs.Common.{◌≡◌, false}
use Rattle.plain_evaluation.specs.Killed.{with_each}
use Rattle.held_state.specs.Seen.{numbers_from}
use Rattle.held_state.proofs.holding.end_all.Given as goal

abbrev pub invariant-loop-owner : goal.invariant-loop-owner
invariant-loop-owner l = with_each false (numbers_from l.owner l.past) l.live ≡ with_each false (numbers_from l.first l.past) l.initial.live
