use Rattle.std.proofs.Common.{◌≡◌, map}
use Rattle.plain_evaluation.specs.Held.{nothing}
use Rattle.plain_evaluation.specs.Killed.{with_each}
use Rattle.held_state.specs.Seen.{holding_seen, numbers_from}
use Rattle.held_state.proofs.holding.empty_all.Given as goal

abbrev pub invariant-loop-id : goal.invariant-loop-id
invariant-loop-id l = with_each nothing (numbers_from l.id l.past) (map holding_seen l.holdings) ≡ with_each nothing (numbers_from l.first l.past) (map holding_seen l.initial.holdings)
