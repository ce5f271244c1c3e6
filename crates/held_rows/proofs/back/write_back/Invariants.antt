use Rattle.std.proofs.Common.{◌≡◌}
use Rattle.sources.specs.Rows.{value_in}
use Rattle.held_state.specs.State.{with_held}
use Rattle.held_rows.specs.Shown.{holding_shown}
use Rattle.held_rows.proofs.Upto.{upto}
use Rattle.held_rows.proofs.back.write_back.Given as goal

abbrev pub invariant-loop-id : goal.invariant-loop-id
invariant-loop-id l = l.held ≡ with_held l.initial.held (record l.initial.held.held { holdings = upto (holding_shown l.names (value_in l.rows)) 0 l.id l.initial.held.held.holdings })
