use Rattle.std.proofs.Common.{ℕ, List}
use Rattle.token_reader.specs.Reading.{Settles}
use Rattle.token_reader.specs.Effort.{effort}
use Rattle.token_reader.proofs.reader.settle.Given as goal

abbrev pub invariant-loop-symbol : goal.invariant-loop-symbol
invariant-loop-symbol g l = (bytes : List ℕ) → Settles g.S.TextState.rules bytes l.token l.fn.stack l.fn.state l.stack l.state

abbrev pub decreases-loop-symbol : goal.decreases-loop-symbol
decreases-loop-symbol g l = effort g.S.TextState.rules l.stack
