use Rattle.std.proofs.Common.{◌≡◌, ◌++◌, vec_len}
use Rattle.token_reader.specs.Pending.{joined}
use Rattle.token_reader.proofs.pending.Pending.pop.Given as goal

abbrev pub invariant-loop-self : goal.invariant-loop-self
invariant-loop-self g l = l.self-inside.front.now ++ joined l.self-inside.behind.items ≡ l.fn.self

abbrev pub decreases-loop-self : goal.decreases-loop-self
decreases-loop-self g l = vec_len l.self-inside.behind
