use Rattle.std.proofs.Common.{◌≡◌, length}
use Rattle.component_scope.specs.Scope.{oldest}
use Rattle.component_scope.proofs.scope.Scope.keep.Given as goal

abbrev pub invariant-loop-self : goal.invariant-loop-self
invariant-loop-self l = oldest l.len l.self ≡ oldest l.len l.initial.self

abbrev pub decreases-loop-self : goal.decreases-loop-self
decreases-loop-self l = length l.self
