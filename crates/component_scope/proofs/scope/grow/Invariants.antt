use Rattle.std.proofs.Common.{◌≡◌, ℕ, ◌-◌, None, vec_len, get_or}
use Rattle.component_scope.proofs.scope.grow.Given as goal

abbrev pub invariant-loop-places : goal.invariant-loop-places
invariant-loop-places l = (name : ℕ) → get_or l.places.items name None ≡ get_or l.fn.places.items name None

abbrev pub decreases-loop-places : goal.decreases-loop-places
decreases-loop-places l = l.len - vec_len l.places
