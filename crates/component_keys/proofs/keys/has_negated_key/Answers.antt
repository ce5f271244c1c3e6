use Rattle.std.proofs.Common.{refl}
use Rattle.component_keys.proofs.NegatedKeys.{negated_key}
use Rattle.component_keys.proofs.keys.has_negated_key.Goals as goal

pub returns-in-Some : goal.returns-in-Some
returns-in-Some c = rw (negated_key, ← c.negated_next.ensures, c.in-Some.is, ← c.draft.view_is) c.contains.ensures

pub returns-in-None : goal.returns-in-None
returns-in-None c = rw (negated_key, ← c.negated_next.ensures, c.in-None.is) refl
