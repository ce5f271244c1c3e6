use Rattle.std.proofs.Common.{arith}
use Rattle.component_tokens.proofs.declarations.has_field.Goals as goal

pub returns-in-Some : goal.returns-in-Some
returns-in-Some c = rw (c.in-Some.is, ← c.draft.view_is) (grind (arith, c.place.ensures.place))
