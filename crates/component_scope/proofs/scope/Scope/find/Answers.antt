use Rattle.std.proofs.Common.{◌≡◌, ◌==◌, None, arith}
use Rattle.std.proofs.lemmas.Grind.{common_steps}
use Rattle.component_scope.proofs.Places.{found_at, none_found}
use Rattle.component_scope.proofs.scope.Scope.find.Goals as goal

pub returns-in_err-place : goal.returns-in_err-place
returns-in_err-place c = grind (arith, common_steps, c.self.invariant.0 c.args.name, none_found c.args.name c.self.inside.seen)

pub returns-in_err-place-2 : goal.returns-in_err-place-2
returns-in_err-place-2 c = grind (arith, common_steps, c.self.invariant.0 c.args.name, none_found c.args.name c.self.inside.seen)

pub returns : goal.returns
returns c = grind (arith, common_steps, c.self.invariant.0 c.args.name, found_at c.args.name c.as_slice.result.now c.self.inside.seen)
