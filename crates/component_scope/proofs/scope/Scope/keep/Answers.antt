use Rattle.std.proofs.Common.{arith}
use Rattle.std.proofs.lemmas.Grind.{common_steps}
use Rattle.component_scope.proofs.Places.{oldest-rest}
use Rattle.component_scope.proofs.scope.Scope.keep.Goals as goal

pub loop-self-preserved : goal.loop-self-preserved
loop-self-preserved c = grind (arith, common_steps, oldest-rest c.args.len c.loop-self.self)
