use Rattle.std.proofs.Common.{◌==◌, arith}
use Rattle.std.proofs.lemmas.Bool.Decides.{nat_tests}
use Rattle.std.proofs.lemmas.Grind.{common_steps}
use Rattle.component_scope.proofs.Places.{position-push}
use Rattle.component_scope.proofs.fields.Fields.push.Goals as goal

pub invariant_of-self-in_default : goal.invariant_of-self-in_default
invariant_of-self-in_default c =
    λ name. grind (arith, common_steps, c.self.invariant name, c.self.invariant c.args.name, position-push (λ field. field == name) c.self.inside.names.items c.args.name)
