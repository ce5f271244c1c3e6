use Rattle.std.proofs.Common.{arith}
use Rattle.std.proofs.lemmas.Grind.{common_steps}
use Rattle.script_names.proofs.Places.{place-push}
use Rattle.script_names.proofs.names.Names.declare.Goals as goal

pub invariant_of-self-in_default : goal.invariant_of-self-in_default
invariant_of-self-in_default c = λ owner name.
    let noted = c.in_default.ensures.noted in
    let more = place-push owner name c.self.inside.declared.items (record { owner = c.args.owner; name = c.args.name; what = c.args.what }) in
    grind (arith, common_steps, c.self.invariant owner name, noted, more)
