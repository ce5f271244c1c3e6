use Rattle.std.proofs.Common.{arith}
use Rattle.std.proofs.lemmas.Grind.{common_steps}
use Rattle.std.proofs.lemmas.Int.{to_z-of_z}
use Rattle.values.specs.Packing.{unpacked}
use Rattle.values.proofs.code.Code.from_packed.Goals as goal

pub returns-in-1 : goal.returns-in-1
unfolding unpacked
returns-in-1 c = grind (arith, to_z-of_z, common_steps)

pub returns-in-2 : goal.returns-in-2
unfolding unpacked
returns-in-2 c = grind (arith, common_steps)

pub returns-in_default : goal.returns-in_default
unfolding unpacked
returns-in_default c = grind (arith, common_steps)
