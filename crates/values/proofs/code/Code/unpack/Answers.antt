use Rattle.std.proofs.Common.{arith}
use Rattle.std.proofs.lemmas.Grind.{common_steps}
use Rattle.std.proofs.lemmas.Int.{to_z-of_z}
use Rattle.values.specs.Packing.{unpacked}
use Rattle.values.proofs.code.Code.unpack.Goals as goal

pub returns-in-0-clause-value : goal.returns-in-0-clause-value
unfolding unpacked
returns-in-0-clause-value c = grind (arith, common_steps)

pub returns-in-1-clause-value : goal.returns-in-1-clause-value
unfolding unpacked
returns-in-1-clause-value c = grind (arith, to_z-of_z, common_steps)

pub returns-in-2-clause-value : goal.returns-in-2-clause-value
unfolding unpacked
returns-in-2-clause-value c = grind (arith, common_steps)
