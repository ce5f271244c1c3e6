use Rattle.std.proofs.Common.{arith}
use Rattle.run_rows.proofs.wrong.writes.Goals as goal

pub returns-clause-twice : goal.returns-clause-twice
returns-clause-twice c h = omega (arith, h 2)
