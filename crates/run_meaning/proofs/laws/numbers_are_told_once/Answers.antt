use Rattle.std.proofs.Common.{arith}
use Rattle.run_meaning.proofs.Bounds.{at_most_once}
use Rattle.run_meaning.proofs.laws.numbers_are_told_once.Goals as goal

pub returns : goal.returns
returns c p journal once n = let l = at_most_once 0 n p.entries journal.in_order in let e = once n in omega arith
