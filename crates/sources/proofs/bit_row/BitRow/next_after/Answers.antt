use Rattle.sources.proofs.BitLemmas.{rest_of}
use Rattle.sources.proofs.bit_row.BitRow.next_after.Goals as goal

pub returns-in-None-clause-rest : goal.returns-in-None-clause-rest
returns-in-None-clause-rest c =
    rw c.in-None.is (rest_of c.args.self.now 0 c.next_from.result c.next_from.ensures.some c.next_from.ensures.none)

pub returns-in-Some-clause-rest : goal.returns-in-Some-clause-rest
returns-in-Some-clause-rest c =
    rw c.in-Some.is (rest_of c.args.self.now _ c.next_from-in-Some.result c.next_from-in-Some.ensures.some c.next_from-in-Some.ensures.none)
