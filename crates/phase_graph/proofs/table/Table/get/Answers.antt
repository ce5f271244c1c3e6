use Rattle.phase_graph.proofs.Steps.{get_dead}
use Rattle.phase_graph.proofs.table.Table.get.Goals as goal

pub returns-in-Some-clause-call : goal.returns-in-Some-clause-call
returns-in-Some-clause-call c = λ pass. get_dead c.args.self.now pass c.args.node c.in-Some.owner c.in-Some.ensures.dead
