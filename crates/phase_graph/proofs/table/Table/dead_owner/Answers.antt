use Rattle.std.proofs.Common.{true, false}
use Rattle.phase_graph.proofs.Tables.{has_owner}
use Rattle.phase_graph.proofs.table.Table.dead_owner.Goals as goal

pub returns-then-index-clause-live : goal.returns-then-index-clause-live
returns-then-index-clause-live c = (_, has_owner c.args.self.now c.requires.table c.as_slice.result.now c.as_slice.ensures c.args.row c.requires.row c.index-as_slice-row.result c.index.result.now true c.index.ensures c.if-index.true)

pub returns-else-index-clause-dead : goal.returns-else-index-clause-dead
returns-else-index-clause-dead c = has_owner c.args.self.now c.requires.table c.as_slice.result.now c.as_slice.ensures c.args.row c.requires.row c.index-as_slice-row.result c.index.result.now false c.index.ensures c.if-index.false
