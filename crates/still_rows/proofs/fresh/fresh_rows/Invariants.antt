use Rattle.still_rows.specs.Fresh.{AreFreshRows}
use Rattle.still_rows.proofs.fresh.fresh_rows.Given as goal

abbrev pub invariant-loop-node : goal.invariant-loop-node
invariant-loop-node l = AreFreshRows l.nodes l.node-index l.rows.items
