use Rattle.std.proofs.Common.{sym, arith}
use Rattle.script_draft.proofs.LastLanes.{some_lane, no_lane}
use Rattle.script_draft.proofs.phases.add_op.Goals as goal

pub returns-then-lanes-eq0 : goal.returns-then-lanes-eq0
returns-then-lanes-eq0 c = sym (no_lane c.args.op c.args.script.now (omega arith))

pub add-requires : goal.add-requires
add-requires c = some_lane c.args.script.now (omega arith)
