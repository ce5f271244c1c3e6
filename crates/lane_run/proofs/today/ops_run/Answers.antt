use Rattle.std.proofs.Common.{◌≡◌, slice_get, Some, arith}
use Rattle.std.proofs.lemmas.Option.{slice_get_within}
use Rattle.lane_run.specs.Lanes.{first_ops}
use Rattle.lane_run.proofs.Steps.{op_found}
use Rattle.lane_run.proofs.today.ops_run.Goals as goal

pub loop-before-preserved : goal.loop-before-preserved
loop-before-preserved c =
    let ops = first_ops c.args.script.now c.args.phase in
    let at : slice_get ops c.loop-before.before ≡ Some c.in-Some._op.now = op_found c.args.script.now c.args.phase c.loop-before.before (Some c.in-Some._op.now) c.in-Some.ensures in
    let within = slice_get_within ops c.loop-before.before c.in-Some._op.now at in
    omega arith
