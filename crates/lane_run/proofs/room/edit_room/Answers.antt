use Rattle.std.proofs.Common.{◌≡◌, ◌≤◌, length, slice_get, Some, None, ap, ◌∙◌, arith}
use Rattle.std.proofs.lemmas.List.{take_all}
use Rattle.lane_run.specs.Lanes.{first_ops, room_for}
use Rattle.lane_run.proofs.Asked.{first_run}
use Rattle.lane_run.proofs.EditRoom.{room_more}
use Rattle.lane_run.proofs.Steps.{op_found, none_at}
use Rattle.lane_run.proofs.room.edit_room.Goals as goal

pub loop-before-preserved : goal.loop-before-preserved
loop-before-preserved c =
    let ops = first_ops c.args.script.now c.args.phase in
    let at : slice_get ops c.loop-before.before ≡ Some c.in-Some.op.now = op_found c.args.script.now c.args.phase c.loop-before.before (Some c.in-Some.op.now) c.in-Some.ensures in
    room_more ops c.loop-before.before c.in-Some.op.now c.loop-before.room c.room_with-room.result at c.loop-before.invariant c.room_with-room.ensures

pub returns-in-None : goal.returns-in-None
returns-in-None c =
    let ops = first_ops c.args.script.now c.args.phase in
    let none : slice_get ops c.loop-before.before ≡ None = op_found c.args.script.now c.args.phase c.loop-before.before None c.in-None.ensures in
    c.loop-before.invariant ∙ ap room_for (take_all c.loop-before.before ops (none_at ops c.loop-before.before none))

pub returns : goal.returns
returns c =
    let ops = first_ops c.args.script.now c.args.phase in
    let few = (first_run c.args.script.now c.args.phase c.requires).few in
    let l : length ops ≤ c.loop-before.before = omega arith in
    c.loop-before.invariant ∙ ap room_for (take_all c.loop-before.before ops l)
