use Rattle.std.proofs.Common.{◌≡◌, ◌≤◌, length, slice_get, Some, None, sym, ap, subst, arith}
use Rattle.component_items.specs.declared.component.Component.{Component}
use Rattle.script_items.specs.KeptFor.{NamesMembers}
use Rattle.script_items.specs.Members.{members_of}
use Rattle.lane_run.specs.Lanes.{first_ops}
use Rattle.still_graph.specs.Still.{StillState}
use Rattle.lane_run.proofs.EditRoom.{has_room}
use Rattle.lane_run.proofs.Lists.{all_at}
use Rattle.lane_run.proofs.Steps.{stays_open, op_found, none_done, one_more_done, all_done, none_at}
use Rattle.lane_run.proofs.lane.run_lane.Goals as goal

pub loop-before-init : goal.loop-before-init
loop-before-init g c = none_done c.args.phase c.args.still.now c.args.answers.now

pub returns-in-None : goal.returns-in-None
returns-in-None g c =
    let ops = first_ops c.args.script.now c.args.phase in
    let none : slice_get ops c.loop-before.before ≡ None = op_found c.args.script.now c.args.phase c.loop-before.before None c.in-None.ensures in
    all_done c.args.phase ops c.loop-before.before c.args.still.now c.loop-before.still c.args.answers.now c.loop-before.answers c.loop-before.invariant (none_at ops c.loop-before.before none)

pub run_op-requires-clause-open : goal.run_op-requires-clause-open
run_op-requires-clause-open g c κs within = stays_open c.args.still.now c.loop-before.still c.requires.open c.loop-before.invariant.same

pub run_op-requires-clause-named : goal.run_op-requires-clause-named
run_op-requires-clause-named g c κs within =
    let ops = first_ops c.args.script.now c.args.phase in
    let at : slice_get ops c.loop-before.before ≡ Some c.in-Some.op.now = op_found c.args.script.now c.args.phase c.loop-before.before (Some c.in-Some.op.now) c.in-Some.ensures in
    let same : c.loop-before.still.component ≡ c.args.still.now.component = ap (λ (x : StillState). x.component) c.loop-before.invariant.same.rest in
    subst (λ (component : Component). NamesMembers (members_of component.items) c.in-Some.op.now) (sym same) (all_at (NamesMembers (members_of c.args.still.now.component.items)) ops c.loop-before.before c.in-Some.op.now c.requires.named at)

pub run_op-requires-clause-room : goal.run_op-requires-clause-room
run_op-requires-clause-room g c κs within =
    let ops = first_ops c.args.script.now c.args.phase in
    let at : slice_get ops c.loop-before.before ≡ Some c.in-Some.op.now = op_found c.args.script.now c.args.phase c.loop-before.before (Some c.in-Some.op.now) c.in-Some.ensures in
    has_room c.args.still.now c.loop-before.still ops c.args.phase c.loop-before.before c.in-Some.op.now c.args.answers.now c.loop-before.answers c.requires.fresh c.loop-before.invariant at

pub loop-before-preserved : goal.loop-before-preserved
loop-before-preserved g c =
    let ops = first_ops c.args.script.now c.args.phase in
    let at : slice_get ops c.loop-before.before ≡ Some c.in-Some.op.now = op_found c.args.script.now c.args.phase c.loop-before.before (Some c.in-Some.op.now) c.in-Some.ensures in
    let made = c.in_ok-run_op-in-Some.ensures in
    one_more_done c.args.phase ops c.loop-before.before c.in-Some.op.now made.0 c.args.still.now c.loop-before.still c.run_op.new.still c.args.answers.now c.loop-before.answers c.run_op.new.answers c.loop-before.invariant at made.1 made.2 made.3

pub returns : goal.returns
returns g c =
    let ops = first_ops c.args.script.now c.args.phase in
    let few = c.requires.today.few in
    all_done c.args.phase ops c.loop-before.before c.args.still.now c.loop-before.still c.args.answers.now c.loop-before.answers c.loop-before.invariant (let l : length ops ≤ c.loop-before.before = omega arith in l)
