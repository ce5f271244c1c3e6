use Rattle.std.proofs.Common.{◌≡◌, ◌<◌, ℕ, List, [], ◌∷◌, Option, ap, ◌∙◌, arith}
use Rattle.std.specs.Prelude.{unwrap_or}
use Rattle.std.proofs.lemmas.Result.{on_ok_weaker}
use Rattle.script_items.specs.declared.operation.ScriptOp.{ScriptOp}
use Rattle.script_items.specs.Script.{lanes_of}
use Rattle.lane_run.specs.Lanes.{HasDone, first_ops, lanes_at}
use Rattle.lane_run.proofs.Steps.{no_lanes_done, one_lane_done, no_lanes_at, one_lane_at}
use Rattle.lane_run.proofs.lanes.run_lanes.Goals as goal

pub returns-then-lanes-eq0 : goal.returns-then-lanes-eq0
returns-then-lanes-eq0 g c =
    let count : c.unwrap_or-lanes.result ≡ unwrap_or (lanes_of c.args.script.now c.args.phase) 0 = c.unwrap_or-lanes.ensures ∙ ap (λ (r : Option ℕ). unwrap_or r 0) c.lanes.ensures.count in
    no_lanes_done c.args.phase (lanes_at c.args.script.now c.args.phase) c.args.still.now c.args.answers.now c.requires.fresh.edits (no_lanes_at c.args.script.now c.args.phase c.unwrap_or-lanes.result count c.if-lanes-eq0.true)

pub returns : goal.returns
returns g c =
    let count : c.unwrap_or-lanes.result ≡ unwrap_or (lanes_of c.args.script.now c.args.phase) 0 = c.unwrap_or-lanes.ensures ∙ ap (λ (r : Option ℕ). unwrap_or r 0) c.lanes.ensures.count in
    let some : 0 < c.unwrap_or-lanes.result = omega (arith, c.if-lanes-eq0.false) in
    let ops : List ScriptOp = first_ops c.args.script.now c.args.phase in
    let asked : List (List ScriptOp) = lanes_at c.args.script.now c.args.phase in
    let one : asked ≡ ops ∷ [] = one_lane_at c.args.script.now c.args.phase c.unwrap_or-lanes.result count some c.requires.today.one in
    on_ok_weaker {P = HasDone c.args.phase ops c.args.still.now c.run_lane.new.still c.args.answers.now c.run_lane.new.answers} c.run_lane.result
    (λ has. one_lane_done c.args.phase ops asked c.args.still.now c.run_lane.new.still c.args.answers.now c.run_lane.new.answers c.lanes_make_all_calls.ensures c.requires.fresh.edits has one) c.run_lane.ensures
