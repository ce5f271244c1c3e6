use Rattle.std.proofs.Common.{◌≤◌, List, length, refl, subst, arith}
use Rattle.std.specs.List.{All}
use Rattle.std.proofs.lemmas.List.{take_all}
use Rattle.script_items.specs.declared.operation.ScriptOp.{ScriptOp}
use Rattle.lane_run.specs.Today.{LanesRun}
use Rattle.lane_run.proofs.Asked.{one_more_phase}
use Rattle.script_run.proofs.today.runs_today.Goals as goal

pub loop-before-preserved : goal.loop-before-preserved
loop-before-preserved c =
    one_more_phase LanesRun c.args.script.now c.loop-before.before (omega (arith, c.phases-before-end.ensures.count)) c.loop-before.invariant (c.if-not-lanes_run.ensures.0 refl)

pub returns : goal.returns
returns c =
    let l : length c.args.script.now ≤ c.loop-before.before = omega (arith, c.phases-before-end.ensures.count) in
    let all : All LanesRun c.args.script.now = subst (λ (xs : List (List (List ScriptOp))). All LanesRun xs) (take_all c.loop-before.before c.args.script.now l) c.loop-before.invariant in
    (λ _. record { phases = all }, λ _. refl)
