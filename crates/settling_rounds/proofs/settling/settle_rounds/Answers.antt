use Rattle.std.proofs.Common.{◌<◌, ◌≤◌, length, ◌∙◌, arith}
use Rattle.std.proofs.lemmas.Bool.{OnTrue_at, OnTrue_from}
use Rattle.load_meaning.specs.Polls.{enough_rounds}
use Rattle.settling_rounds.proofs.Rounds.{some_left, counted_once, counted_more, promptly_more, all_come}
use Rattle.settling_rounds.proofs.Settlings.{settles_more}
use Rattle.settling_rounds.proofs.settling.settle_rounds.Goals as goal

pub loop-round-init : goal.loop-round-init
loop-round-init g c =
    let once = c.in_ok-pending.ensures in
    (once.settles, once.pending, counted_once c.in_ok-pending.pending _ _ _ _ once.counted, once.prompt, omega (arith, c.settle_once.ensures.ticks))

pub loop-round-preserved : goal.loop-round-preserved
loop-round-preserved g c =
    let raised = c.settle_once-in-loop-round.ensures.ticks in
    let before = c.loop-round.invariant.4 in
    let once = c.in_ok-pending-2.ensures in
    let some : 0 < length c.loop-round.pending = some_left c.loop-round.pending c.if-is_empty.ensures.1 in (
      settles_more c.args.still.now c.loop-round.still c.settle_once-in-loop-round.new.still c.loop-round.invariant.0 once.settles,
      once.pending,
      counted_more c.loop-round._round c.loop-round.pending c.in_ok-pending-2.pending _ _ _ _ _ _ (omega arith) some c.loop-round.invariant.2 once.counted,
      OnTrue_from g.L.Loader.is_prompt _ (λ e. promptly_more c.loop-round._round c.args.still.now c.loop-round.still c.settle_once-in-loop-round.new.still c.loop-round.invariant.0.component c.loop-round.invariant.0.stage (OnTrue_at e c.loop-round.invariant.3) (OnTrue_at e once.prompt)),
      omega (arith, raised, before),
    )

pub returns-clause-prompt : goal.returns-clause-prompt
returns-clause-prompt g c =
    OnTrue_from g.L.Loader.is_prompt _ (λ e enough.
    let l : enough_rounds c.args.still.now.component ≤ c.loop-round._round = omega (arith, enough) in
    c.loop-round.invariant.1 ∙ all_come c.loop-round._round c.args.still.now c.loop-round.still c.enough_rounds_bring_all.ensures c.component-kept.ensures.kept c.loop-round.invariant.0.component (omega arith) (OnTrue_at e c.loop-round.invariant.3) l)
