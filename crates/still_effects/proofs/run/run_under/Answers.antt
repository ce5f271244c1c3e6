use Rattle.std.proofs.Common.{subst, Option}
use Rattle.values.specs.declared.code.Code.{Code}
use Rattle.still_rows.proofs.WorksLemmas.{stepped_more}
use Rattle.still_rows.proofs.FreshLemmas.{any_err}
use Rattle.still_effects.specs.Effects.{TurnedAs}
use Rattle.still_effects.proofs.EffectLemmas.{due_stepped, under_more}
use Rattle.still_effects.proofs.run.run_under.Goals as goal

pub turn-requires-clause-due : goal.turn-requires-clause-due
turn-requires-clause-due c = due_stepped _ c.args.rows.now _ c.args.readers.now c.loop-code.readers c.args.clock.now c.loop-code.clock c.args.frame c.requires.effect c.loop-code.invariant.stepped c.requires.due

pub loop-code-preserved : goal.loop-code-preserved
loop-code-preserved c =
    let t = subst (λ (q : Option Code). TurnedAs c.args.nodes.now c.loop-code.rows c.turn.new.rows c.loop-code.readers c.turn.new.readers c.loop-code.clock c.turn.new.clock c.args.frame.node c.args.version q) c.in-None.is c.in_ok-code.ensures.turned in
    record {
      fits = c.turn.ensures.work;
      stepped = stepped_more _ _ c.loop-code.rows _ _ c.loop-code.readers _ _ c.loop-code.clock _ c.loop-code.invariant.stepped t.0;
    }

pub loop-code-smaller : goal.loop-code-smaller
loop-code-smaller c =
    let t = subst (λ (q : Option Code). TurnedAs c.args.nodes.now c.loop-code.rows c.turn.new.rows c.loop-code.readers c.turn.new.readers c.loop-code.clock c.turn.new.clock c.args.frame.node c.args.version q) c.in-None.is c.in_ok-code.ensures.turned in
    t.1

pub returns-in-Some-clause-run : goal.returns-in-Some-clause-run
returns-in-Some-clause-run c =
    let t = subst (λ (q : Option Code). TurnedAs c.args.nodes.now c.loop-code.rows c.turn.new.rows c.loop-code.readers c.turn.new.readers c.loop-code.clock c.turn.new.clock c.args.frame.node c.args.version q) c.in-Some.is c.in_ok-code.ensures.turned in
    under_more _ _ c.loop-code.rows _ _ c.loop-code.readers _ _ c.loop-code.clock _ c.args.frame.node c.in-Some.code c.args.version c.loop-code.invariant.stepped t

pub returns-in_err-code-clause-stepped : goal.returns-in_err-code-clause-stepped
returns-in_err-code-clause-stepped c = any_err c.from_residual.result (stepped_more _ _ c.loop-code.rows _ _ c.loop-code.readers _ _ c.loop-code.clock _ c.loop-code.invariant.stepped c.in_err-code.ensures.stepped)
