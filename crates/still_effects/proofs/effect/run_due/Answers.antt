use Rattle.std.proofs.Common.{◌≡◌, ℕ, inr, ap, ◌∙◌, sym, subst, arith}
use Rattle.values.specs.declared.plan.Fact.TheVariants.{Ran, Void}
use Rattle.still_rows.specs.declared.clock.Clock.{Clock}
use Rattle.still_rows.specs.Clock.{IsClock, now_of}
use Rattle.still_rows.specs.Works.{IsStill}
use Rattle.still_rows.proofs.WorksLemmas.{stepped_same}
use Rattle.still_rows.proofs.FreshLemmas.{any_err}
use Rattle.still_effects.specs.Effects.{IsRunUnder}
use Rattle.still_effects.proofs.EndLemmas.{filled_still, entries_after}
use Rattle.still_effects.proofs.effect.run_due.Goals as goal

pub returns-in_err-code-clause-stopped : goal.returns-in_err-code-clause-stopped
returns-in_err-code-clause-stopped c =
    let b = entries_after c.args.clock.now c.tick.new.self c.run_under.new.clock (Void c.args.frame.node) (Void c.args.frame.node) c.requires.still.ticks c.requires.phase c.in_ok-version.ensures.ticked c.in_err-code.ensures.stepped.since.entries in
    any_err c.from_residual-in_err-code.result (inr record {
      found_rows = c.args.rows.now;
      found_readers = c.args.readers.now;
      found_clock = c.args.clock.now;
      found = stepped_same _ _ _ _ c.requires.still;
      drawn = c.tick.new.self;
      ticked = c.in_ok-version.ensures.ticked;
      stepped = c.in_err-code.ensures.stepped;
      later = b.0;
      entries = b.1;
      left = c.in_err-code.ensures.left;
    })

pub returns-clause-ended : goal.returns-clause-ended
returns-clause-ended c =
    let t = c.in_ok-version.ensures.ticked in
    let a = t.base in let b = t.drawn in let v = c.in_ok-version.ensures.version in
    let same : c.in_ok-version.version ≡ now_of c.tick.new.self = omega arith in
    let run = c.in_ok-code.ensures.run in
    let is = c.fill.ensures.filled in
    let d = entries_after c.args.clock.now c.tick.new.self c.run_under.new.clock (Void c.args.frame.node) (Ran c.args.frame.node c.in_ok-code.code) c.requires.still.ticks c.requires.phase t run.stepped.since.entries in
    record {
      found_rows = c.args.rows.now;
      found_readers = c.args.readers.now;
      found_clock = c.args.clock.now;
      found = stepped_same _ _ _ _ c.requires.still;
      drawn = c.tick.new.self;
      ticked = t;
      noted = c.run_under.new.clock;
      run = subst (λ (w : ℕ). IsRunUnder c.args.nodes.now c.args.rows.now c.run_under.new.rows c.args.readers.now c.run_under.new.readers c.tick.new.self c.run_under.new.clock c.args.frame.node c.in_ok-code.code w) same run;
      after_is = is;
      later = d.0;
      held = d.1;
      entries = ap (λ (q : Clock). q.entries.list) is ∙ d.2;
      still = subst (λ (q : Clock). IsStill c.args.nodes.now c.run_under.new.rows c.run_under.new.readers q) (sym is)
          (filled_still c.args.nodes.now c.run_under.new.rows c.run_under.new.readers c.run_under.new.clock c.args.clock.now.drawn (Ran c.args.frame.node c.in_ok-code.code) run.still (subst (λ (q : Clock). IsClock q) is c.fill.ensures.clock));
    }
