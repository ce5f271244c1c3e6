use Rattle.std.proofs.Common.{ℕ, IfOk, OnErr, subst, ◌∙◌}
use Rattle.still_effects.specs.declared.effect.Effect.{Effect}
use Rattle.still_effects.specs.declared.effect.Effect.TheVariants as end
use Rattle.still_effects.specs.declared.find.Found.{Found}
use Rattle.still_effects.specs.Effects.{FoundAs, EndedAs, FullAs}
use Rattle.still_effects.proofs.EndLemmas.{ended_more, full_more, if_ok_as, if_ok_on, on_err_as, ended_values, ended_others, ended_have, ended_clock, ended_clean, ended_spent, whole_still, whole_values, whole_others, whole_have, whole_clock, full_unrun, full_unclean, full_short}
use Rattle.still_effects.proofs.EffectLemmas.{due_unclean}
use Rattle.still_effects.proofs.effect.run_effect.Goals as goal

pub returns-in-Same : goal.returns-in-Same
returns-in-Same c =
    let h = subst (λ (q : Found). FoundAs c.args.nodes.now c.args.rows.now c.find_out.new.rows c.args.readers.now c.find_out.new.readers c.args.clock.now c.find_out.new.clock c.args.node q) c.in-Same.is c.in_ok-find_out.ensures.found in
    record {
      work = c.find_out.ensures.work;
      still = h.still;
      ended = h;
      stopped = tt;
      clean = ended_clean _ c.args.rows.now c.find_out.new.rows c.args.readers.now c.find_out.new.readers c.args.clock.now c.find_out.new.clock c.args.node c.requires.effect end.Same h;
      unclean = tt;
      unrun = tt;
      values = ended_values _ c.args.rows.now c.find_out.new.rows c.args.readers.now c.find_out.new.readers c.args.clock.now c.find_out.new.clock c.args.node c.requires.effect end.Same h;
      effects = ended_others _ c.args.rows.now c.find_out.new.rows c.args.readers.now c.find_out.new.readers c.args.clock.now c.find_out.new.clock c.args.node c.requires.effect end.Same h;
      have_read = ended_have _ c.args.rows.now c.find_out.new.rows c.args.readers.now c.find_out.new.readers c.args.clock.now c.find_out.new.clock c.args.node c.requires.effect end.Same h;
      base = (ended_clock _ c.args.rows.now c.find_out.new.rows c.args.readers.now c.find_out.new.readers c.args.clock.now c.find_out.new.clock c.args.node c.requires.effect end.Same h).0;
      phase = (ended_clock _ c.args.rows.now c.find_out.new.rows c.args.readers.now c.find_out.new.readers c.args.clock.now c.find_out.new.clock c.args.node c.requires.effect end.Same h).1 ∙ c.requires.phase;
      spent = ended_spent _ c.args.rows.now c.find_out.new.rows c.args.readers.now c.find_out.new.readers c.args.clock.now c.find_out.new.clock c.args.node c.requires.effect end.Same h;
      short = tt;
      full = tt;
    }

pub returns-in-Due : goal.returns-in-Due
returns-in-Due c =
    let t = subst (λ (q : Found). FoundAs c.args.nodes.now c.args.rows.now c.find_out.new.rows c.args.readers.now c.find_out.new.readers c.args.clock.now c.find_out.new.clock c.args.node q) c.in-Due.is c.in_ok-find_out.ensures.found in
    let r = c.run_due.result in
    let h : IfOk r (λ (e : Effect). EndedAs c.args.nodes.now c.args.rows.now c.run_due.new.rows c.args.readers.now c.run_due.new.readers c.args.clock.now c.run_due.new.clock c.args.node e) =
    if_ok_as r (λ e x. ended_more _ c.args.rows.now c.find_out.new.rows c.run_due.new.rows c.args.readers.now c.find_out.new.readers c.run_due.new.readers c.args.clock.now c.find_out.new.clock c.run_due.new.clock c.args.node t.0 e
    (subst (λ (i : ℕ). EndedAs c.args.nodes.now c.find_out.new.rows c.run_due.new.rows c.find_out.new.readers c.run_due.new.readers c.find_out.new.clock c.run_due.new.clock i e) t.1.node x)) c.run_due.ensures.ended in
    let k : OnErr r (FullAs c.args.nodes.now c.args.rows.now c.run_due.new.rows c.args.readers.now c.run_due.new.readers c.args.clock.now c.run_due.new.clock c.args.node) =
    on_err_as r (λ x. full_more _ c.args.rows.now c.find_out.new.rows c.run_due.new.rows c.args.readers.now c.find_out.new.readers c.run_due.new.readers c.args.clock.now c.find_out.new.clock c.run_due.new.clock c.args.node t.0
    (subst (λ (i : ℕ). FullAs c.args.nodes.now c.find_out.new.rows c.run_due.new.rows c.find_out.new.readers c.run_due.new.readers c.find_out.new.clock c.run_due.new.clock i) t.1.node x)) c.run_due.ensures.stopped in
    record {
      work = c.run_due.ensures.work;
      still = whole_still _ c.args.rows.now c.run_due.new.rows c.args.readers.now c.run_due.new.readers c.args.clock.now c.run_due.new.clock c.args.node c.requires.effect r h k;
      ended = h;
      stopped = k;
      clean = if_ok_on r (λ e x. ended_clean _ c.args.rows.now c.run_due.new.rows c.args.readers.now c.run_due.new.readers c.args.clock.now c.run_due.new.clock c.args.node c.requires.effect e x) h;
      unclean = on_err_as r (λ x. full_unclean _ c.args.rows.now c.run_due.new.rows c.args.readers.now c.run_due.new.readers c.args.clock.now c.run_due.new.clock c.args.node c.requires.effect x
          (due_unclean _ c.args.rows.now c.find_out.new.rows c.args.readers.now c.find_out.new.readers c.args.clock.now c.find_out.new.clock c.args.node c.in-Due.frame c.requires.effect t.0 t.1)) k;
      unrun = on_err_as r (λ x. full_unrun _ c.args.rows.now c.run_due.new.rows c.args.readers.now c.run_due.new.readers c.args.clock.now c.run_due.new.clock c.args.node c.requires.effect x) k;
      values = whole_values _ c.args.rows.now c.run_due.new.rows c.args.readers.now c.run_due.new.readers c.args.clock.now c.run_due.new.clock c.args.node c.requires.effect r h k;
      effects = whole_others _ c.args.rows.now c.run_due.new.rows c.args.readers.now c.run_due.new.readers c.args.clock.now c.run_due.new.clock c.args.node c.requires.effect r h k;
      have_read = whole_have _ c.args.rows.now c.run_due.new.rows c.args.readers.now c.run_due.new.readers c.args.clock.now c.run_due.new.clock c.args.node c.requires.effect r h k;
      base = (whole_clock _ c.args.rows.now c.run_due.new.rows c.args.readers.now c.run_due.new.readers c.args.clock.now c.run_due.new.clock c.args.node c.requires.effect r h k).0;
      phase = (whole_clock _ c.args.rows.now c.run_due.new.rows c.args.readers.now c.run_due.new.readers c.args.clock.now c.run_due.new.clock c.args.node c.requires.effect r h k).1 ∙ c.requires.phase;
      spent = if_ok_on r (λ e x. ended_spent _ c.args.rows.now c.run_due.new.rows c.args.readers.now c.run_due.new.readers c.args.clock.now c.run_due.new.clock c.args.node c.requires.effect e x) h;
      short = on_err_as r (λ x. full_short _ c.args.rows.now c.run_due.new.rows c.args.readers.now c.run_due.new.readers c.args.clock.now c.run_due.new.clock c.args.node c.requires.effect x) k;
      full = c.run_due.ensures.full;
    }
