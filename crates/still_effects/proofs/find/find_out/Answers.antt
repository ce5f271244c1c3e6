use Rattle.std.proofs.Common.{ℕ, sym, subst, ap, ◌∙◌, Option}
use Rattle.work_order.specs.declared.frame.Frame.{Frame}
use Rattle.still_rows.specs.Frames.{IsFrame}
use Rattle.still_rows.proofs.WorksLemmas.{stepped_same, stepped_more}
use Rattle.still_rows.proofs.FreshLemmas.{any_err}
use Rattle.still_effects.specs.Effects.{SearchedAs, IsSame}
use Rattle.still_effects.proofs.EffectLemmas.{clean_same, first_stands, same_more}
use Rattle.still_effects.proofs.find.find_out.Goals as goal

pub returns-then-is_clean-clause-found : goal.returns-then-is_clean-clause-found
returns-then-is_clean-clause-found c = clean_same _ _ _ _ c.args.node c.row_at-row.result.now c.requires.effect c.requires.still c.row_at-row.ensures (sym c.is_clean.ensures ∙ c.if-is_clean.true)

pub loop-rows-init : goal.loop-rows-init
loop-rows-init c = record {
  fits = c.requires.work;
  stepped = stepped_same _ _ _ _ c.requires.still;
  frame = subst (λ (f : Frame). IsFrame c.args.nodes.now c.args.rows.now f) (sym c.new-frame.ensures) (first_stands _ _ c.args.node c.row_at-row.result.now c.requires.effect c.row_at-row.ensures (sym c.is_clean.ensures ∙ c.if-is_clean.false));
  node = ap (λ (f : Frame). f.node) c.new-frame.ensures;
}

pub loop-rows-preserved : goal.loop-rows-preserved
loop-rows-preserved c =
    let t = subst (λ (q : Option Frame). SearchedAs c.args.nodes.now c.loop-rows.rows c.step.new.rows c.loop-rows.readers c.step.new.readers c.loop-rows.clock c.step.new.clock c.loop-rows.frame q) c.in-Some.is c.in_ok-next.ensures.searched in
    record {
      fits = c.step.ensures.work;
      stepped = stepped_more _ _ c.loop-rows.rows _ _ c.loop-rows.readers _ _ c.loop-rows.clock _ c.loop-rows.invariant.stepped t.0;
      frame = t.1;
      node = t.2 ∙ c.loop-rows.invariant.node;
    }

pub loop-rows-smaller : goal.loop-rows-smaller
loop-rows-smaller c =
    let t = subst (λ (q : Option Frame). SearchedAs c.args.nodes.now c.loop-rows.rows c.step.new.rows c.loop-rows.readers c.step.new.readers c.loop-rows.clock c.step.new.clock c.loop-rows.frame q) c.in-Some.is c.in_ok-next.ensures.searched in
    t.3

pub returns-in-None-clause-found : goal.returns-in-None-clause-found
returns-in-None-clause-found c =
    let t = subst (λ (q : Option Frame). SearchedAs c.args.nodes.now c.loop-rows.rows c.step.new.rows c.loop-rows.readers c.step.new.readers c.loop-rows.clock c.step.new.clock c.loop-rows.frame q) c.in-None.is c.in_ok-next.ensures.searched in
    subst (λ (i : ℕ). IsSame c.args.nodes.now c.args.rows.now c.step.new.rows c.args.readers.now c.step.new.readers c.args.clock.now c.step.new.clock i) c.loop-rows.invariant.node
    (same_more _ _ c.loop-rows.rows _ _ c.loop-rows.readers _ _ c.loop-rows.clock _ c.loop-rows.frame.node c.loop-rows.invariant.stepped t)

pub returns-in_err-next-clause-stepped : goal.returns-in_err-next-clause-stepped
returns-in_err-next-clause-stepped c = any_err c.from_residual.result (stepped_more _ _ c.loop-rows.rows _ _ c.loop-rows.readers _ _ c.loop-rows.clock _ c.loop-rows.invariant.stepped c.in_err-next.ensures.stepped)
