use Rattle.std.proofs.Common.{◌≡◌, ◌≤◌, ◌+◌, ◌∙◌, ℕ, Option, None, Some, refl, ap, subst, length, get_or, arith}
use Rattle.still_readers.specs.Readers.{bound_of}
use Rattle.still_readers.proofs.MarkingLemmas.{last_at, last_here, last_low, spreading_last, darkened_same, darkened_more}
use Rattle.still_readers.proofs.marking.mark_readers.Goals as goal

pub loop-at-init : goal.loop-at-init
loop-at-init c =
    let is = c.requires.spreading in
    let o : Option ℕ = get_or c.as_slice.result.now c.args.now None in
    let at = last_at c.args.readers.now.last c.as_slice.result.now c.args.now c.as_slice.ensures (let r = is.of_plan.rows in let w = c.requires.within in omega arith) in
    let last = is.of_plan.chained.last_of c.args.now o at in
    record {
      within = last_low c.args.readers.now.list c.args.now _ o last;
      last = last_here c.args.readers.now.list c.args.now _ o last;
      spreading = spreading_last c.args.nodes.now c.args.rows.now c.args.readers.now c.args.marking.now c.args.signal c.args.now _ o last is;
      met = c.requires.met;
      darkened = darkened_same c.args.rows.now;
      others = (λ i none. refl);
      less = omega arith;
    }

pub mark-at-requires-clause-within : goal.mark-at-requires-clause-within
mark-at-requires-clause-within c =
    let a : bound_of (Some c.in-Some.place) ≤ length c.args.readers.now.list = subst (λ (o : Option ℕ). bound_of o ≤ length c.args.readers.now.list) c.in-Some.is c.loop-at.invariant.within in
    omega arith

pub loop-at-preserved : goal.loop-at-preserved
loop-at-preserved c =
    let e = c.mark-at.ensures in
    let i = c.loop-at.invariant in
    let list = c.args.readers.now.list in
    let low = last_low list c.args.now c.in-Some.place c.mark-at.result e.last in
    let a : bound_of (Some c.in-Some.place) ≤ length c.args.readers.now.list = subst (λ (o : Option ℕ). bound_of o ≤ length c.args.readers.now.list) c.in-Some.is i.within in
    record {
      within = omega arith;
      last = last_here list c.args.now c.in-Some.place c.mark-at.result e.last;
      spreading = spreading_last _ _ c.args.readers.now _ _ c.args.now c.in-Some.place c.mark-at.result e.last e.spreading;
      met = e.met;
      darkened = darkened_more c.args.rows.now c.loop-at.rows c.mark-at.new.rows i.darkened e.darkened;
      others = (λ n none. e.others n none ∙ i.others n none);
      less = (let x = e.less in let y = i.less in omega arith);
    }

pub loop-at-smaller : goal.loop-at-smaller
loop-at-smaller c =
    let e = c.mark-at.ensures in
    let low = last_low c.args.readers.now.list c.args.now c.in-Some.place c.mark-at.result e.last in
    let a : bound_of c.loop-at.at ≡ c.in-Some.place + 1 = ap bound_of c.in-Some.is in
    omega arith
