use Rattle.std.proofs.Common.{◌∙◌, refl, arith}
use Rattle.still_readers.proofs.MarkingLemmas.{taken, met_taken, spread_out, darkened_same, darkened_more}
use Rattle.still_readers.proofs.marking.spread.Goals as goal

pub loop-now-init : goal.loop-now-init
loop-now-init c = record { spreading = (0, c.requires.spreading); met = c.requires.met; darkened = darkened_same c.args.rows.now; others = (λ i none. refl) }

pub mark_readers-requires-clause-now : goal.mark_readers-requires-clause-now
mark_readers-requires-clause-now c = (met_taken c.args.readers.now c.args.signal c.in-Some.now _ c.pop.new.self.list c.in-Some.ensures.list c.loop-now.invariant.met).1

pub mark_readers-requires-clause-met : goal.mark_readers-requires-clause-met
mark_readers-requires-clause-met c = (met_taken c.args.readers.now c.args.signal c.in-Some.now _ c.pop.new.self.list c.in-Some.ensures.list c.loop-now.invariant.met).0

pub mark_readers-requires-clause-within : goal.mark_readers-requires-clause-within
mark_readers-requires-clause-within c =
    let s = c.loop-now.invariant.spreading in
    (taken c.args.nodes.now c.loop-now.rows c.args.readers.now c.loop-now.marking record { todo = c.pop.new.self; seen = c.loop-now.marking.seen } c.args.signal s.0 c.in-Some.now s.1 c.in-Some.ensures.list c.in-Some.ensures.room refl).1

pub mark_readers-requires-clause-spreading : goal.mark_readers-requires-clause-spreading
mark_readers-requires-clause-spreading c =
    let s = c.loop-now.invariant.spreading in
    (taken c.args.nodes.now c.loop-now.rows c.args.readers.now c.loop-now.marking record { todo = c.pop.new.self; seen = c.loop-now.marking.seen } c.args.signal s.0 c.in-Some.now s.1 c.in-Some.ensures.list c.in-Some.ensures.room refl).0

pub loop-now-preserved : goal.loop-now-preserved
loop-now-preserved c = let e = c.mark_readers.ensures in record {
  spreading = (c.in-Some.now, e.spreading);
  met = e.met;
  darkened = darkened_more c.args.rows.now c.loop-now.rows c.mark_readers.new.rows c.loop-now.invariant.darkened e.darkened;
  others = (λ i none. e.others i none ∙ c.loop-now.invariant.others i none);
}

pub loop-now-smaller : goal.loop-now-smaller
loop-now-smaller c =
    let s = c.loop-now.invariant.spreading in
    let less = (taken c.args.nodes.now c.loop-now.rows c.args.readers.now c.loop-now.marking record { todo = c.pop.new.self; seen = c.loop-now.marking.seen } c.args.signal s.0 c.in-Some.now s.1 c.in-Some.ensures.list c.in-Some.ensures.room refl).2 in
    let e = c.mark_readers.ensures.less in
    omega arith

pub returns-clause-spreading : goal.returns-clause-spreading
returns-clause-spreading c =
    let s = c.loop-now.invariant.spreading in
    let e = c.in_default.ensures in
    spread_out c.args.nodes.now c.loop-now.rows c.args.readers.now c.loop-now.marking record { todo = c.pop.new.self; seen = c.loop-now.marking.seen } c.args.signal s.0 s.1 e.list.0 e.room refl
