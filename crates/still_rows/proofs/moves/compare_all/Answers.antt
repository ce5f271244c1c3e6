use Rattle.still_readers.proofs.Lists.{at_within}
use Rattle.still_rows.proofs.LedLemmas.{led_start, led_compare, source_within}
use Rattle.still_rows.proofs.moves.compare_all.Goals as goal

pub loop-read-init : goal.loop-read-init
loop-read-init c = record { led = led_start _ _ _ _ c.requires.frame; begun = c.requires.begun }

pub row_at-source-requires : goal.row_at-source-requires
row_at-source-requires c = source_within _ _ _ _ c.args.frame c.loop-read.frame c.in-Some.read c.requires.good c.requires.node c.requires.row c.loop-read.invariant.led c.in-Some.ensures.some.1

pub looked-frame-requires : goal.looked-frame-requires
looked-frame-requires c = at_within c.args.row.now.body.reads.list c.loop-read.frame.at c.in-Some.read c.in-Some.ensures.some.1

pub loop-read-preserved : goal.loop-read-preserved
loop-read-preserved c =
    let i = c.loop-read.invariant in
    let s = c.in-Some.ensures.some in
    let k = led_compare c.args._nodes.now c.args.rows.now c.args._node.now c.args.row.now c.args.frame c.loop-read.frame c.looked-frame.result c.in-Some.read c.row_at-source.result.now c.requires.good c.requires.node c.requires.row i.led c.requires.dirty i.begun s.0 s.1 c.row_at-source.ensures (c.looked-frame.ensures c.in-Some.read s.1) in
    record { led = k.0; begun = k.2 }

pub loop-read-smaller : goal.loop-read-smaller
loop-read-smaller c =
    let i = c.loop-read.invariant in
    let s = c.in-Some.ensures.some in
    (led_compare c.args._nodes.now c.args.rows.now c.args._node.now c.args.row.now c.args.frame c.loop-read.frame c.looked-frame.result c.in-Some.read c.row_at-source.result.now c.requires.good c.requires.node c.requires.row i.led c.requires.dirty i.begun s.0 s.1 c.row_at-source.ensures (c.looked-frame.ensures c.in-Some.read s.1)).1

pub returns-clause-all : goal.returns-clause-all
returns-clause-all c = c.in_default.ensures.none
