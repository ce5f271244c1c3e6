use Rattle.std.proofs.Common.{arith, length-drop}
use Rattle.std.proofs.lemmas.List.{take_rest}
use Rattle.outside.proofs.ByteLemmas.{Appends-more}
use Rattle.html_out.proofs.transfer.put.Goals as goal

pub loop-written-preserved : goal.loop-written-preserved
loop-written-preserved g c =
    let bytes = c.args.bytes.now in
    let written = c.loop-written.written in
    record {
      within = let bound = rw take_rest at c.in_ok-written.ensures.bound in omega (arith, bound, length-drop written bytes);
      appended = Appends-more _ _ _ bytes written _ c.loop-written.invariant.appended (rw take_rest at c.in_ok-written.ensures.appended);
      counted = omega (arith, c.in_ok-written.ensures.counted);
    }
