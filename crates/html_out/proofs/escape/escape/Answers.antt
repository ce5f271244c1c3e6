use Rattle.std.proofs.Common.{◌≡◌, ℕ, List, ◌+◌, ◌++◌, take, drop, slice_range, length, sym, ap, subst, ◌∙◌, append_assoc, arith}
use Rattle.outside.specs.Puts.{PutsAll, PutsPart}
use Rattle.outside.proofs.PutLemmas.{then_puts, then_part, then_all, at_err, same_all, same_puts}
use Rattle.html_out.specs.Shown.{escaped}
use Rattle.html_out.proofs.EscapeLemmas.{plain_more, plain_none, front_more, whole, rest_plain}
use Rattle.html_out.proofs.escape.escape.Goals as goal
use Rattle.html_out.proofs.escape.escape.Goals.{in-Some+in_ok-put_two, in_default}

pub returns-in_err-put_two : goal.returns-in_err-put_two
returns-in_err-put_two g c =
    let text = c.args.text.now in
    let turn = c.loop-i in
    let front = escaped c.args.in_value (take turn.plain text) in
    let next = slice_range text turn.plain turn.i ++ c.in-Some.escape.now in
    let rest = escaped c.args.in_value (drop (turn.i + 1) text) in
    let more = front_more c.args.in_value text turn.plain turn.i c.in-Some.escape.now turn.invariant.within c.loop-i-test.true turn.invariant.run c.in-Some.ensures in
    let all : front ++ (next ++ rest) ≡ escaped c.args.in_value text = sym (whole c.args.in_value text (front ++ next) (turn.i + 1) more ∙ append_assoc front next rest) in
    at_err _ _ _ _ _ _ c.from_residual.ensures.0 (subst (PutsPart _ _ _ _) all (then_part front next rest turn.invariant.written c.in_err-put_two.ensures))

pub loop-i-preserved : goal.loop-i-preserved
loop-i-preserved g c =
    let text = c.args.text.now in
    let turn = c.loop-i in
    let in_value = c.args.in_value in
    let moved_sink : (bytes : List ℕ) (s t : g.row.K.Denot) → t ≡ s → PutsAll (g.K.Sink.taken c.args.sink.now) (g.K.Sink.taken s) (g.K.Sink.faults c.args.sink.now) (g.K.Sink.faults s) bytes → PutsAll (g.K.Sink.taken c.args.sink.now) (g.K.Sink.taken t) (g.K.Sink.faults c.args.sink.now) (g.K.Sink.faults t) bytes = λ bytes s t e p. subst (λ z. PutsAll (g.K.Sink.taken c.args.sink.now) (g.K.Sink.taken z) (g.K.Sink.faults c.args.sink.now) (g.K.Sink.faults z) bytes) (sym e) p in
    elim c.match-escape_of.branch [
      | in-Some+in_ok-put_two w ↦
          let front = escaped in_value (take turn.plain text) in
          let next = slice_range text turn.plain turn.i ++ w.in-Some.escape.now in
          let more = front_more in_value text turn.plain turn.i w.in-Some.escape.now turn.invariant.within c.loop-i-test.true turn.invariant.run w.in-Some.ensures in
          let written = then_all front next turn.invariant.written w.in_ok-put_two.ensures in
          let at : front ++ next ≡ escaped in_value (take c.match-escape_of.plain text) = sym more ∙ ap (λ n. escaped in_value (take n text)) (sym w.plain-is) in
          record {
            within = omega (arith, w.plain-is);
            written = same_all (front ++ next) _ at (moved_sink (front ++ next) _ _ w.sink-is written);
            run = subst (λ n. escaped in_value (slice_range text n (turn.i + 1)) ≡ slice_range text n (turn.i + 1)) (sym w.plain-is) (plain_none in_value text (turn.i + 1));
          }
      | in_default w ↦ record {
        within = omega (arith, w.plain-is, turn.invariant.within);
        written = same_all (escaped in_value (take turn.plain text)) _ (ap (λ n. escaped in_value (take n text)) (sym w.plain-is)) (moved_sink (escaped in_value (take turn.plain text)) _ _ w.sink-is turn.invariant.written);
        run = subst (λ n. escaped in_value (slice_range text n (turn.i + 1)) ≡ slice_range text n (turn.i + 1)) (sym w.plain-is) (plain_more in_value text turn.plain turn.i turn.invariant.within c.loop-i-test.true turn.invariant.run w.in_default.ensures);
      }
    ]

pub returns : goal.returns
returns g c =
    let text = c.args.text.now in
    let turn = c.loop-i in
    let in_value = c.args.in_value in
    let front = escaped in_value (take turn.plain text) in
    let rest = slice_range text turn.plain (length text) in
    let all = rest_plain in_value text turn.plain turn.i c.loop-i-test.false (omega arith) turn.invariant.within turn.invariant.run in
    same_puts (g.K.Sink.taken c.args.sink.now) (g.K.Sink.taken c.put.new.sink) (g.K.Sink.faults c.args.sink.now) (g.K.Sink.faults c.put.new.sink) (front ++ rest) _ c.put.result (sym all) (then_puts _ _ front rest c.put.result turn.invariant.written c.put.ensures)
