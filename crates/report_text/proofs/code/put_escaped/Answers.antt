use Rattle.std.proofs.Common.{◌≡◌, ℕ, ◌+◌, ◌++◌, Vec, Global, take, slice_range, length, sym, ap, subst, ◌∙◌, append_assoc, arith}
use Rattle.std.specs.List.{flat_map}
use Rattle.std.proofs.lemmas.Result.{on_ok_weaker}
use Rattle.run_meaning.specs.Report.{quoted_byte}
use Rattle.report_text.proofs.RunLemmas.{run_more, run_none, front_more, front_last}
use Rattle.report_text.proofs.code.put_escaped.Goals as goal
use Rattle.report_text.proofs.code.put_escaped.Goals.{in-Some+in_ok-put_two, in_default}

pub loop-i-preserved : goal.loop-i-preserved
loop-i-preserved c =
    let text = c.args.text.now in
    let old = c.args.out.now.items in
    let turn = c.loop-i in
    elim c.match-escape_of.branch [
      | in-Some+in_ok-put_two w ↦
          let front = flat_map quoted_byte (take turn.plain text) in
          let next = slice_range text turn.plain turn.i ++ w.in-Some.escape.now in
          let more = front_more quoted_byte text turn.plain turn.i w.in-Some.escape.now turn.invariant.0 c.loop-i-test.true turn.invariant.2 w.in-Some.ensures in
          let out : c.match-escape_of.out.items ≡ turn.out.items ++ next = subst (λ (o : Vec ℕ Global). o.items ≡ turn.out.items ++ next) (sym w.out-is) w.in_ok-put_two.ensures in (
            omega (arith, w.plain-is),
            out ∙ ap (λ l. l ++ next) turn.invariant.1 ∙ append_assoc old front next ∙ ap (λ l. old ++ l) (sym more ∙ ap (λ n. flat_map quoted_byte (take n text)) (sym w.plain-is)),
            subst (λ n. flat_map quoted_byte (slice_range text n (turn.i + 1)) ≡ slice_range text n (turn.i + 1)) (sym w.plain-is) (run_none quoted_byte text (turn.i + 1)),
          )
      | in_default w ↦
          let out : c.match-escape_of.out.items ≡ turn.out.items = ap (λ (o : Vec ℕ Global). o.items) w.out-is in (
            omega (arith, w.plain-is, turn.invariant.0),
            out ∙ turn.invariant.1 ∙ ap (λ n. old ++ flat_map quoted_byte (take n text)) (sym w.plain-is),
            subst (λ n. flat_map quoted_byte (slice_range text n (turn.i + 1)) ≡ slice_range text n (turn.i + 1)) (sym w.plain-is) (run_more quoted_byte text turn.plain turn.i turn.invariant.0 c.loop-i-test.true turn.invariant.2 w.in_default.ensures),
          )
    ]

pub returns : goal.returns
returns c =
    let text = c.args.text.now in
    let old = c.args.out.now.items in
    let turn = c.loop-i in
    let front = flat_map quoted_byte (take turn.plain text) in
    let rest = slice_range text turn.plain (length text) in
    let all = front_last quoted_byte text turn.plain turn.i c.loop-i-test.false (omega arith) turn.invariant.0 turn.invariant.2 in
    on_ok_weaker c.put.result (λ e. e ∙ ap (λ l. l ++ rest) turn.invariant.1 ∙ append_assoc old front rest ∙ ap (λ l. old ++ l) (sym all)) c.put.ensures
