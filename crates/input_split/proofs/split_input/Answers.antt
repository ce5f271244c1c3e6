use Rattle.std.proofs.Common.{◌≡◌, ◌+◌, ◌-◌, ◌<◌, false, length, get_or, slice_range, inr, sym, ◌∙◌, ap, subst, arith}
use Rattle.input_split.specs.Separator.{is_separator}
use Rattle.input_split.proofs.Lines.{NoneInside, next_line, last_line, none_before}
use Rattle.input_split.proofs.split_input.Goals as goal

pub returns-then-stop-bytes-2 : goal.returns-then-stop-bytes-2
returns-then-stop-bytes-2 c =
    let bytes = c.args.bytes.now in
    let start = c.lines.start in
    let stop = c.line_end-stop.result in
    let e = c.line_end-stop.ensures in
    let inv = c.lines.invariant in
    let whole : stop ≡ length bytes = c.if-stop-bytes-2.true in
    let no : is_separator (slice_range bytes start stop) ≡ false = sym c.is_separator.ensures ∙ c.if-is_separator.false in
    let none = none_before bytes start stop e.ordered e.within e.inside e.ends no inv.earlier in
    let count = last_line bytes start inv.within (subst (λ n. NoneInside bytes start n) whole e.inside) in
    inr (record {
      none = λ from end s. let line = s.line in let low = line.ordered in let high = line.within in none from end (omega arith) s;
      component = whole;
      script = whole;
      line = inv.line ∙ count;
    })

pub lines-preserved : goal.lines-preserved
lines-preserved c =
    let bytes = c.args.bytes.now in
    let start = c.lines.start in
    let stop = c.line_end-stop.result in
    let e = c.line_end-stop.ensures in
    let inv = c.lines.invariant in
    let ordered = e.ordered in
    let within = e.within in
    let few = inv.few in
    let before : stop < length bytes = omega (arith, c.if-stop-bytes-2.false) in
    let no : is_separator (slice_range bytes start stop) ≡ false = sym c.is_separator.ensures ∙ c.if-is_separator.false in
    let here : stop + 1 - 1 ≡ stop = omega arith in
    record {
      within = omega arith;
      begins = λ some. ap (λ n. get_or bytes n 0) here ∙ e.ends before;
      earlier = none_before bytes start stop e.ordered e.within e.inside e.ends no inv.earlier;
      line = ap (λ n. n + 1) inv.line ∙ sym (next_line bytes start stop e.ordered before e.inside (e.ends before));
      few = omega arith;
    }
