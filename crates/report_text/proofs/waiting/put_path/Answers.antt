use Rattle.std.proofs.Common.{◌≡◌, ◌∷◌, ◌++◌, map, sym, ap, ◌∙◌, append_assoc}
use Rattle.std.specs.List.{flat_map, join_with_byte}
use Rattle.std.proofs.lemmas.Result.{on_ok_weaker}
use Rattle.html_out.specs.Shown.{text_at}
use Rattle.report_text.specs.Lines.{dotted}
use Rattle.report_text.proofs.LineLemmas.{join_names}
use Rattle.report_text.proofs.waiting.put_path.Goals as goal

pub returns : goal.returns
returns c =
    let texts = c.args.texts.now in
    let old = c.args.out.now.items in
    let first = c.in-Some.first.now in
    let inner = c.in-Some.inner.now in
    let path : c.args.path.now ≡ first ∷ inner = cc (c.in-Some.ensures.cases.0) in
    let begun : c.put.new.out.items ≡ old ++ text_at texts first = cc (c.in_ok-put.ensures, c.text_of.ensures, c.as_bytes.ensures.value) in
    let joined = ap (λ p. join_with_byte 46 (map (text_at texts) p)) path ∙ join_names texts first inner in
    let rest = flat_map (dotted texts) inner in
    on_ok_weaker c.put_inner.result (λ e. e ∙ ap (λ l. l ++ rest) begun ∙ append_assoc old (text_at texts first) rest ∙ ap (λ l. old ++ l) (sym joined)) c.put_inner.ensures
