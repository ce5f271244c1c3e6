use Rattle.std.proofs.Common.{◌++◌, codes, sym, ap, ◌∙◌, append_assoc}
use Rattle.std.specs.Fmt.{decimal}
use Rattle.std.proofs.lemmas.Result.{on_ok_weaker}
use Rattle.report_text.proofs.answers.put_disposal.Goals as goal

pub returns : goal.returns
returns c =
    let old = c.args.out.now.items in
    let now = codes "dispose now " ++ decimal c.args.disposal.now in
    let words = codes " before " in
    let before = decimal c.args.disposal.before in
    on_ok_weaker c.put_count-2.result (λ e. e ∙ ap (λ l. l ++ (words ++ before)) c.in_ok-put_count.ensures ∙ append_assoc old now (words ++ before) ∙ ap (λ l. old ++ l) (sym (append_assoc now words before))) c.put_count-2.ensures
