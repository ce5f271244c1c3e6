use Rattle.html_out.proofs.InsideLemmas.{escaped-no_tag, escaped-no_quotation_mark}
use Rattle.html_out.proofs.laws.escaped_texts_stay_inside.Goals as goal

pub returns-clause-tag : goal.returns-clause-tag
returns-clause-tag c = escaped-no_tag

pub returns-clause-quotation_mark : goal.returns-clause-quotation_mark
returns-clause-quotation_mark c = escaped-no_quotation_mark
