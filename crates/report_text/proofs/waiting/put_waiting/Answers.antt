use Rattle.std.proofs.Common.{sym, subst, ◌∙◌}
use Rattle.std.proofs.lemmas.Result.{on_ok_weaker}
use Rattle.component_items.specs.Around.{top, items_listed}
use Rattle.component_items.specs.Own.{place}
use Rattle.report_text.specs.Found.{AreFound}
use Rattle.report_text.proofs.FoundLemmas.{all_found}
use Rattle.report_text.proofs.waiting.put_waiting.Goals as goal

pub returns : goal.returns
returns c =
    let component = c.args.component.now in
    let items = subst (λ items. AreFound component (items_listed items top)) (sym c.items.ensures.items) (all_found component c.items.ensures.kept) in
    let found = subst (λ p. AreFound component (items_listed c.items.result.now (place 0 p))) (sym c.new-path.ensures.items) items in
    on_ok_weaker c.put_others.result (λ e. e ∙ c.in_ok-others.ensures.lines 0 found) c.put_others.ensures
