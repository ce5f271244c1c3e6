use Rattle.std.proofs.Common.{rules, ◌≡◌, ◌++◌, [], IfOk, subst}
use Rattle.std.specs.List.{flat_map}
use Rattle.run_meaning.specs.Ending.{waiting_line}
use Rattle.page_program.specs.Ending.{text_of, ending_account}
use Rattle.page_program.proofs.Due.{ended_with_page, ended_waiting}
use Rattle.page_program.proofs.answer.ended.Goals as goal

pub returns-then-is_empty : goal.returns-then-is_empty
returns-then-is_empty c = λ input settings polling to all.
    let none : c.args.ran.pending ≡ [] = search rules in
    let end = c.ended_as.result in
    ended_with_page c.page_behind-made.result (λ t. t.items) input settings polling c.args.ran end.outcome (ending_account end) (text_of end) to none c.ended_as.ensures.account c.page_behind-made.ensures c.ended_as.ensures.text

pub returns : goal.returns
returns c = λ input settings polling to all.
    let some : c.args.ran.pending ≡ [] → ⊥ = search rules in
    let end = c.ended_as-2.result in
    let lines = subst (λ loads. IfOk c.loads_behind-made.result (λ t. t.items ≡ c.args.ran.report.items ++ flat_map (waiting_line c.args.ran.still.component) loads)) c.as_slice.ensures c.loads_behind-made.ensures in
    ended_waiting c.loads_behind-made.result (λ t. t.items) input settings polling c.args.ran end.outcome (ending_account end) (text_of end) to some all c.ended_as-2.ensures.account lines c.ended_as-2.ensures.text
