use Rattle.std.proofs.Common.{◌++◌, ap, ◌∙◌, append_assoc}
use Rattle.std.specs.List.{flat_map}
use Rattle.std.proofs.lemmas.Result.{on_ok_weaker}
use Rattle.run_meaning.specs.Report.{journal_lines}
use Rattle.report_text.specs.Lines.{line_of}
use Rattle.report_text.proofs.LineLemmas.{lines_of_lanes}
use Rattle.report_text.proofs.phase.put_phase.Goals as goal

pub returns-clause-lanes : goal.returns-clause-lanes
returns-clause-lanes c =
    let texts = c.args.texts.now in
    let phase = c.args.phase in
    let old = c.args.out.now.items in
    let lines = flat_map (line_of texts) c.args.answers.now in
    let entries = journal_lines texts c.args.owners.now phase c.args.entries.now in
    on_ok_weaker c.put_entries.result (λ e lanes is. e ∙ ap (λ l. l ++ entries) c.in_ok-put_answers.ensures ∙ append_assoc old lines entries ∙ ap (λ l. old ++ (l ++ entries)) (ap (flat_map (line_of texts)) is ∙ lines_of_lanes texts phase 1 lanes)) c.put_entries.ensures
