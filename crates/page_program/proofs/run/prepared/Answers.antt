use Rattle.std.proofs.Common.{ap, Err}
use Rattle.command_words.specs.Words.{texts_of}
use Rattle.page_program.specs.Ending.{bytes_of, text_of, ending_account}
use Rattle.page_program.proofs.Due.{polling_of, words_due, never_bad_words}
use Rattle.page_program.proofs.Runs.{reading_of}
use Rattle.page_program.proofs.run.prepared.Goals as goal

pub returns-in-Ok-clause-unread : goal.returns-in-Ok-clause-unread
returns-in-Ok-clause-unread g c = λ e.
    let words = texts_of c.args.words.now in
    let held = g.S.Source.held in
    let faults = g.S.Source.faults in
    let before = c.args.source.now in
    let after = c.prepared_by.new.source in
    let reading = reading_of (held before) (held after) (faults before) (faults after) in
    let polling = polling_of g.L.Loader.is_prompt (g.L.Loader.faults c.args.loader.now) (g.L.Loader.faults c.prepared_by.new.loader) (g.L.Loader.not_yets c.args.loader.now) (g.L.Loader.not_yets c.prepared_by.new.loader) in
    let end = c.prepared_by.result in
    let stand = c.in-Ok.ensures.settings in
    absurd (never_bad_words words reading polling end.outcome (ending_account end) (text_of end) (c.in-Ok.settings, stand) (c.prepared_by.ensures words stand) e)

pub returns-in-Err-BadWords-clause-due : goal.returns-in-Err-BadWords-clause-due
returns-in-Err-BadWords-clause-due g c =
    let words = texts_of c.args.words.now in
    let held = g.S.Source.held c.args.source.now in
    let faults = g.S.Source.faults c.args.source.now in
    let loader_faults = g.L.Loader.faults c.args.loader.now in
    let not_yets = g.L.Loader.not_yets c.args.loader.now in
    let end = c.not_run.result in
    words_due words (reading_of held held faults faults) (polling_of g.L.Loader.is_prompt loader_faults loader_faults not_yets not_yets) end.outcome (ending_account end) (text_of end) (c.in-Err-BadWords.ensures.bad (ap (λ x. Err x) c.in-Err-BadWords.field-0-is))
    c.not_run.ensures.outcome (ap bytes_of c.not_run.ensures.text) c.not_run.ensures.account
