use Rattle.std.proofs.Common.{ℕ, List}
use Rattle.std.specs.Io.KnownBytes.{Appends}
use Rattle.command_words.specs.Words.{texts_of}
use Rattle.page_program.specs.declared.finish.Outcome.TheVariants.{Page, BadWords, BadText, Waiting, Unbuilt, ReadFault, TooLong}
use Rattle.page_program.specs.Ending.{text_of, ending_account, account_of}
use Rattle.page_program.proofs.Due.{polling_of}
use Rattle.page_program.proofs.Runs as runs
use Rattle.page_program.proofs.run.page.Goals as goal

pub returns-clause-bad_words : goal.returns-clause-bad_words
returns-clause-bad_words g c =
    let words = texts_of c.args.words.now in
    let held = g.S.Source.held c.args.source.now in
    let left = g.S.Source.held c.prepared-ending.new.source in
    let faults = g.S.Source.faults c.args.source.now in
    let after = g.S.Source.faults c.prepared-ending.new.source in
    let reading = runs.reading_of held left faults after in
    let polling = polling_of g.L.Loader.is_prompt (g.L.Loader.faults c.args.loader.now) (g.L.Loader.faults c.prepared-ending.new.loader) (g.L.Loader.not_yets c.args.loader.now) (g.L.Loader.not_yets c.prepared-ending.new.loader) in
    let A = λ (text : List ℕ). Appends (g.K.Sink.taken c.args.sink.now) (g.K.Sink.taken c.written.new.sink) text in
    let ending = c.prepared-ending.result in
    let due = c.prepared-ending.ensures.due in
    let outcome = c.written.result.outcome in
    let account = account_of c.written.result in
    let ended = runs.ended_as words reading polling outcome ending.outcome account (ending_account ending) (text_of ending) A due c.written.ensures.account c.written.ensures.whole in
    let at = runs.due_at words reading polling outcome in
    (λ e. ((at BadWords account A (λ w. cc) ended e).1.0, c.prepared-ending.ensures.unread (runs.as_due outcome ending.outcome BadWords A (text_of ending) c.written.ensures.whole e (λ w. cc))))

pub returns-clause-words_refused : goal.returns-clause-words_refused
returns-clause-words_refused g c =
    let words = texts_of c.args.words.now in
    let held = g.S.Source.held c.args.source.now in
    let left = g.S.Source.held c.prepared-ending.new.source in
    let faults = g.S.Source.faults c.args.source.now in
    let after = g.S.Source.faults c.prepared-ending.new.source in
    let reading = runs.reading_of held left faults after in
    let polling = polling_of g.L.Loader.is_prompt (g.L.Loader.faults c.args.loader.now) (g.L.Loader.faults c.prepared-ending.new.loader) (g.L.Loader.not_yets c.args.loader.now) (g.L.Loader.not_yets c.prepared-ending.new.loader) in
    let A = λ (text : List ℕ). Appends (g.K.Sink.taken c.args.sink.now) (g.K.Sink.taken c.written.new.sink) text in
    let ending = c.prepared-ending.result in
    let due = c.prepared-ending.ensures.due in
    let outcome = c.written.result.outcome in
    let account = account_of c.written.result in
    let ended = runs.ended_as words reading polling outcome ending.outcome account (ending_account ending) (text_of ending) A due c.written.ensures.account c.written.ensures.whole in
    runs.words_refused words reading polling outcome account A ended

pub returns-clause-too_long : goal.returns-clause-too_long
returns-clause-too_long g c =
    let words = texts_of c.args.words.now in
    let held = g.S.Source.held c.args.source.now in
    let left = g.S.Source.held c.prepared-ending.new.source in
    let faults = g.S.Source.faults c.args.source.now in
    let after = g.S.Source.faults c.prepared-ending.new.source in
    let reading = runs.reading_of held left faults after in
    let polling = polling_of g.L.Loader.is_prompt (g.L.Loader.faults c.args.loader.now) (g.L.Loader.faults c.prepared-ending.new.loader) (g.L.Loader.not_yets c.args.loader.now) (g.L.Loader.not_yets c.prepared-ending.new.loader) in
    let A = λ (text : List ℕ). Appends (g.K.Sink.taken c.args.sink.now) (g.K.Sink.taken c.written.new.sink) text in
    let ending = c.prepared-ending.result in
    let due = c.prepared-ending.ensures.due in
    let outcome = c.written.result.outcome in
    let account = account_of c.written.result in
    let ended = runs.ended_as words reading polling outcome ending.outcome account (ending_account ending) (text_of ending) A due c.written.ensures.account c.written.ensures.whole in
    let at = runs.due_at words reading polling outcome in
    (λ e. (at TooLong account A (λ w. cc) ended e).1.1)

pub returns-clause-longer_refused : goal.returns-clause-longer_refused
returns-clause-longer_refused g c =
    let words = texts_of c.args.words.now in
    let held = g.S.Source.held c.args.source.now in
    let left = g.S.Source.held c.prepared-ending.new.source in
    let faults = g.S.Source.faults c.args.source.now in
    let after = g.S.Source.faults c.prepared-ending.new.source in
    let reading = runs.reading_of held left faults after in
    let polling = polling_of g.L.Loader.is_prompt (g.L.Loader.faults c.args.loader.now) (g.L.Loader.faults c.prepared-ending.new.loader) (g.L.Loader.not_yets c.args.loader.now) (g.L.Loader.not_yets c.prepared-ending.new.loader) in
    let A = λ (text : List ℕ). Appends (g.K.Sink.taken c.args.sink.now) (g.K.Sink.taken c.written.new.sink) text in
    let ending = c.prepared-ending.result in
    let due = c.prepared-ending.ensures.due in
    let outcome = c.written.result.outcome in
    let account = account_of c.written.result in
    let ended = runs.ended_as words reading polling outcome ending.outcome account (ending_account ending) (text_of ending) A due c.written.ensures.account c.written.ensures.whole in
    runs.longer_refused words held left faults after polling outcome account A ended

pub returns-clause-bad_text : goal.returns-clause-bad_text
returns-clause-bad_text g c =
    let words = texts_of c.args.words.now in
    let held = g.S.Source.held c.args.source.now in
    let left = g.S.Source.held c.prepared-ending.new.source in
    let faults = g.S.Source.faults c.args.source.now in
    let after = g.S.Source.faults c.prepared-ending.new.source in
    let reading = runs.reading_of held left faults after in
    let polling = polling_of g.L.Loader.is_prompt (g.L.Loader.faults c.args.loader.now) (g.L.Loader.faults c.prepared-ending.new.loader) (g.L.Loader.not_yets c.args.loader.now) (g.L.Loader.not_yets c.prepared-ending.new.loader) in
    let A = λ (text : List ℕ). Appends (g.K.Sink.taken c.args.sink.now) (g.K.Sink.taken c.written.new.sink) text in
    let ending = c.prepared-ending.result in
    let due = c.prepared-ending.ensures.due in
    let outcome = c.written.result.outcome in
    let account = account_of c.written.result in
    let ended = runs.ended_as words reading polling outcome ending.outcome account (ending_account ending) (text_of ending) A due c.written.ensures.account c.written.ensures.whole in
    let at = runs.due_at words reading polling outcome in
    (λ kind place e. (at (BadText kind place) account A (λ w. cc) ended e).1.1)

pub returns-clause-text_refused : goal.returns-clause-text_refused
returns-clause-text_refused g c =
    let words = texts_of c.args.words.now in
    let held = g.S.Source.held c.args.source.now in
    let left = g.S.Source.held c.prepared-ending.new.source in
    let faults = g.S.Source.faults c.args.source.now in
    let after = g.S.Source.faults c.prepared-ending.new.source in
    let reading = runs.reading_of held left faults after in
    let polling = polling_of g.L.Loader.is_prompt (g.L.Loader.faults c.args.loader.now) (g.L.Loader.faults c.prepared-ending.new.loader) (g.L.Loader.not_yets c.args.loader.now) (g.L.Loader.not_yets c.prepared-ending.new.loader) in
    let A = λ (text : List ℕ). Appends (g.K.Sink.taken c.args.sink.now) (g.K.Sink.taken c.written.new.sink) text in
    let ending = c.prepared-ending.result in
    let due = c.prepared-ending.ensures.due in
    let outcome = c.written.result.outcome in
    let account = account_of c.written.result in
    let ended = runs.ended_as words reading polling outcome ending.outcome account (ending_account ending) (text_of ending) A due c.written.ensures.account c.written.ensures.whole in
    runs.text_refused words held left faults after polling outcome account A ended

pub returns-clause-unbuilt : goal.returns-clause-unbuilt
returns-clause-unbuilt g c =
    let words = texts_of c.args.words.now in
    let held = g.S.Source.held c.args.source.now in
    let left = g.S.Source.held c.prepared-ending.new.source in
    let faults = g.S.Source.faults c.args.source.now in
    let after = g.S.Source.faults c.prepared-ending.new.source in
    let reading = runs.reading_of held left faults after in
    let polling = polling_of g.L.Loader.is_prompt (g.L.Loader.faults c.args.loader.now) (g.L.Loader.faults c.prepared-ending.new.loader) (g.L.Loader.not_yets c.args.loader.now) (g.L.Loader.not_yets c.prepared-ending.new.loader) in
    let A = λ (text : List ℕ). Appends (g.K.Sink.taken c.args.sink.now) (g.K.Sink.taken c.written.new.sink) text in
    let ending = c.prepared-ending.result in
    let due = c.prepared-ending.ensures.due in
    let outcome = c.written.result.outcome in
    let account = account_of c.written.result in
    let ended = runs.ended_as words reading polling outcome ending.outcome account (ending_account ending) (text_of ending) A due c.written.ensures.account c.written.ensures.whole in
    let at = runs.due_at words reading polling outcome in
    (λ e. let found = (at Unbuilt account A (λ w. cc) ended e).1 in (found.1, found.2, found.3))

pub returns-clause-input_unbuilt : goal.returns-clause-input_unbuilt
returns-clause-input_unbuilt g c =
    let words = texts_of c.args.words.now in
    let held = g.S.Source.held c.args.source.now in
    let left = g.S.Source.held c.prepared-ending.new.source in
    let faults = g.S.Source.faults c.args.source.now in
    let after = g.S.Source.faults c.prepared-ending.new.source in
    let reading = runs.reading_of held left faults after in
    let polling = polling_of g.L.Loader.is_prompt (g.L.Loader.faults c.args.loader.now) (g.L.Loader.faults c.prepared-ending.new.loader) (g.L.Loader.not_yets c.args.loader.now) (g.L.Loader.not_yets c.prepared-ending.new.loader) in
    let A = λ (text : List ℕ). Appends (g.K.Sink.taken c.args.sink.now) (g.K.Sink.taken c.written.new.sink) text in
    let ending = c.prepared-ending.result in
    let due = c.prepared-ending.ensures.due in
    let outcome = c.written.result.outcome in
    let account = account_of c.written.result in
    let ended = runs.ended_as words reading polling outcome ending.outcome account (ending_account ending) (text_of ending) A due c.written.ensures.account c.written.ensures.whole in
    runs.input_unbuilt words held left faults after polling outcome account A ended

pub returns-clause-page : goal.returns-clause-page
returns-clause-page g c =
    let words = texts_of c.args.words.now in
    let held = g.S.Source.held c.args.source.now in
    let left = g.S.Source.held c.prepared-ending.new.source in
    let faults = g.S.Source.faults c.args.source.now in
    let after = g.S.Source.faults c.prepared-ending.new.source in
    let reading = runs.reading_of held left faults after in
    let polling = polling_of g.L.Loader.is_prompt (g.L.Loader.faults c.args.loader.now) (g.L.Loader.faults c.prepared-ending.new.loader) (g.L.Loader.not_yets c.args.loader.now) (g.L.Loader.not_yets c.prepared-ending.new.loader) in
    let A = λ (text : List ℕ). Appends (g.K.Sink.taken c.args.sink.now) (g.K.Sink.taken c.written.new.sink) text in
    let ending = c.prepared-ending.result in
    let due = c.prepared-ending.ensures.due in
    let outcome = c.written.result.outcome in
    let account = account_of c.written.result in
    let ended = runs.ended_as words reading polling outcome ending.outcome account (ending_account ending) (text_of ending) A due c.written.ensures.account c.written.ensures.whole in
    let at = runs.due_at words reading polling outcome in
    (λ e. let found = at Page account A (λ w. cc) ended e in (found.1.0, found.0, found.1.1, found.2))

pub returns-clause-waiting : goal.returns-clause-waiting
returns-clause-waiting g c =
    let words = texts_of c.args.words.now in
    let held = g.S.Source.held c.args.source.now in
    let left = g.S.Source.held c.prepared-ending.new.source in
    let faults = g.S.Source.faults c.args.source.now in
    let after = g.S.Source.faults c.prepared-ending.new.source in
    let reading = runs.reading_of held left faults after in
    let polling = polling_of g.L.Loader.is_prompt (g.L.Loader.faults c.args.loader.now) (g.L.Loader.faults c.prepared-ending.new.loader) (g.L.Loader.not_yets c.args.loader.now) (g.L.Loader.not_yets c.prepared-ending.new.loader) in
    let A = λ (text : List ℕ). Appends (g.K.Sink.taken c.args.sink.now) (g.K.Sink.taken c.written.new.sink) text in
    let ending = c.prepared-ending.result in
    let due = c.prepared-ending.ensures.due in
    let outcome = c.written.result.outcome in
    let account = account_of c.written.result in
    let ended = runs.ended_as words reading polling outcome ending.outcome account (ending_account ending) (text_of ending) A due c.written.ensures.account c.written.ensures.whole in
    let at = runs.due_at words reading polling outcome in
    (λ loads e. let found = at (Waiting loads) account A (λ w. cc) ended e in (found.1.0, found.0, found.1.1, found.2))

pub returns-clause-waited : goal.returns-clause-waited
returns-clause-waited g c =
    let words = texts_of c.args.words.now in
    let held = g.S.Source.held c.args.source.now in
    let left = g.S.Source.held c.prepared-ending.new.source in
    let faults = g.S.Source.faults c.args.source.now in
    let after = g.S.Source.faults c.prepared-ending.new.source in
    let reading = runs.reading_of held left faults after in
    let polling = polling_of g.L.Loader.is_prompt (g.L.Loader.faults c.args.loader.now) (g.L.Loader.faults c.prepared-ending.new.loader) (g.L.Loader.not_yets c.args.loader.now) (g.L.Loader.not_yets c.prepared-ending.new.loader) in
    let A = λ (text : List ℕ). Appends (g.K.Sink.taken c.args.sink.now) (g.K.Sink.taken c.written.new.sink) text in
    let ending = c.prepared-ending.result in
    let due = c.prepared-ending.ensures.due in
    let outcome = c.written.result.outcome in
    let account = account_of c.written.result in
    let ended = runs.ended_as words reading polling outcome ending.outcome account (ending_account ending) (text_of ending) A due c.written.ensures.account c.written.ensures.whole in
    let at = runs.due_at words reading polling outcome in
    (λ loads e. let found = at (Waiting loads) account A (λ w. cc) ended e in
    runs.waited found.1.0 polling loads account found.0 found.1.1)

pub returns-clause-input_written : goal.returns-clause-input_written
returns-clause-input_written g c =
    let words = texts_of c.args.words.now in
    let held = g.S.Source.held c.args.source.now in
    let left = g.S.Source.held c.prepared-ending.new.source in
    let faults = g.S.Source.faults c.args.source.now in
    let after = g.S.Source.faults c.prepared-ending.new.source in
    let reading = runs.reading_of held left faults after in
    let polling = polling_of g.L.Loader.is_prompt (g.L.Loader.faults c.args.loader.now) (g.L.Loader.faults c.prepared-ending.new.loader) (g.L.Loader.not_yets c.args.loader.now) (g.L.Loader.not_yets c.prepared-ending.new.loader) in
    let A = λ (text : List ℕ). Appends (g.K.Sink.taken c.args.sink.now) (g.K.Sink.taken c.written.new.sink) text in
    let ending = c.prepared-ending.result in
    let due = c.prepared-ending.ensures.due in
    let outcome = c.written.result.outcome in
    let account = account_of c.written.result in
    let ended = runs.ended_as words reading polling outcome ending.outcome account (ending_account ending) (text_of ending) A due c.written.ensures.account c.written.ensures.whole in
    runs.input_written words held left faults after polling outcome account A ended

pub returns-clause-prompt : goal.returns-clause-prompt
returns-clause-prompt g c =
    let words = texts_of c.args.words.now in
    let held = g.S.Source.held c.args.source.now in
    let left = g.S.Source.held c.prepared-ending.new.source in
    let faults = g.S.Source.faults c.args.source.now in
    let after = g.S.Source.faults c.prepared-ending.new.source in
    let reading = runs.reading_of held left faults after in
    let polling = polling_of g.L.Loader.is_prompt (g.L.Loader.faults c.args.loader.now) (g.L.Loader.faults c.prepared-ending.new.loader) (g.L.Loader.not_yets c.args.loader.now) (g.L.Loader.not_yets c.prepared-ending.new.loader) in
    let A = λ (text : List ℕ). Appends (g.K.Sink.taken c.args.sink.now) (g.K.Sink.taken c.written.new.sink) text in
    let ending = c.prepared-ending.result in
    let due = c.prepared-ending.ensures.due in
    let outcome = c.written.result.outcome in
    let account = account_of c.written.result in
    let ended = runs.ended_as words reading polling outcome ending.outcome account (ending_account ending) (text_of ending) A due c.written.ensures.account c.written.ensures.whole in
    runs.promptly_written words held left faults after polling.is_prompt polling.counts outcome account A ended

pub returns-clause-journal : goal.returns-clause-journal
returns-clause-journal g c =
    let words = texts_of c.args.words.now in
    let held = g.S.Source.held c.args.source.now in
    let left = g.S.Source.held c.prepared-ending.new.source in
    let faults = g.S.Source.faults c.args.source.now in
    let after = g.S.Source.faults c.prepared-ending.new.source in
    let reading = runs.reading_of held left faults after in
    let polling = polling_of g.L.Loader.is_prompt (g.L.Loader.faults c.args.loader.now) (g.L.Loader.faults c.prepared-ending.new.loader) (g.L.Loader.not_yets c.args.loader.now) (g.L.Loader.not_yets c.prepared-ending.new.loader) in
    let A = λ (text : List ℕ). Appends (g.K.Sink.taken c.args.sink.now) (g.K.Sink.taken c.written.new.sink) text in
    let ending = c.prepared-ending.result in
    let due = c.prepared-ending.ensures.due in
    let outcome = c.written.result.outcome in
    let account = account_of c.written.result in
    let ended = runs.ended_as words reading polling outcome ending.outcome account (ending_account ending) (text_of ending) A due c.written.ensures.account c.written.ensures.whole in
    (λ journal is. let found = runs.run_of_due words reading polling ending.outcome account (text_of ending) journal (runs.due_with words reading polling ending.outcome account (ending_account ending) (text_of ending) c.written.ensures.account due) is in (found.0, found.1))

pub returns-clause-no_journal : goal.returns-clause-no_journal
returns-clause-no_journal g c =
    let words = texts_of c.args.words.now in
    let held = g.S.Source.held c.args.source.now in
    let left = g.S.Source.held c.prepared-ending.new.source in
    let faults = g.S.Source.faults c.args.source.now in
    let after = g.S.Source.faults c.prepared-ending.new.source in
    let reading = runs.reading_of held left faults after in
    let polling = polling_of g.L.Loader.is_prompt (g.L.Loader.faults c.args.loader.now) (g.L.Loader.faults c.prepared-ending.new.loader) (g.L.Loader.not_yets c.args.loader.now) (g.L.Loader.not_yets c.prepared-ending.new.loader) in
    let A = λ (text : List ℕ). Appends (g.K.Sink.taken c.args.sink.now) (g.K.Sink.taken c.written.new.sink) text in
    let ending = c.prepared-ending.result in
    let due = c.prepared-ending.ensures.due in
    let outcome = c.written.result.outcome in
    let account = account_of c.written.result in
    let ended = runs.ended_as words reading polling outcome ending.outcome account (ending_account ending) (text_of ending) A due c.written.ensures.account c.written.ensures.whole in
    runs.no_journal words reading polling outcome account A ended

pub returns-clause-no_answers : goal.returns-clause-no_answers
returns-clause-no_answers g c =
    let words = texts_of c.args.words.now in
    let held = g.S.Source.held c.args.source.now in
    let left = g.S.Source.held c.prepared-ending.new.source in
    let faults = g.S.Source.faults c.args.source.now in
    let after = g.S.Source.faults c.prepared-ending.new.source in
    let reading = runs.reading_of held left faults after in
    let polling = polling_of g.L.Loader.is_prompt (g.L.Loader.faults c.args.loader.now) (g.L.Loader.faults c.prepared-ending.new.loader) (g.L.Loader.not_yets c.args.loader.now) (g.L.Loader.not_yets c.prepared-ending.new.loader) in
    let A = λ (text : List ℕ). Appends (g.K.Sink.taken c.args.sink.now) (g.K.Sink.taken c.written.new.sink) text in
    let ending = c.prepared-ending.result in
    let due = c.prepared-ending.ensures.due in
    let outcome = c.written.result.outcome in
    let account = account_of c.written.result in
    let ended = runs.ended_as words reading polling outcome ending.outcome account (ending_account ending) (text_of ending) A due c.written.ensures.account c.written.ensures.whole in
    runs.no_answers words reading polling ending.outcome account (text_of ending) (runs.due_with words reading polling ending.outcome account (ending_account ending) (text_of ending) c.written.ensures.account due)

pub returns-clause-loader_refused : goal.returns-clause-loader_refused
returns-clause-loader_refused g c =
    let words = texts_of c.args.words.now in
    let held = g.S.Source.held c.args.source.now in
    let left = g.S.Source.held c.prepared-ending.new.source in
    let faults = g.S.Source.faults c.args.source.now in
    let after = g.S.Source.faults c.prepared-ending.new.source in
    let reading = runs.reading_of held left faults after in
    let polling = polling_of g.L.Loader.is_prompt (g.L.Loader.faults c.args.loader.now) (g.L.Loader.faults c.prepared-ending.new.loader) (g.L.Loader.not_yets c.args.loader.now) (g.L.Loader.not_yets c.prepared-ending.new.loader) in
    let A = λ (text : List ℕ). Appends (g.K.Sink.taken c.args.sink.now) (g.K.Sink.taken c.written.new.sink) text in
    let ending = c.prepared-ending.result in
    let due = c.prepared-ending.ensures.due in
    let outcome = c.written.result.outcome in
    let account = account_of c.written.result in
    let ended = runs.ended_as words reading polling outcome ending.outcome account (ending_account ending) (text_of ending) A due c.written.ensures.account c.written.ensures.whole in
    (λ journal is. let found = runs.run_of_due words reading polling ending.outcome account (text_of ending) journal (runs.due_with words reading polling ending.outcome account (ending_account ending) (text_of ending) c.written.ensures.account due) is in (found.0, found.1, found.2))

pub returns-clause-read_fault : goal.returns-clause-read_fault
returns-clause-read_fault g c =
    let words = texts_of c.args.words.now in
    let held = g.S.Source.held c.args.source.now in
    let left = g.S.Source.held c.prepared-ending.new.source in
    let faults = g.S.Source.faults c.args.source.now in
    let after = g.S.Source.faults c.prepared-ending.new.source in
    let reading = runs.reading_of held left faults after in
    let polling = polling_of g.L.Loader.is_prompt (g.L.Loader.faults c.args.loader.now) (g.L.Loader.faults c.prepared-ending.new.loader) (g.L.Loader.not_yets c.args.loader.now) (g.L.Loader.not_yets c.prepared-ending.new.loader) in
    let A = λ (text : List ℕ). Appends (g.K.Sink.taken c.args.sink.now) (g.K.Sink.taken c.written.new.sink) text in
    let ending = c.prepared-ending.result in
    let due = c.prepared-ending.ensures.due in
    let outcome = c.written.result.outcome in
    let account = account_of c.written.result in
    let ended = runs.ended_as words reading polling outcome ending.outcome account (ending_account ending) (text_of ending) A due c.written.ensures.account c.written.ensures.whole in
    let at = runs.due_at words reading polling outcome in
    (λ e. (at ReadFault account A (λ w. cc) ended e).1.1)

pub returns-clause-own_line : goal.returns-clause-own_line
returns-clause-own_line g c =
    let words = texts_of c.args.words.now in
    let held = g.S.Source.held c.args.source.now in
    let left = g.S.Source.held c.prepared-ending.new.source in
    let faults = g.S.Source.faults c.args.source.now in
    let after = g.S.Source.faults c.prepared-ending.new.source in
    let reading = runs.reading_of held left faults after in
    let polling = polling_of g.L.Loader.is_prompt (g.L.Loader.faults c.args.loader.now) (g.L.Loader.faults c.prepared-ending.new.loader) (g.L.Loader.not_yets c.args.loader.now) (g.L.Loader.not_yets c.prepared-ending.new.loader) in
    let A = λ (text : List ℕ). Appends (g.K.Sink.taken c.args.sink.now) (g.K.Sink.taken c.written.new.sink) text in
    let ending = c.prepared-ending.result in
    let due = c.prepared-ending.ensures.due in
    let outcome = c.written.result.outcome in
    let account = account_of c.written.result in
    let ended = runs.ended_as words reading polling outcome ending.outcome account (ending_account ending) (text_of ending) A due c.written.ensures.account c.written.ensures.whole in
    runs.line_written words reading polling outcome account A ended

pub returns-clause-write_fault : goal.returns-clause-write_fault
returns-clause-write_fault g c =
    let words = texts_of c.args.words.now in
    let held = g.S.Source.held c.args.source.now in
    let left = g.S.Source.held c.prepared-ending.new.source in
    let faults = g.S.Source.faults c.args.source.now in
    let after = g.S.Source.faults c.prepared-ending.new.source in
    let reading = runs.reading_of held left faults after in
    let polling = polling_of g.L.Loader.is_prompt (g.L.Loader.faults c.args.loader.now) (g.L.Loader.faults c.prepared-ending.new.loader) (g.L.Loader.not_yets c.args.loader.now) (g.L.Loader.not_yets c.prepared-ending.new.loader) in
    let A = λ (text : List ℕ). Appends (g.K.Sink.taken c.args.sink.now) (g.K.Sink.taken c.written.new.sink) text in
    let ending = c.prepared-ending.result in
    let due = c.prepared-ending.ensures.due in
    let outcome = c.written.result.outcome in
    let account = account_of c.written.result in
    let ended = runs.ended_as words reading polling outcome ending.outcome account (ending_account ending) (text_of ending) A due c.written.ensures.account c.written.ensures.whole in
    (λ e. let failed = c.written.ensures.write_fault e (runs.never_a_failed_write words reading polling ending.outcome (ending_account ending) (text_of ending) due) in
    (failed.0, ending.outcome, text_of ending, runs.due_with words reading polling ending.outcome account (ending_account ending) (text_of ending) c.written.ensures.account due, failed.1))
