-- What a run has come to when it is written, as the definitions say it.
use Rattle.std.specs.Prelude.{ℕ, List, Option}
use Rattle.std.specs.Option.{option_map}
use Rattle.run_items.specs.Journal.{JournalPhase}
use Rattle.page_program.specs.declared.ending.Ending.{Ending}
use Rattle.page_program.specs.declared.ending.Text.{Text}
use Rattle.page_program.specs.declared.ending.Text.TheVariants.{Line, Made}
use Rattle.page_program.specs.declared.finish.Finish.{Finish}
use Rattle.page_program.specs.Run.{Account}
use Rattle.run_journal.specs.Journal.{JournalState}

abbrev pub bytes_of : Text → List ℕ
bytes_of (Line bytes) = bytes.now
bytes_of (Made bytes) = bytes.items

abbrev pub text_of : Ending → List ℕ
text_of ending = bytes_of ending.text

abbrev pub journal_told : Option JournalState → Option (List JournalPhase)
journal_told journal = option_map (λ j. j.phases) journal

abbrev pub ending_account : Ending → Account
ending_account ending = record { journal = journal_told ending.journal; answers = ending.answers }

abbrev pub account_of : Finish → Account
account_of finish = record { journal = journal_told finish.journal; answers = finish.answers }
