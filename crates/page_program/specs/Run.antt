-- What a run of the program owes, by its words and by what its source held.
use Rattle.std.specs.Prelude.{◌≡◌, ◌⊎◌, ℕ, ◌+◌, ◌≤◌, ◌<◌, Bool, length, List, [], Option, Some, None, IfSome}
use Rattle.std.specs.Bool.{OnTrue}
use Rattle.std.specs.Io.KnownBytes.{Consumes, IsAtEnd}
use Rattle.values.specs.declared.limits.TheConstants.{MOST_INPUT_BYTES}
use Rattle.command_words.specs.declared.settings.Settings.{Settings}
use Rattle.command_words.specs.Words.{StandFor}
use Rattle.component_items.specs.declared.component.Component.{Component}
use Rattle.component_items.specs.declared.refusal.Place.{Place}
use Rattle.component_items.specs.declared.refusal.Refusal.TheVariants.{Bad}
use Rattle.component_items.specs.declared.refusal.Why.{Why}
use Rattle.component_items.specs.Why.{number_of}
use Rattle.load_meaning.specs.Polls.{enough_rounds}
use Rattle.outside.specs.Counts.{Rose, RoseByTogether}
use Rattle.script_items.specs.declared.operation.ScriptOp.{ScriptOp}
use Rattle.script_meaning.specs.Input.{IsInput, IsBadInput}
use Rattle.run_items.specs.declared.answer.Answer.{Answer}
use Rattle.run_items.specs.Journal.{JournalPhase}
use Rattle.plain_evaluation.specs.Held.{first_held}
use Rattle.run_meaning.specs.Run.{IsRun, phases_of, states_of, held_arrived, refusals_of}
use Rattle.run_meaning.specs.Ending.{EndsWithPage, EndsWaiting}
use Rattle.page_program.specs.declared.finish.Outcome.{Outcome}
use Rattle.page_program.specs.declared.finish.Outcome.TheVariants.{Page, BadWords, BadText, Waiting, Unbuilt, ReadFault, WriteFault, NoMemory, TooLong}
use Rattle.page_program.specs.Outcome.{own_line}
use Rattle.script_run.specs.Ran.{LoaderCounts}
use Rattle.script_run.specs.Today.{RunsToday}

-- what a call did to its source: the bytes that it held before and after, where it tells them, and the
-- counts of its faults before and after
pub record Reading : Type 0 where
  pub held : Option (List ℕ)
  pub left : Option (List ℕ)
  pub faults : ℕ
  pub faults_after : ℕ

-- what a call asked of its loader: whether that goes by the attempts alone, and its counts before and after
pub record Polling : Type 0 where
  pub is_prompt : Bool
  pub counts : LoaderCounts

-- ---- inputs

-- an input: the component, the script, and all texts of both
pub record Input : Type 0 where
  pub component : Component
  pub script : List (List (List ScriptOp))
  pub texts : List (List ℕ)

abbrev pub Means : List ℕ → Input → Type 0
Means bytes input = IsInput bytes input.component input.script input.texts

-- the component with all texts of the input
abbrev pub component_of : Input → Component
component_of input = record input.component { texts = input.texts }

-- the input has no form that is not run yet
abbrev pub IsBuilt : Input → Type 0
IsBuilt input = RunsToday input.script

-- the bytes are an input with this script, whose component has these items and, with those of the script, these texts
abbrev pub IsReadAs : List ℕ → Component → List (List (List ScriptOp)) → Type 0
IsReadAs bytes component script = (input : Input) × Means bytes input × (component ≡ component_of input) × (script ≡ input.script)

-- the bytes are no input, for this reason at this place
abbrev pub IsBad : List ℕ → ℕ → Place → Type 0
IsBad bytes kind place = (why : Why) × (kind ≡ number_of why) × IsBadInput bytes (Bad why place)

-- ---- what was read

-- the source gave its end, and what it held is as P says
abbrev pub GivesEnd : Reading → (List ℕ → Type 0) → Type 0
GivesEnd reading P = IfSome reading.held (λ bytes. (length bytes ≤ MOST_INPUT_BYTES) × IsAtEnd reading.left × P bytes)

-- the source gave its end, and what it held is this input
abbrev pub GivesInput : Reading → Input → Type 0
GivesInput reading input = GivesEnd reading (λ bytes. Means bytes input)

-- the source gave one byte more than an input may have, and no more was read
abbrev pub GivesTooMany : Reading → Type 0
GivesTooMany reading = (read : List ℕ) × (length read ≡ MOST_INPUT_BYTES + 1) × Consumes reading.held reading.left read

-- these bytes were read, and they are all that the source held
abbrev pub GaveAll : Reading → List ℕ → Type 0
GaveAll reading bytes = Consumes reading.held reading.left bytes × IfSome reading.held (λ held. bytes ≡ held)

-- ---- words

-- the words stand for some settings, or for none
abbrev pub StandForSome : List (List ℕ) → Type 0
StandForSome words = (settings : Settings) × StandFor words settings

abbrev pub StandForNone : List (List ℕ) → Type 0
StandForNone words = (settings : Settings) → StandFor words settings → ⊥

-- ---- runs

-- words and source ask for a run: the words stand for settings, and the source gave an input that is run
pub record Request (words : List (List ℕ)) (reading : Reading) : Type 0 where
  pub settings : Settings
  pub stand : StandFor words settings
  pub input : Input
  pub given : GivesInput reading input
  pub built : IsBuilt input

-- what is handed out of a run beside its text: the journal, where the last settling was done, and the answers
pub record Account : Type 0 where
  pub journal : Option (List JournalPhase)
  pub answers : List Answer

abbrev pub nothing_run : Account
nothing_run = record { journal = None; answers = [] }

-- behind each settling of the run the loader had refused as often as the loads owe that stayed pending
abbrev pub RefusedAsOwed : (input : Input) → ℕ → LoaderCounts → (journal : List JournalPhase) → (answers : List Answer) → IsRun (component_of input) input.script journal answers → Type 0
RefusedAsOwed input rounds counts journal answers run =
    RoseByTogether (refusals_of (component_of input) rounds (states_of (held_arrived run.keys (first_held (component_of input))) run.steps))
    counts.faults counts.faults_after counts.not_yets counts.not_yets_after

-- the input was run to its last settling, each of up to so many rounds, with this account
pub record WasRun (input : Input) (rounds : ℕ) (counts : LoaderCounts) (account : Account) : Type 0 where
  pub journal : List JournalPhase
  pub journal_is : account.journal ≡ Some journal
  pub run : IsRun (component_of input) input.script journal account.answers
  pub refused : RefusedAsOwed input rounds counts journal account.answers run

-- it was run, and ends with its page as this text, in which the report comes first where it is asked for
abbrev pub EndsAsPage : Input → Settings → Polling → Account → List ℕ → Type 0
EndsAsPage input settings polling account text =
    (was : WasRun input settings.rounds polling.counts account) × EndsWithPage (component_of input) (phases_of was.run.steps) was.run.last settings.answers text

-- A loader that goes by the attempts alone leaves loads pending only where the rounds are too few.
abbrev pub IsLate : Input → ℕ → Polling → Type 0
IsLate input rounds polling = OnTrue polling.is_prompt (rounds < enough_rounds (component_of input))

-- it was run, and ends with these loads pending
abbrev pub EndsAsWaiting : Input → Settings → Polling → List ℕ → Account → List ℕ → Type 0
EndsAsWaiting input settings polling loads account text =
    (was : WasRun input settings.rounds polling.counts account) × EndsWaiting (component_of input) (phases_of was.run.steps) was.run.last settings.answers loads text × IsLate input settings.rounds polling

-- ---- what is due

-- What is due of an input that was run to its last settling. Memory may lack for its text.
abbrev pub IsRunDue : Input → Settings → Polling → Outcome → Account → List ℕ → Type 0
IsRunDue input settings polling Page account text = EndsAsPage input settings polling account text
IsRunDue input settings polling BadWords account text = ⊥
IsRunDue input settings polling (BadText kind place) account text = ⊥
IsRunDue input settings polling (Waiting loads) account text = EndsAsWaiting input settings polling loads account text
IsRunDue input settings polling Unbuilt account text = ⊥
IsRunDue input settings polling ReadFault account text = ⊥
IsRunDue input settings polling WriteFault account text = ⊥
IsRunDue input settings polling NoMemory account text = (own_line NoMemory ≡ Some text) × WasRun input settings.rounds polling.counts account
IsRunDue input settings polling TooLong account text = ⊥

-- the outcome writes its own line, and nothing was run
abbrev pub IsLine : Outcome → Account → List ℕ → Type 0
IsLine outcome account text = (own_line outcome ≡ Some text) × (account ≡ nothing_run)

-- nothing was run, or what words and source ask for was run to its last settling
abbrev pub IsNoneOrRun : List (List ℕ) → Reading → Polling → Account → Type 0
IsNoneOrRun words reading polling account = (account ≡ nothing_run) ⊎ ((request : Request words reading) × WasRun request.input request.settings.rounds polling.counts account)

-- The outcome is due, with this account, and this is what it writes: by the words, which come first, then by what was
-- read, then by the run. A failed write takes the place of another outcome, and is never due by itself.
abbrev pub IsDue : List (List ℕ) → Reading → Polling → Outcome → Account → List ℕ → Type 0
IsDue words reading polling Page account text = (request : Request words reading) × EndsAsPage request.input request.settings polling account text
IsDue words reading polling BadWords account text = StandForNone words × IsLine BadWords account text
IsDue words reading polling (BadText kind place) account text = StandForSome words × GivesEnd reading (λ bytes. IsBad bytes kind place) × IsLine (BadText kind place) account text
IsDue words reading polling (Waiting loads) account text = (request : Request words reading) × EndsAsWaiting request.input request.settings polling loads account text
IsDue words reading polling Unbuilt account text = StandForSome words × (input : Input) × GivesInput reading input × (¬ IsBuilt input) × IsLine Unbuilt account text
IsDue words reading polling ReadFault account text = StandForSome words × Rose reading.faults reading.faults_after × IsLine ReadFault account text
IsDue words reading polling WriteFault account text = ⊥
IsDue words reading polling NoMemory account text = (own_line NoMemory ≡ Some text) × IsNoneOrRun words reading polling account
IsDue words reading polling TooLong account text = StandForSome words × GivesTooMany reading × IsLine TooLong account text

-- ---- and when it comes

-- what may take the place of any outcome: a failed write, and want of memory
abbrev pub IsOr : Outcome → Outcome → Type 0
IsOr due outcome = (outcome ≡ due) ⊎ ((outcome ≡ WriteFault) ⊎ (outcome ≡ NoMemory))

-- and behind the words a failed read
abbrev pub IsReadOr : Outcome → Outcome → Type 0
IsReadOr due outcome = IsOr due outcome ⊎ (outcome ≡ ReadFault)

-- a run ends with its page or with loads that are pending, or one of these takes its place
abbrev pub IsRunOr : Outcome → Type 0
IsRunOr outcome = ((loads : List ℕ) × (outcome ≡ Waiting loads)) ⊎ IsReadOr Page outcome
