-- What a run that ended says of its words and of the bytes of its source.
use Rattle.std.proofs.Common.{◌≡◌, ◌∙◌, ℕ, ◌<◌, ◌≤◌, Bool, true, false, List, [], length, length-append, Option, Some, None, IfSome, refl, sym, ap, ap₂, subst, arith, inl, inr}
use Rattle.std.specs.Bool.{OnTrue}
use Rattle.command_words.specs.declared.settings.Settings.{Settings}
use Rattle.command_words.specs.Words.{StandFor}
use Rattle.command_words.proofs.Unique.{one as one_settings}
use Rattle.load_meaning.specs.Polls.{enough_rounds}
use Rattle.values.specs.declared.limits.TheConstants.{MOST_INPUT_BYTES}
use Rattle.component_items.specs.declared.component.Component.{Component}
use Rattle.component_items.specs.declared.refusal.Place.{Place}
use Rattle.outside.specs.Counts.{RoseByTogether}
use Rattle.component_items.specs.declared.refusal.Refusal.{Refusal}
use Rattle.component_items.specs.declared.refusal.Refusal.TheVariants.{Bad}
use Rattle.component_items.specs.declared.refusal.Why.{Why}
use Rattle.component_items.specs.Why.{number_of}
use Rattle.script_items.specs.declared.operation.ScriptOp.{ScriptOp}
use Rattle.script_meaning.proofs.InputDecided as decided
use Rattle.run_items.specs.Journal.{JournalPhase}
use Rattle.run_meaning.specs.Run.{IsRun}
use Rattle.page_program.specs.declared.finish.Outcome.{Outcome}
use Rattle.page_program.specs.declared.finish.Outcome.TheVariants.{Page, BadWords, BadText, Waiting, Unbuilt, ReadFault, WriteFault, NoMemory, TooLong}
use Rattle.script_run.specs.Ran.{LoaderCounts}
use Rattle.page_program.specs.Outcome.{own_line, is_before_run}
use Rattle.page_program.proofs.Refused.{refused_once}
use Rattle.page_program.specs.Run.{Reading, EndsAsWaiting, Polling, RefusedAsOwed, Input, Means, IsBad, IsBuilt, GivesTooMany, Request, Account, nothing_run, WasRun, IsNoneOrRun, IsDue, IsOr, IsReadOr, IsRunOr, StandForNone, StandForSome, component_of}

abbrev pub reading_of : Option (List ℕ) → Option (List ℕ) → ℕ → ℕ → Reading
reading_of held left faults after = record { held = held; left = left; faults = faults; faults_after = after }

-- a run ended with the outcome, and wrote what A says of its text
abbrev pub Ended : List (List ℕ) → Reading → Polling → Outcome → Account → (List ℕ → Type 0) → Type 0
Ended words reading polling outcome account A = (outcome ≡ WriteFault → ⊥) → (text : List ℕ) × IsDue words reading polling outcome account text × A text

-- ---- what an outcome that was due says

-- a failed write is never due
pub never_a_failed_write : (words : List (List ℕ)) (reading : Reading) (polling : Polling) (outcome : Outcome) (account : Account) (text : List ℕ) → IsDue words reading polling outcome account text → outcome ≡ WriteFault → ⊥
never_a_failed_write words reading polling outcome account text due is = subst (λ o. IsDue words reading polling o account text) is due

pub due_with : (words : List (List ℕ)) (reading : Reading) (polling : Polling) (outcome : Outcome) (account own : Account) (text : List ℕ) → account ≡ own → IsDue words reading polling outcome own text → IsDue words reading polling outcome account text
due_with words reading polling outcome account own text same due = subst (λ a. IsDue words reading polling outcome a text) (sym same) due

-- an outcome that no failed write took the place of was due
pub as_due : (outcome due here : Outcome) (A : List ℕ → Type 0) (text : List ℕ) → ((outcome ≡ WriteFault → ⊥) → (outcome ≡ due) × A text) → outcome ≡ here → (here ≡ WriteFault → ⊥) → due ≡ here
as_due outcome due here A text whole is differs = sym (whole (λ w. differs (sym is ∙ w))).0 ∙ is

-- what was due is written, where no write failed
pub ended_as : (words : List (List ℕ)) (reading : Reading) (polling : Polling) (outcome due : Outcome) (account own : Account) (text : List ℕ) (A : List ℕ → Type 0) → IsDue words reading polling due own text → account ≡ own
    → ((outcome ≡ WriteFault → ⊥) → (outcome ≡ due) × A text) → Ended words reading polling outcome account A
ended_as words reading polling outcome due account own text A is same whole = λ not_fault.
    let written = whole not_fault in
    (text, subst (λ o. IsDue words reading polling o account text) (sym written.0) (due_with words reading polling due account own text same is), written.1)

pub due_at : (words : List (List ℕ)) (reading : Reading) (polling : Polling) (outcome due : Outcome) (account : Account) (A : List ℕ → Type 0) → (due ≡ WriteFault → ⊥) → Ended words reading polling outcome account A → outcome ≡ due
    → (text : List ℕ) × IsDue words reading polling due account text × A text
due_at words reading polling outcome due account A differs ended e =
    let found = ended (λ w. differs (sym e ∙ w)) in
    (found.0, subst (λ o. IsDue words reading polling o account found.0) e found.1, found.2)

-- the line of an outcome that has one is its text
one_line : (A : List ℕ → Type 0) (line text : List ℕ) → (let own : Option (List ℕ) = Some line in own ≡ Some text) → A text → A line
one_line A line text is a = subst A (cc) a

pub line_written : (words : List (List ℕ)) (reading : Reading) (polling : Polling) (outcome : Outcome) (account : Account) (A : List ℕ → Type 0) → Ended words reading polling outcome account A → IfSome (own_line outcome) A
line_written words reading polling Page account A ended = tt
line_written words reading polling BadWords account A ended = let found = ended (λ e. cc) in one_line A _ found.0 found.1.1.0 found.2
line_written words reading polling (BadText kind place) account A ended = let found = ended (λ e. cc) in one_line A _ found.0 found.1.2.0 found.2
line_written words reading polling (Waiting loads) account A ended = tt
line_written words reading polling Unbuilt account A ended = let found = ended (λ e. cc) in one_line A _ found.0 found.1.4.0 found.2
line_written words reading polling ReadFault account A ended = let found = ended (λ e. cc) in one_line A _ found.0 found.1.2.0 found.2
line_written words reading polling WriteFault account A ended = tt
line_written words reading polling NoMemory account A ended = let found = ended (λ e. cc) in one_line A _ found.0 found.1.0 found.2
line_written words reading polling TooLong account A ended = let found = ended (λ e. cc) in one_line A _ found.0 found.1.2.0 found.2

-- ---- the journal and the answers

abbrev pub Ran : List (List ℕ) → Reading → Polling → Account → List JournalPhase → Type 0
Ran words reading polling account journal = (request : Request words reading) × (run : IsRun (component_of request.input) request.input.script journal account.answers)
    × RefusedAsOwed request.input request.settings.rounds polling.counts journal account.answers run

one_journal : (a b : List JournalPhase) → (let own : Option (List JournalPhase) = Some a in own ≡ Some b) → a ≡ b
one_journal a b e = cc

was_so : (words : List (List ℕ)) (reading : Reading) (polling : Polling) (request : Request words reading) (account : Account) (journal : List JournalPhase) → WasRun request.input request.settings.rounds polling.counts account → account.journal ≡ Some journal → Ran words reading polling account journal
was_so words reading polling request account journal was is =
    let found = subst (λ j. (run : IsRun (component_of request.input) request.input.script j account.answers) × RefusedAsOwed request.input request.settings.rounds polling.counts j account.answers run)
    (one_journal was.journal journal (sym was.journal_is ∙ is)) (was.run, was.refused) in
    (request, found.0, found.1)

none_run : (account : Account) → account ≡ nothing_run → account.journal ≡ None
none_run account is = ap (λ (a : Account). a.journal) is

not_some : (journal : Option (List JournalPhase)) (phases : List JournalPhase) → journal ≡ None → journal ≡ Some phases → ⊥
not_some journal phases none some = cc

nothing_ran : (words : List (List ℕ)) (reading : Reading) (polling : Polling) (account : Account) (journal : List JournalPhase) → account ≡ nothing_run → account.journal ≡ Some journal → Ran words reading polling account journal
nothing_ran words reading polling account journal none is = absurd (not_some account.journal journal (none_run account none) is)

ran_or_not : (words : List (List ℕ)) (reading : Reading) (polling : Polling) (account : Account) (journal : List JournalPhase) → IsNoneOrRun words reading polling account → account.journal ≡ Some journal → Ran words reading polling account journal
ran_or_not words reading polling account journal (inl none) is = nothing_ran words reading polling account journal none is
ran_or_not words reading polling account journal (inr was) is = was_so words reading polling was.0 account journal was.1 is

pub run_of_due : (words : List (List ℕ)) (reading : Reading) (polling : Polling) (outcome : Outcome) (account : Account) (text : List ℕ) (journal : List JournalPhase) → IsDue words reading polling outcome account text
    → account.journal ≡ Some journal → Ran words reading polling account journal
run_of_due words reading polling Page account text journal due is = was_so words reading polling due.0 account journal due.1.0 is
run_of_due words reading polling BadWords account text journal due is = nothing_ran words reading polling account journal due.1.1 is
run_of_due words reading polling (BadText kind place) account text journal due is = nothing_ran words reading polling account journal due.2.1 is
run_of_due words reading polling (Waiting loads) account text journal due is = was_so words reading polling due.0 account journal due.1.0 is
run_of_due words reading polling Unbuilt account text journal due is = nothing_ran words reading polling account journal due.4.1 is
run_of_due words reading polling ReadFault account text journal due is = nothing_ran words reading polling account journal due.2.1 is
run_of_due words reading polling WriteFault account text journal due is = absurd due
run_of_due words reading polling NoMemory account text journal due is = ran_or_not words reading polling account journal due.1 is
run_of_due words reading polling TooLong account text journal due is = nothing_ran words reading polling account journal due.2.1 is

none_or_answers : (words : List (List ℕ)) (reading : Reading) (polling : Polling) (account : Account) → IsNoneOrRun words reading polling account → account.journal ≡ None → account.answers ≡ []
none_or_answers words reading polling account (inl nothing) none = ap (λ (a : Account). a.answers) nothing
none_or_answers words reading polling account (inr was) none = absurd (not_some account.journal was.1.journal none was.1.journal_is)

pub no_answers : (words : List (List ℕ)) (reading : Reading) (polling : Polling) (outcome : Outcome) (account : Account) (text : List ℕ) → IsDue words reading polling outcome account text → account.journal ≡ None → account.answers ≡ []
no_answers words reading polling Page account text due none = absurd (not_some account.journal due.1.0.journal none due.1.0.journal_is)
no_answers words reading polling BadWords account text due none = ap (λ (a : Account). a.answers) due.1.1
no_answers words reading polling (BadText kind place) account text due none = ap (λ (a : Account). a.answers) due.2.1
no_answers words reading polling (Waiting loads) account text due none = absurd (not_some account.journal due.1.0.journal none due.1.0.journal_is)
no_answers words reading polling Unbuilt account text due none = ap (λ (a : Account). a.answers) due.4.1
no_answers words reading polling ReadFault account text due none = ap (λ (a : Account). a.answers) due.2.1
no_answers words reading polling WriteFault account text due none = absurd due
no_answers words reading polling NoMemory account text due none = none_or_answers words reading polling account due.1 none
no_answers words reading polling TooLong account text due none = ap (λ (a : Account). a.answers) due.2.1

pub no_journal : (words : List (List ℕ)) (reading : Reading) (polling : Polling) (outcome : Outcome) (account : Account) (A : List ℕ → Type 0) → Ended words reading polling outcome account A → is_before_run outcome ≡ true → account.journal ≡ None
no_journal words reading polling Page account A ended before = absurd (cc)
no_journal words reading polling BadWords account A ended before = none_run account (ended (λ e. cc)).1.1.1
no_journal words reading polling (BadText kind place) account A ended before = none_run account (ended (λ e. cc)).1.2.1
no_journal words reading polling (Waiting loads) account A ended before = absurd (cc)
no_journal words reading polling Unbuilt account A ended before = none_run account (ended (λ e. cc)).1.4.1
no_journal words reading polling ReadFault account A ended before = none_run account (ended (λ e. cc)).1.2.1
no_journal words reading polling WriteFault account A ended before = absurd (cc)
no_journal words reading polling NoMemory account A ended before = absurd (cc)
no_journal words reading polling TooLong account A ended before = none_run account (ended (λ e. cc)).1.2.1

-- ---- when an outcome comes

not_none : (words : List (List ℕ)) → StandForSome words → StandForNone words → ⊥
not_none words some none = none some.0 some.1

asked_for : (words : List (List ℕ)) (reading : Reading) → Request words reading → StandForNone words → ⊥
asked_for words reading request none = none request.settings request.stand

pub words_refused : (words : List (List ℕ)) (reading : Reading) (polling : Polling) (outcome : Outcome) (account : Account) (A : List ℕ → Type 0) → Ended words reading polling outcome account A → StandForNone words → IsOr BadWords outcome
words_refused words reading polling Page account A ended none = let found = ended (λ e. cc) in absurd (asked_for words reading found.1.0 none)
words_refused words reading polling BadWords account A ended none = inl refl
words_refused words reading polling (BadText kind place) account A ended none = let found = ended (λ e. cc) in absurd (not_none words found.1.0 none)
words_refused words reading polling (Waiting loads) account A ended none = let found = ended (λ e. cc) in absurd (asked_for words reading found.1.0 none)
words_refused words reading polling Unbuilt account A ended none = let found = ended (λ e. cc) in absurd (not_none words found.1.0 none)
words_refused words reading polling ReadFault account A ended none = let found = ended (λ e. cc) in absurd (not_none words found.1.0 none)
words_refused words reading polling WriteFault account A ended none = inr (inl refl)
words_refused words reading polling NoMemory account A ended none = inr (inr refl)
words_refused words reading polling TooLong account A ended none = let found = ended (λ e. cc) in absurd (not_none words found.1.0 none)

-- the source gave more than it held
too_many : (bytes : List ℕ) (left : Option (List ℕ)) (faults after : ℕ) → GivesTooMany (reading_of (Some bytes) left faults after) → length bytes ≤ MOST_INPUT_BYTES → ⊥
too_many bytes None faults after given few = given.2
too_many bytes (Some ys) faults after given few =
    let sizes = ap length given.2 in
    let sum = length-append given.0 ys in
    let read = given.1 in
    omega arith

pub longer_refused : (words : List (List ℕ)) (held left : Option (List ℕ)) (faults after : ℕ) (polling : Polling) (outcome : Outcome) (account : Account) (A : List ℕ → Type 0) → Ended words (reading_of held left faults after) polling outcome account A → StandForSome words
    → IfSome held (λ bytes. MOST_INPUT_BYTES < length bytes → IsReadOr TooLong outcome)
longer_refused words None left faults after polling outcome account A ended some = tt
longer_refused words (Some bytes) left faults after polling Page account A ended some = λ more. let found = ended (λ e. cc) in let few = found.1.0.given.0 in absurd (omega arith)
longer_refused words (Some bytes) left faults after polling BadWords account A ended some = λ more. let found = ended (λ e. cc) in absurd (not_none words some found.1.0)
longer_refused words (Some bytes) left faults after polling (BadText kind place) account A ended some = λ more. let found = ended (λ e. cc) in let few = found.1.1.0 in absurd (omega arith)
longer_refused words (Some bytes) left faults after polling (Waiting loads) account A ended some = λ more. let found = ended (λ e. cc) in let few = found.1.0.given.0 in absurd (omega arith)
longer_refused words (Some bytes) left faults after polling Unbuilt account A ended some = λ more. let found = ended (λ e. cc) in let few = found.1.2.0 in absurd (omega arith)
longer_refused words (Some bytes) left faults after polling ReadFault account A ended some = λ more. inr refl
longer_refused words (Some bytes) left faults after polling WriteFault account A ended some = λ more. inl (inr (inl refl))
longer_refused words (Some bytes) left faults after polling NoMemory account A ended some = λ more. inl (inr (inr refl))
longer_refused words (Some bytes) left faults after polling TooLong account A ended some = λ more. inl (inl refl)

-- bytes are refused for one reason at one place
same_refusal : (why other : Why) (place elsewhere : Place) → (let a : Refusal = Bad why place in a ≡ Bad other elsewhere) → (why ≡ other) × (place ≡ elsewhere)
same_refusal why other place elsewhere e = ((cc), (cc))

one_bad : (bytes : List ℕ) (kind other : ℕ) (place elsewhere : Place) → IsBad bytes kind place → IsBad bytes other elsewhere → BadText kind place ≡ BadText other elsewhere
one_bad bytes kind other place elsewhere a b =
    let same = same_refusal a.0 b.0 place elsewhere (decided.one_refusal bytes (Bad a.0 place) (Bad b.0 elsewhere) a.2 b.2) in
    ap₂ (λ k p. BadText k p) (a.1 ∙ (ap number_of same.0 ∙ sym b.1)) same.1

never_bad : (bytes : List ℕ) (input : Input) (kind : ℕ) (place : Place) → Means bytes input → IsBad bytes kind place → ⊥
never_bad bytes input kind place means bad = decided.never_both bytes input.component input.script input.texts (Bad bad.0 place) means bad.2

-- bytes are one input
abbrev input_of : Component → List (List (List ScriptOp)) → List (List ℕ) → Input
input_of component script texts = record { component = component; script = script; texts = texts }

same_input : (bytes : List ℕ) (a b : Input) → Means bytes a → Means bytes b → a ≡ b
same_input bytes a b means other =
    ap (λ c. input_of c a.script a.texts) (decided.one_component bytes a.component b.component a.script b.script a.texts b.texts means other)
    ∙ (ap (λ s. input_of b.component s a.texts) (decided.one_script bytes a.component b.component a.script b.script a.texts b.texts means other)
    ∙ ap (λ t. input_of b.component b.script t) (decided.one_table bytes a.component b.component a.script b.script a.texts b.texts means other))

same_built : (bytes : List ℕ) (a b : Input) → Means bytes a → Means bytes b → IsBuilt a → IsBuilt b
same_built bytes a b means other built = subst IsBuilt (same_input bytes a b means other) built

pub text_refused : (words : List (List ℕ)) (held left : Option (List ℕ)) (faults after : ℕ) (polling : Polling) (outcome : Outcome) (account : Account) (A : List ℕ → Type 0) → Ended words (reading_of held left faults after) polling outcome account A → StandForSome words
    → IfSome held (λ bytes. length bytes ≤ MOST_INPUT_BYTES → (kind : ℕ) (place : Place) → IsBad bytes kind place → IsReadOr (BadText kind place) outcome)
text_refused words None left faults after polling outcome account A ended some = tt
text_refused words (Some bytes) left faults after polling Page account A ended some = λ few kind place bad. let found = ended (λ e. cc) in absurd (never_bad bytes found.1.0.input kind place found.1.0.given.2 bad)
text_refused words (Some bytes) left faults after polling BadWords account A ended some = λ few kind place bad. let found = ended (λ e. cc) in absurd (not_none words some found.1.0)
text_refused words (Some bytes) left faults after polling (BadText own here) account A ended some = λ few kind place bad. let found = ended (λ e. cc) in inl (inl (one_bad bytes own kind here place found.1.1.2 bad))
text_refused words (Some bytes) left faults after polling (Waiting loads) account A ended some = λ few kind place bad. let found = ended (λ e. cc) in absurd (never_bad bytes found.1.0.input kind place found.1.0.given.2 bad)
text_refused words (Some bytes) left faults after polling Unbuilt account A ended some = λ few kind place bad. let found = ended (λ e. cc) in absurd (never_bad bytes found.1.1 kind place found.1.2.2 bad)
text_refused words (Some bytes) left faults after polling ReadFault account A ended some = λ few kind place bad. inr refl
text_refused words (Some bytes) left faults after polling WriteFault account A ended some = λ few kind place bad. inl (inr (inl refl))
text_refused words (Some bytes) left faults after polling NoMemory account A ended some = λ few kind place bad. inl (inr (inr refl))
text_refused words (Some bytes) left faults after polling TooLong account A ended some = λ few kind place bad. let found = ended (λ e. cc) in absurd (too_many bytes left faults after found.1.1 few)

pub input_unbuilt : (words : List (List ℕ)) (held left : Option (List ℕ)) (faults after : ℕ) (polling : Polling) (outcome : Outcome) (account : Account) (A : List ℕ → Type 0) → Ended words (reading_of held left faults after) polling outcome account A → StandForSome words
    → IfSome held (λ bytes. length bytes ≤ MOST_INPUT_BYTES → (input : Input) → Means bytes input → (IsBuilt input → ⊥) → IsReadOr Unbuilt outcome)
input_unbuilt words None left faults after polling outcome account A ended some = tt
input_unbuilt words (Some bytes) left faults after polling Page account A ended some = λ few input means lacks. let found = ended (λ e. cc) in
    absurd (lacks (same_built bytes found.1.0.input input found.1.0.given.2 means found.1.0.built))
input_unbuilt words (Some bytes) left faults after polling BadWords account A ended some = λ few input means lacks. let found = ended (λ e. cc) in absurd (not_none words some found.1.0)
input_unbuilt words (Some bytes) left faults after polling (BadText own here) account A ended some = λ few input means lacks. let found = ended (λ e. cc) in absurd (never_bad bytes input own here means found.1.1.2)
input_unbuilt words (Some bytes) left faults after polling (Waiting loads) account A ended some = λ few input means lacks. let found = ended (λ e. cc) in
    absurd (lacks (same_built bytes found.1.0.input input found.1.0.given.2 means found.1.0.built))
input_unbuilt words (Some bytes) left faults after polling Unbuilt account A ended some = λ few input means lacks. inl (inl refl)
input_unbuilt words (Some bytes) left faults after polling ReadFault account A ended some = λ few input means lacks. inr refl
input_unbuilt words (Some bytes) left faults after polling WriteFault account A ended some = λ few input means lacks. inl (inr (inl refl))
input_unbuilt words (Some bytes) left faults after polling NoMemory account A ended some = λ few input means lacks. inl (inr (inr refl))
input_unbuilt words (Some bytes) left faults after polling TooLong account A ended some = λ few input means lacks. let found = ended (λ e. cc) in absurd (too_many bytes left faults after found.1.1 few)

pub input_written : (words : List (List ℕ)) (held left : Option (List ℕ)) (faults after : ℕ) (polling : Polling) (outcome : Outcome) (account : Account) (A : List ℕ → Type 0) → Ended words (reading_of held left faults after) polling outcome account A → StandForSome words
    → IfSome held (λ bytes. length bytes ≤ MOST_INPUT_BYTES → (input : Input) → Means bytes input → IsBuilt input → IsRunOr outcome)
input_written words None left faults after polling outcome account A ended some = tt
input_written words (Some bytes) left faults after polling Page account A ended some = λ few input means has. inr (inl (inl refl))
input_written words (Some bytes) left faults after polling BadWords account A ended some = λ few input means has. let found = ended (λ e. cc) in absurd (not_none words some found.1.0)
input_written words (Some bytes) left faults after polling (BadText own here) account A ended some = λ few input means has. let found = ended (λ e. cc) in absurd (never_bad bytes input own here means found.1.1.2)
input_written words (Some bytes) left faults after polling (Waiting loads) account A ended some = λ few input means has. inl (loads, refl)
input_written words (Some bytes) left faults after polling Unbuilt account A ended some = λ few input means has. let found = ended (λ e. cc) in
    absurd (found.1.3 (same_built bytes input found.1.1 means found.1.2.2 has))
input_written words (Some bytes) left faults after polling ReadFault account A ended some = λ few input means has. inr (inr refl)
input_written words (Some bytes) left faults after polling WriteFault account A ended some = λ few input means has. inr (inl (inr (inl refl)))
input_written words (Some bytes) left faults after polling NoMemory account A ended some = λ few input means has. inr (inl (inr (inr refl)))
input_written words (Some bytes) left faults after polling TooLong account A ended some = λ few input means has. let found = ended (λ e. cc) in absurd (too_many bytes left faults after found.1.1 few)

-- ---- a loader that goes by the attempts alone

promptly : Bool → LoaderCounts → Polling
promptly prompt counts = record { is_prompt = prompt; counts = counts }

-- loads stay pending only where the rounds are too few
never_late : (words : List (List ℕ)) (bytes : List ℕ) (left : Option (List ℕ)) (faults after : ℕ) (counts : LoaderCounts) (outcome : Outcome) (account : Account) (A : List ℕ → Type 0)
    → Ended words (reading_of (Some bytes) left faults after) (promptly true counts) outcome account A → (settings : Settings) → StandFor words settings → (input : Input) → Means bytes input
    → enough_rounds (component_of input) ≤ settings.rounds → (loads : List ℕ) → outcome ≡ Waiting loads → ⊥
unfolding promptly
never_late words bytes left faults after counts outcome account A ended settings stand input means enough loads is =
    let found = due_at words (reading_of (Some bytes) left faults after) (promptly true counts) outcome (Waiting loads) account A (λ w. cc) ended is in
    let request = found.1.0 in
    let late : request.settings.rounds < enough_rounds (component_of request.input) = found.1.1.2 in
    let of_settings = subst (λ (s : Settings). s.rounds < enough_rounds (component_of request.input)) (one_settings words request.settings settings request.stand stand) late in
    let of_input = subst (λ (i : Input). settings.rounds < enough_rounds (component_of i)) (same_input bytes request.input input request.given.2 means) of_settings in
    omega arith

then_written : (outcome : Outcome) → IsRunOr outcome → ((loads : List ℕ) → outcome ≡ Waiting loads → ⊥) → IsReadOr Page outcome
then_written outcome (inl late) never = absurd (never late.0 late.1)
then_written outcome (inr written) never = written

enough_written : (words : List (List ℕ)) (held left : Option (List ℕ)) (faults after : ℕ) (counts : LoaderCounts) (outcome : Outcome) (account : Account) (A : List ℕ → Type 0)
    → Ended words (reading_of held left faults after) (promptly true counts) outcome account A → (settings : Settings) → StandFor words settings
    → IfSome held (λ bytes. length bytes ≤ MOST_INPUT_BYTES → (input : Input) → Means bytes input → IsBuilt input → enough_rounds (component_of input) ≤ settings.rounds → IsReadOr Page outcome)
enough_written words None left faults after counts outcome account A ended settings stand = tt
enough_written words (Some bytes) left faults after counts outcome account A ended settings stand = λ few input means built enough.
    then_written outcome (input_written words (Some bytes) left faults after (promptly true counts) outcome account A ended (settings, stand) few input means built)
    (never_late words bytes left faults after counts outcome account A ended settings stand input means enough)

pub promptly_written : (words : List (List ℕ)) (held left : Option (List ℕ)) (faults after : ℕ) (prompt : Bool) (counts : LoaderCounts) (outcome : Outcome) (account : Account) (A : List ℕ → Type 0)
    → Ended words (reading_of held left faults after) (record { is_prompt = prompt; counts = counts }) outcome account A
    → OnTrue prompt ((settings : Settings) → StandFor words settings
    → IfSome held (λ bytes. length bytes ≤ MOST_INPUT_BYTES → (input : Input) → Means bytes input → IsBuilt input → enough_rounds (component_of input) ≤ settings.rounds → IsReadOr Page outcome))
unfolding promptly
promptly_written words held left faults after false counts outcome account A ended = tt
promptly_written words held left faults after true counts outcome account A ended = enough_written words held left faults after counts outcome account A ended

-- ---- a run that waits

pub waited : {words : List (List ℕ)} {reading : Reading} (request : Request words reading) (polling : Polling) (loads : List ℕ) (account : Account) (text : List ℕ) → EndsAsWaiting request.input request.settings polling loads account text
    → RoseByTogether 1 polling.counts.faults polling.counts.faults_after polling.counts.not_yets polling.counts.not_yets_after
waited request polling loads account text ends =
    let run = ends.0.run in
    refused_once (component_of request.input) request.settings.rounds _ run.last run.steps loads polling.counts.faults polling.counts.faults_after polling.counts.not_yets polling.counts.not_yets_after
    run.runs ends.1.some_pending ends.1.loads_are ends.0.refused
