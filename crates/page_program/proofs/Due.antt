-- What is due for an input that was read.
use Rattle.std.proofs.Common.{◌≡◌, ◌∙◌, ℕ, ◌≤◌, ◌<◌, ◌++◌, Bool, true, false, List, [], ◌∷◌, length, length-append, Option, Some, None, IfSome, Result, Ok, Err, codes, refl, sym, ap, subst, arith, inl, inr}
use Rattle.std.specs.Prelude.{IfOk, MatchResult}
use Rattle.std.specs.Bool.{OnTrue}
use Rattle.std.specs.List.{flat_map}
use Rattle.std.specs.Io.KnownBytes.{Consumes, IsAtEnd}
use Rattle.values.specs.declared.limits.TheConstants.{MOST_INPUT_BYTES}
use Rattle.command_words.specs.declared.settings.Settings.{Settings}
use Rattle.command_words.specs.Words.{StandFor, IsRounds}
use Rattle.component_items.specs.declared.component.Component.{Component}
use Rattle.component_items.specs.declared.refusal.Place.{Place}
use Rattle.load_meaning.specs.Polls.{enough_rounds}
use Rattle.outside.specs.Counts.{Rose}
use Rattle.plain_evaluation.specs.Page.{page_of}
use Rattle.script_items.specs.declared.operation.ScriptOp.{ScriptOp}
use Rattle.run_meaning.specs.Run.{phases_of}
use Rattle.run_meaning.specs.Ending.{report_if, waiting_line}
use Rattle.page_program.specs.declared.finish.Outcome.{Outcome}
use Rattle.page_program.specs.declared.finish.Outcome.TheVariants.{Page, BadWords, BadText, Waiting, Unbuilt, ReadFault, WriteFault, NoMemory, TooLong}
use Rattle.script_run.specs.declared.run.Ran.{Ran}
use Rattle.page_program.specs.Outcome.{own_line, bad_text_line}
use Rattle.page_program.specs.Run.{Reading, Polling, Input, Means, IsReadAs, IsBad, IsBuilt, GivesEnd, GivesInput, GivesTooMany, GaveAll, StandForSome, StandForNone, Request, Account, nothing_run, WasRun, IsRunDue, IsDue, component_of}
use Rattle.script_run.specs.Ran.{IsRanTo, LoaderCounts}
use Rattle.script_run.specs.Today.{RunsToday}

-- ---- what was read

-- all that was held, and no more
no_rest : (bytes rest : List ℕ) → bytes ≡ bytes ++ rest → rest ≡ []
no_rest bytes [] e = refl
no_rest bytes (b ∷ rest) e = let sizes = ap length e in let sum = length-append bytes (b ∷ rest) in absurd (omega arith)

end_in : (P : List ℕ → Type 0) (held left : Option (List ℕ)) (bytes : List ℕ) → Consumes held left bytes → IfSome held (λ all. bytes ≡ all)
    → length bytes ≤ MOST_INPUT_BYTES → P bytes → IfSome held (λ all. (length all ≤ MOST_INPUT_BYTES) × IsAtEnd left × P all)
end_in P None left bytes consumed whole few p = tt
end_in P (Some xs) None bytes consumed whole few p = absurd consumed
end_in P (Some xs) (Some ys) bytes consumed whole few p =
    (subst (λ b. length b ≤ MOST_INPUT_BYTES) whole few, no_rest bytes ys (whole ∙ consumed), subst P whole p)

pub gives_end : (P : List ℕ → Type 0) (reading : Reading) (bytes : List ℕ) → GaveAll reading bytes → length bytes ≤ MOST_INPUT_BYTES → P bytes → GivesEnd reading P
gives_end P reading bytes gave few p = end_in P reading.held reading.left bytes gave.0 gave.1 few p

-- words that stand for settings ask for a round at least
rounds_of : (text : Option (List ℕ)) (n : ℕ) → IsRounds text n → 1 ≤ n
rounds_of None n is = omega arith
rounds_of (Some text) n is = is.1

pub some_rounds : (words : List (List ℕ)) (settings : Settings) → StandFor words settings → 1 ≤ settings.rounds
some_rounds words settings stand = rounds_of stand.0 settings.rounds stand.2

abbrev pub polling_of : Bool → ℕ → ℕ → ℕ → ℕ → Polling
polling_of prompt faults faults_after not_yets not_yets_after =
    record { is_prompt = prompt; counts = record { faults = faults; faults_after = faults_after; not_yets = not_yets; not_yets_after = not_yets_after } }

-- ---- outcomes

pub due_as : (words : List (List ℕ)) (reading : Reading) (polling : Polling) (outcome due : Outcome) (account : Account) (text : List ℕ) → outcome ≡ due → IsDue words reading polling due account text → IsDue words reading polling outcome account text
due_as words reading polling outcome due account text is d = subst (λ o. IsDue words reading polling o account text) (sym is) d

pub lacking : (words : List (List ℕ)) (reading : Reading) (polling : Polling) (outcome : Outcome) (account : Account) (text : List ℕ) → outcome ≡ NoMemory → own_line outcome ≡ Some text → account ≡ nothing_run → IsDue words reading polling outcome account text
lacking words reading polling outcome account text is line none = due_as words reading polling outcome NoMemory account text is (subst (λ o. own_line o ≡ Some text) is line, inl none)

-- ---- what writes its own line, where nothing was run

pub words_due : (words : List (List ℕ)) (reading : Reading) (polling : Polling) (outcome : Outcome) (account : Account) (text : List ℕ) → StandForNone words
    → outcome ≡ BadWords → text ≡ codes "usage: page [-a] [--rounds N] | page big N\n" → account ≡ nothing_run → IsDue words reading polling outcome account text
words_due words reading polling outcome account text none is line nothing = due_as words reading polling outcome BadWords account text is (none, (ap (λ t. Some t) (sym line), nothing))

pub failed_due : (words : List (List ℕ)) (reading : Reading) (polling : Polling) (outcome : Outcome) (account : Account) (text : List ℕ) → StandForSome words → Rose reading.faults reading.faults_after
    → outcome ≡ ReadFault → text ≡ codes "read fault\n" → account ≡ nothing_run → IsDue words reading polling outcome account text
failed_due words reading polling outcome account text some rose is line nothing = due_as words reading polling outcome ReadFault account text is (some, rose, (ap (λ t. Some t) (sym line), nothing))

pub long_due : (words : List (List ℕ)) (reading : Reading) (polling : Polling) (outcome : Outcome) (account : Account) (text : List ℕ) → StandForSome words → GivesTooMany reading
    → outcome ≡ TooLong → text ≡ codes "too long\n" → account ≡ nothing_run → IsDue words reading polling outcome account text
long_due words reading polling outcome account text some many is line nothing = due_as words reading polling outcome TooLong account text is (some, many, (ap (λ t. Some t) (sym line), nothing))

pub bad_due : (words : List (List ℕ)) (reading : Reading) (polling : Polling) (kind : ℕ) (place : Place) (outcome : Outcome) (account : Account) (text : List ℕ) → StandForSome words → GivesEnd reading (λ bytes. IsBad bytes kind place)
    → outcome ≡ BadText kind place → text ≡ bad_text_line kind place → account ≡ nothing_run → IsDue words reading polling outcome account text
bad_due words reading polling kind place outcome account text some bad is line nothing = due_as words reading polling outcome (BadText kind place) account text is (some, bad, (ap (λ t. Some t) (sym line), nothing))

pub unbuilt_due : (words : List (List ℕ)) (reading : Reading) (polling : Polling) (input : Input) (outcome : Outcome) (account : Account) (text : List ℕ) → StandForSome words → GivesInput reading input → (IsBuilt input → ⊥)
    → outcome ≡ Unbuilt → text ≡ codes "not built\n" → account ≡ nothing_run → IsDue words reading polling outcome account text
unbuilt_due words reading polling input outcome account text some given lacks is line nothing = due_as words reading polling outcome Unbuilt account text is (some, input, given, lacks, (ap (λ t. Some t) (sym line), nothing))

-- ---- what was run

-- what is due of a run is due where words and source ask for that
pub run_due : (words : List (List ℕ)) (reading : Reading) (polling : Polling) (request : Request words reading) (outcome : Outcome) (account : Account) (text : List ℕ)
    → IsRunDue request.input request.settings polling outcome account text → IsDue words reading polling outcome account text
run_due words reading polling request Page account text due = (request, due)
run_due words reading polling request BadWords account text due = absurd due
run_due words reading polling request (BadText kind place) account text due = absurd due
run_due words reading polling request (Waiting loads) account text due = (request, due)
run_due words reading polling request Unbuilt account text due = absurd due
run_due words reading polling request ReadFault account text due = absurd due
run_due words reading polling request WriteFault account text due = absurd due
run_due words reading polling request NoMemory account text due = (due.0, inr (request, due.1))
run_due words reading polling request TooLong account text due = absurd due

pub requested : (words : List (List ℕ)) (reading : Reading) (settings : Settings) (input : Input) → StandFor words settings → GivesInput reading input → IsBuilt input → Request words reading
requested words reading settings input stand given built = record { settings = settings; stand = stand; input = input; given = given; built = built }

-- ---- how a run ends

pub was_run : (input : Input) (asked : Bool) (rounds : ℕ) (counts : LoaderCounts) (ran : Ran) (account : Account) → IsRanTo (component_of input) input.script asked rounds counts ran
    → account ≡ record { journal = Some ran.still.journal; answers = ran.answers } → WasRun input rounds counts account
was_run input asked rounds counts ran account to is = record {
  journal = ran.still.journal;
  journal_is = ap (λ (a : Account). a.journal) is;
  run = record {
    keys = to.keys;
    steps = to.steps;
    last = ran.still.state.held;
    runs = to.runs;
    script_is = to.script_is;
    answers_are = to.answers_are ∙ sym (ap (λ (a : Account). a.answers) is);
    journal_is = to.journal_is;
  };
  refused = to.refused;
}

-- loads that stay pending although rounds that are enough bring them all: the rounds are too few
late : (prompt : Bool) (rounds enough : ℕ) (loads : List ℕ) → (loads ≡ [] → ⊥) → OnTrue prompt (enough ≤ rounds → loads ≡ []) → OnTrue prompt (rounds < enough)
late false rounds enough loads some all = tt
late true rounds enough loads some all = let few : (enough ≤ rounds) → ⊥ = λ e. some (all e) in omega arith

-- the text that was made is written, or memory lacked for it
abbrev pub Made : {X E : Type 0} → (X → List ℕ) → Result X E → Outcome → Outcome → List ℕ → Type 0
Made items made due outcome text = MatchResult made (λ t. (outcome ≡ due) × (text ≡ items t)) (λ _. (outcome ≡ NoMemory) × (own_line outcome ≡ Some text))

run_due_as : (input : Input) (settings : Settings) (polling : Polling) (outcome due : Outcome) (account : Account) (text : List ℕ) → outcome ≡ due → IsRunDue input settings polling due account text → IsRunDue input settings polling outcome account text
run_due_as input settings polling outcome due account text is d = subst (λ o. IsRunDue input settings polling o account text) (sym is) d

run_lacking : (input : Input) (settings : Settings) (polling : Polling) (outcome : Outcome) (account : Account) (text : List ℕ) → outcome ≡ NoMemory → own_line outcome ≡ Some text → WasRun input settings.rounds polling.counts account → IsRunDue input settings polling outcome account text
run_lacking input settings polling outcome account text is line was = run_due_as input settings polling outcome NoMemory account text is (subst (λ o. own_line o ≡ Some text) is line, was)

-- nothing is pending: the text is the report and then the page
pub ended_with_page : {X E : Type 0} (made : Result X E) (items : X → List ℕ) (input : Input) (settings : Settings) (polling : Polling) (ran : Ran) (outcome : Outcome) (account : Account) (text : List ℕ)
    → IsRanTo (component_of input) input.script settings.answers settings.rounds polling.counts ran → ran.pending ≡ [] → account ≡ record { journal = Some ran.still.journal; answers = ran.answers }
    → IfOk made (λ t. items t ≡ ran.report.items ++ page_of ran.still.component ran.still.state.held) → Made items made Page outcome text
    → IsRunDue input settings polling outcome account text
unfolding was_run
ended_with_page (Ok t) items input settings polling ran outcome account text to none is written made_so =
    let was = was_run input settings.answers settings.rounds polling.counts ran account to is in
    run_due_as input settings polling outcome Page account text made_so.0 (
      was,
      record {
        none_pending = sym to.pending_is ∙ none;
        text_is = made_so.1 ∙ (written ∙ (ap (λ r. r ++ page_of ran.still.component ran.still.state.held) to.report_is
            ∙ ap (λ c. report_if settings.answers (component_of input) (phases_of to.steps) ++ page_of c ran.still.state.held) to.component_is));
      },
    )
ended_with_page (Err e) items input settings polling ran outcome account text to none is written lacks =
    run_lacking input settings polling outcome account text lacks.0 lacks.1 (was_run input settings.answers settings.rounds polling.counts ran account to is)

-- loads are pending: the text is the report and then their lines
pub ended_waiting : {X E : Type 0} (made : Result X E) (items : X → List ℕ) (input : Input) (settings : Settings) (polling : Polling) (ran : Ran) (outcome : Outcome) (account : Account) (text : List ℕ)
    → IsRanTo (component_of input) input.script settings.answers settings.rounds polling.counts ran → (ran.pending ≡ [] → ⊥) → OnTrue polling.is_prompt (enough_rounds (component_of input) ≤ settings.rounds → ran.pending ≡ []) → account ≡ record { journal = Some ran.still.journal; answers = ran.answers }
    → IfOk made (λ t. items t ≡ ran.report.items ++ flat_map (waiting_line ran.still.component) ran.pending) → Made items made (Waiting ran.pending) outcome text
    → IsRunDue input settings polling outcome account text
unfolding was_run
ended_waiting (Ok t) items input settings polling ran outcome account text to some all is written made_so =
    let was = was_run input settings.answers settings.rounds polling.counts ran account to is in
    run_due_as input settings polling outcome (Waiting ran.pending) account text made_so.0 (
      was,
      record {
        some_pending = some;
        loads_are = to.pending_is;
        text_is = made_so.1 ∙ (written ∙ (ap (λ r. r ++ flat_map (waiting_line ran.still.component) ran.pending) to.report_is
            ∙ ap (λ c. report_if settings.answers (component_of input) (phases_of to.steps) ++ flat_map (waiting_line c) ran.pending) to.component_is));
      },
      late polling.is_prompt settings.rounds (enough_rounds (component_of input)) ran.pending some all,
    )
ended_waiting (Err e) items input settings polling ran outcome account text to some all is written lacks =
    run_lacking input settings polling outcome account text lacks.0 lacks.1 (was_run input settings.answers settings.rounds polling.counts ran account to is)

-- ---- an input that was read

pub unbuilt_at : (script : List (List (List ScriptOp))) (input : Input) → script ≡ input.script → (RunsToday script → ⊥) → IsBuilt input → ⊥
unbuilt_at script input same lacks built = lacks (subst RunsToday (sym same) built)

pub run_of_read : (words : List (List ℕ)) (reading : Reading) (polling : Polling) (settings : Settings) (bytes : List ℕ) (component : Component) (script : List (List (List ScriptOp))) (ran : Ran) (outcome : Outcome) (account : Account) (text : List ℕ)
    → StandFor words settings → GaveAll reading bytes → length bytes ≤ MOST_INPUT_BYTES → IsReadAs bytes component script → RunsToday script → IsRanTo component script settings.answers settings.rounds polling.counts ran
    → OnTrue polling.is_prompt (enough_rounds component ≤ settings.rounds → ran.pending ≡ [])
    → ((input : Input) (settings : Settings) (polling : Polling) → IsRanTo (component_of input) input.script settings.answers settings.rounds polling.counts ran
    → OnTrue polling.is_prompt (enough_rounds (component_of input) ≤ settings.rounds → ran.pending ≡ []) → IsRunDue input settings polling outcome account text)
    → IsDue words reading polling outcome account text
unfolding requested
run_of_read words reading polling settings bytes component script ran outcome account text stand gave few read runs to all ended =
    let input = read.0 in
    let given = gives_end (λ b. Means b input) reading bytes gave few read.1 in
    let built = subst RunsToday read.3 runs in
    let to_input = subst (λ s. IsRanTo (component_of input) s settings.answers settings.rounds polling.counts ran) read.3 (subst (λ c. IsRanTo c script settings.answers settings.rounds polling.counts ran) read.2 to) in
    let all_input = subst (λ c. OnTrue polling.is_prompt (enough_rounds c ≤ settings.rounds → ran.pending ≡ [])) read.2 all in
    run_due words reading polling (requested words reading settings input stand given built) outcome account text (ended input settings polling to_input all_input)

-- words that stand for settings are not refused
pub never_bad_words : (words : List (List ℕ)) (reading : Reading) (polling : Polling) (outcome : Outcome) (account : Account) (text : List ℕ) → StandForSome words → IsDue words reading polling outcome account text → outcome ≡ BadWords → ⊥
never_bad_words words reading polling outcome account text some due is = (subst (λ o. IsDue words reading polling o account text) is due).0 some.0 some.1
