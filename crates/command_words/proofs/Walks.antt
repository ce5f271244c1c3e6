-- What the command makes of words, one after another.
use Rattle.std.proofs.Common.{◌≡◌, ◌∙◌, Bool, true, false, is_some, List, [], ◌∷◌, ◌++◌, Option, Some, None, refl, sym, ap, subst, codes}
use Rattle.std.specs.Prelude.{fold}
use Rattle.std.specs.List.{list_any}
use Rattle.std.proofs.Common.{arith, ap₂, inl, inr}
use Rattle.clap.specs.declared.error.Error.{Error}
use Rattle.clap.specs.declared.error.kind.ErrorKind.TheVariants.{OutOfMemory}
use Rattle.std.specs.Prelude.{slice_get, unwrap_or}
use Rattle.clap.specs.declared.parser.matches.ArgMatches.{ArgMatches}
use Rattle.clap.proofs.WalkLemmas.{first_value-rows, one_text-rows}
use Rattle.std.specs.Str.{bytes_eq}
use Rattle.clap.specs.Words.{HasKind, HasMatchesOf, kind_of as error_kind, found_of, is_simple, Row, Rule, Text, first_of, one_of, fault_of, is_simple_and_free}
use Rattle.clap.specs.Kinds.{Kinds, or_else}
use Rattle.clap.specs.Faults.{default_fault, level_fault, entered_fault, settle_fault, turn_fault, walk_fault, defaults_fault}
use Rattle.clap.specs.Simple.{Shape, built, entered}
use Rattle.clap.specs.Walk.{Held, Waiting, nothing_held, walk, has_row, idle, option, positional, Walk, settled, walked, walk_from, with_default, finished}
use Rattle.clap.specs.Lexer.{long_of, short_of}
use Rattle.clap.specs.declared.parser.matches.ValueSource.TheVariants.{CommandLine}
use Rattle.clap.specs.declared.builder.value_parser.Reading.TheVariants as reading
use Rattle.clap.proofs.OnLiterals.{clap_on_literals}
use Rattle.command_words.specs.Clap.{Found, IsValue, IsValueText, answers_text, answers_rule, rounds_rule, page_command, is_other_flag}
use Rattle.command_words.specs.Words.{Give, nothing, end_of_options, answers, rounds, joined_rounds}
use Rattle.command_words.proofs.WordKinds as kind
use Rattle.command_words.proofs.WordKinds.{Kind, kind_of}

is_plain : is_simple page_command ≡ true
unfolding clap_on_literals
is_plain = refl

pub is_free : is_simple_and_free page_command ≡ true
unfolding clap_on_literals
is_free = refl

abbrev top : Shape
top = (built page_command).top

abbrev rules : List Rule
rules = top.rules

abbrev answers_row : Row
answers_row = record { id = codes "answers"; values = codes "true" ∷ []; count = None; source = Some CommandLine; reading = reading.AsWritten }

abbrev rounds_row : Text → Row
rounds_row v = record { id = codes "rounds"; values = v ∷ []; count = None; source = Some CommandLine; reading = reading.AsWritten }

-- What was given so far: nothing, `-a`, a number, both in either order; a number last, which is not settled; or
-- `--rounds` last, which waits for its number.
pub data Form : Type 0 where
  none : Form
  a : Form
  r : Text → Form
  ar : Text → Form
  ra : Text → Form
  p : Text → Form
  q : Text → Form
  w : Form
  aw : Form

abbrev waiting_at : Form → Waiting
waiting_at w = option (codes "rounds")
waiting_at aw = option (codes "rounds")
waiting_at _ = idle

abbrev holding : List Row → Option (Text × List Text) → Held
holding rows pending = record { rows = rows; pending = pending; skip = 0 }

abbrev held_at : Form → Held
held_at none = holding [] None
held_at a = holding (answers_row ∷ []) None
held_at (r v) = holding (rounds_row v ∷ []) None
held_at (ar v) = holding (answers_row ∷ rounds_row v ∷ []) None
held_at (ra v) = holding (rounds_row v ∷ answers_row ∷ []) None
held_at (p v) = holding [] (Some (codes "rounds", v ∷ []))
held_at (q v) = holding (answers_row ∷ []) (Some (codes "rounds", v ∷ []))
held_at w = holding [] (Some (codes "rounds", []))
held_at aw = holding (answers_row ∷ []) (Some (codes "rounds", []))

abbrev at : Waiting → Held → Walk
at waiting held = record { held = held; waiting = waiting; position = 1; is_trailing = false; stopped = None }

abbrev walk_at : Form → Walk
walk_at f = at (waiting_at f) (held_at f)

-- the end of a walk over words, and its fault
abbrev end_of : Walk → List Text → Held
end_of walk words = (fold (walked rules []) walk words).held

abbrev fault_from : Walk → List Text → Kinds
fault_from walk words = or_else (walk_fault top [] walk words) (settle_fault rules false (end_of walk words))

-- what is found of the two options
pub record Finds (h : Held) (with_answers : Bool) (text : Option Text) : Type 0 where
  pub answers_are : one_of (codes "answers") (finished rules h) ≡ Some (answers_text with_answers)
  pub rounds_are : first_of (codes "rounds") (finished rules h) ≡ text

-- what words that are taken give, behind what was given so far
abbrev Result : Form → List Text → Type 0
Result none words = (with_answers : Bool) × (text : Option Text) × Give words with_answers text × Finds (end_of (walk_at none) words) with_answers text
Result a words = (text : Option Text) × Give words false text × Finds (end_of (walk_at a) words) true text
Result (r v) words = (with_answers : Bool) × Give words with_answers None × Finds (end_of (walk_at (r v)) words) with_answers (Some v)
Result (ar v) words = Give words false None × Finds (end_of (walk_at (ar v)) words) true (Some v)
Result (ra v) words = Give words false None × Finds (end_of (walk_at (ra v)) words) true (Some v)
Result (p v) words = (with_answers : Bool) × Give words with_answers None × Finds (end_of (walk_at (p v)) words) with_answers (Some v)
Result (q v) words = Give words false None × Finds (end_of (walk_at (q v)) words) true (Some v)
Result w words = (text : Text) × (more : List Text) × (with_answers : Bool) × (words ≡ text ∷ more) × Give more with_answers None × Finds (end_of (walk_at w) words) with_answers (Some text)
Result aw words = (text : Text) × (more : List Text) × (words ≡ text ∷ more) × Give more false None × Finds (end_of (walk_at aw) words) true (Some text)

-- ---- words that are refused at once

other_refused : (waiting : Waiting) (h : Held) (word name : Text) (v : Option Text) (rest : List Text) → long_of word ≡ Some (name, v) → bytes_eq (codes "rounds") name ≡ false → bytes_eq word (codes "--") ≡ false
    → fault_from (at waiting h) (word ∷ rest) ≡ [] → ⊥
unfolding clap_on_literals
other_refused idle h word name v rest long differs some e =
    let bad = rw (some, long, differs) at e in
    cc
other_refused (option id) h word name v rest long differs some e =
    let bad = rw (some, long, differs) at e in
    cc
other_refused positional h word name v rest long differs some e =
    let bad = rw (some, long, differs) at e in
    cc

plain_refused : (h : Held) (word : Text) (rest : List Text) → long_of word ≡ None → short_of word ≡ None → bytes_eq word (codes "--") ≡ false
    → fault_from (at idle h) (word ∷ rest) ≡ [] → ⊥
unfolding clap_on_literals
plain_refused h word rest long short some e =
    let bad = rw (some, long, short) at e in
    cc

-- ---- a second number is refused, at the latest at the end

abbrev Taken : List Text → Type 0
Taken words = list_any is_other_flag words ≡ false

first_taken : (word : Text) (rest : List Text) → Taken (word ∷ rest) → is_other_flag word ≡ false
first_taken word rest taken = grind arith

rest_taken : (word : Text) (rest : List Text) → Taken (word ∷ rest) → Taken rest
rest_taken word rest taken = grind arith

abbrev HasRounds : List Row → Type 0
HasRounds rows = has_row (codes "rounds") rows ≡ true

doomed_step : (rows : List Row) (x word : Text) → Kind word → (rest : List Text) → HasRounds rows → fault_from (at idle (holding rows (Some (codes "rounds", x ∷ [])))) (word ∷ rest) ≡ [] → ⊥
unfolding clap_on_literals
doomed_step rows x _ kind.dashes [] has e =
    let bad = rw has at e in
    cc
doomed_step rows x _ kind.dashes (y ∷ rest) has e = cc
doomed_step rows x _ kind.flag rest has e =
    let bad = rw has at e in
    cc
doomed_step rows x _ kind.option rest has e =
    let bad = rw has at e in
    cc
doomed_step rows x _ (kind.joined v) rest has e =
    let bad = rw has at e in
    cc
doomed_step rows x _ (kind.other word name v long differs some) rest has e = other_refused idle _ word name v rest long differs some e
doomed_step rows x _ (kind.plain word long short some) rest has e = plain_refused _ word rest long short some e

doomed_pending : (rows : List Row) (x : Text) (words : List Text) → Taken words → HasRounds rows → fault_from (at idle (holding rows (Some (codes "rounds", x ∷ [])))) words ≡ [] → ⊥
unfolding clap_on_literals
doomed_pending rows x [] taken has e =
    let bad = rw has at e in
    cc
doomed_pending rows x (word ∷ rest) taken has e = doomed_step rows x word (kind_of word (first_taken word rest taken)) rest has e

-- the word is the value that `--rounds` waits for
abbrev waits_with : List Row → Walk
waits_with rows = at (option (codes "rounds")) (holding rows (Some (codes "rounds", [])))

value_walked : (rows : List Row) (word : Text) → long_of word ≡ None → short_of word ≡ None → bytes_eq word (codes "--") ≡ false
    → walked rules [] (waits_with rows) word ≡ at idle (holding rows (Some (codes "rounds", word ∷ [])))
unfolding walked
value_walked rows word long short some = rw (some, long, short) refl

value_fine : (rows : List Row) (word : Text) → long_of word ≡ None → short_of word ≡ None → bytes_eq word (codes "--") ≡ false
    → turn_fault top [] (waits_with rows) word ≡ []
value_fine rows word long short some = rw (some, long, short) refl

value_met : (rows : List Row) (word : Text) (rest : List Text) → long_of word ≡ None → short_of word ≡ None → bytes_eq word (codes "--") ≡ false
    → (fault_from (waits_with rows) (word ∷ rest) ≡ fault_from (at idle (holding rows (Some (codes "rounds", word ∷ [])))) rest)
    × (end_of (waits_with rows) (word ∷ rest) ≡ end_of (at idle (holding rows (Some (codes "rounds", word ∷ [])))) rest)
unfolding walk_fault
value_met rows word rest long short some =
    let fine = value_fine rows word long short some in
    let met = value_walked rows word long short some in (
      ap (λ k. or_else (or_else k (walk_fault top [] (walked rules [] (waits_with rows) word) rest)) (settle_fault rules false (end_of (walked rules [] (waits_with rows) word) rest))) fine
          ∙ ap (λ x. fault_from x rest) met,
      ap (λ x. end_of x rest) met,
    )

doomed_waiting_step : (rows : List Row) (word : Text) → Kind word → (rest : List Text) → Taken rest → HasRounds rows → fault_from (at (option (codes "rounds")) (holding rows (Some (codes "rounds", [])))) (word ∷ rest) ≡ [] → ⊥
unfolding clap_on_literals
doomed_waiting_step rows _ kind.dashes [] taken has e = cc
doomed_waiting_step rows _ kind.dashes (y ∷ rest) taken has e = cc
doomed_waiting_step rows _ kind.flag rest taken has e = cc
doomed_waiting_step rows _ kind.option rest taken has e = cc
doomed_waiting_step rows _ (kind.joined v) rest taken has e = cc
doomed_waiting_step rows _ (kind.other word name v long differs some) rest taken has e = other_refused (option (codes "rounds")) _ word name v rest long differs some e
doomed_waiting_step rows _ (kind.plain word long short some) rest taken has e = doomed_pending rows word rest taken has (sym (value_met rows word rest long short some).0 ∙ e)

doomed : (rows : List Row) (words : List Text) → Taken words → HasRounds rows → fault_from (at (option (codes "rounds")) (holding rows (Some (codes "rounds", [])))) words ≡ [] → ⊥
unfolding clap_on_literals
doomed rows [] taken has e = cc
doomed rows (word ∷ rest) taken has e = doomed_waiting_step rows word (kind_of word (first_taken word rest taken)) rest (rest_taken word rest taken) has e

-- ---- what words that are taken give

at_end : (f : Form) → fault_from (walk_at f) [] ≡ [] → Result f []
unfolding clap_on_literals
at_end none e = (false, None, nothing, record { answers_are = refl; rounds_are = refl })
at_end a e = (None, nothing, record { answers_are = refl; rounds_are = refl })
at_end (r v) e = (false, nothing, record { answers_are = refl; rounds_are = refl })
at_end (ar v) e = (nothing, record { answers_are = refl; rounds_are = refl })
at_end (ra v) e = (nothing, record { answers_are = refl; rounds_are = refl })
at_end (p v) e = (false, nothing, record { answers_are = refl; rounds_are = refl })
at_end (q v) e = (nothing, record { answers_are = refl; rounds_are = refl })
at_end w e = cc
at_end aw e = cc

at_dashes : (f : Form) (rest : List Text) → fault_from (walk_at f) (codes "--" ∷ rest) ≡ [] → Result f (codes "--" ∷ rest)
unfolding clap_on_literals
at_dashes none [] e = (false, None, end_of_options, record { answers_are = refl; rounds_are = refl })
at_dashes a [] e = (None, end_of_options, record { answers_are = refl; rounds_are = refl })
at_dashes (r v) [] e = (false, end_of_options, record { answers_are = refl; rounds_are = refl })
at_dashes (ar v) [] e = (end_of_options, record { answers_are = refl; rounds_are = refl })
at_dashes (ra v) [] e = (end_of_options, record { answers_are = refl; rounds_are = refl })
at_dashes (p v) [] e = (false, end_of_options, record { answers_are = refl; rounds_are = refl })
at_dashes (q v) [] e = (end_of_options, record { answers_are = refl; rounds_are = refl })
at_dashes w [] e = cc
at_dashes aw [] e = cc
at_dashes none (y ∷ rest) e = cc
at_dashes a (y ∷ rest) e = cc
at_dashes (r v) (y ∷ rest) e = cc
at_dashes (ar v) (y ∷ rest) e = cc
at_dashes (ra v) (y ∷ rest) e = cc
at_dashes (p v) (y ∷ rest) e = cc
at_dashes (q v) (y ∷ rest) e = cc
at_dashes w (y ∷ rest) e = cc
at_dashes aw (y ∷ rest) e = cc

abbrev Goes : List Text → Type 0
Goes rest = (g : Form) → fault_from (walk_at g) rest ≡ [] → Result g rest

at_flag : (f : Form) (rest : List Text) → Goes rest → fault_from (walk_at f) (codes "-a" ∷ rest) ≡ [] → Result f (codes "-a" ∷ rest)
unfolding clap_on_literals
at_flag none rest go e = let more = go a e in (true, more.0, answers more.1, more.2)
at_flag a rest go e = cc
at_flag (r v) rest go e = let more = go (ra v) e in (true, answers more.0, more.1)
at_flag (ar v) rest go e = cc
at_flag (ra v) rest go e = cc
at_flag (p v) rest go e = let more = go (ra v) e in (true, answers more.0, more.1)
at_flag (q v) rest go e = cc
at_flag w rest go e = cc
at_flag aw rest go e = cc

at_option : (f : Form) (rest : List Text) → Taken rest → Goes rest → fault_from (walk_at f) (codes "--rounds" ∷ rest) ≡ [] → Result f (codes "--rounds" ∷ rest)
unfolding clap_on_literals
at_option none rest taken go e =
    let more = go w e in
    (more.2, Some more.0, subst (λ l. Give (codes "--rounds" ∷ l) more.2 (Some more.0)) (sym more.3) (rounds more.0 more.4), more.5)
at_option a rest taken go e =
    let more = go aw e in
    (Some more.0, subst (λ l. Give (codes "--rounds" ∷ l) false (Some more.0)) (sym more.2) (rounds more.0 more.3), more.4)
at_option (r v) rest taken go e = absurd (doomed (rounds_row v ∷ []) rest taken refl e)
at_option (ar v) rest taken go e = absurd (doomed (answers_row ∷ rounds_row v ∷ []) rest taken refl e)
at_option (ra v) rest taken go e = absurd (doomed (rounds_row v ∷ answers_row ∷ []) rest taken refl e)
at_option (p v) rest taken go e = absurd (doomed (rounds_row v ∷ []) rest taken refl e)
at_option (q v) rest taken go e = absurd (doomed (answers_row ∷ rounds_row v ∷ []) rest taken refl e)
at_option w rest taken go e = cc
at_option aw rest taken go e = cc

at_joined : (f : Form) (x : Text) (rest : List Text) → Goes rest → fault_from (walk_at f) ((codes "--rounds=" ++ x) ∷ rest) ≡ [] → Result f ((codes "--rounds=" ++ x) ∷ rest)
unfolding clap_on_literals
at_joined none x rest go e = let more = go (r x) e in (more.0, Some x, joined_rounds x more.1, more.2)
at_joined a x rest go e = let more = go (ar x) e in (Some x, joined_rounds x more.0, more.1)
at_joined (r v) x rest go e = cc
at_joined (ar v) x rest go e = cc
at_joined (ra v) x rest go e = cc
at_joined (p v) x rest go e = cc
at_joined (q v) x rest go e = cc
at_joined w x rest go e = cc
at_joined aw x rest go e = cc

at_plain : (f : Form) (word : Text) (rest : List Text) → long_of word ≡ None → short_of word ≡ None → bytes_eq word (codes "--") ≡ false → Goes rest
    → fault_from (walk_at f) (word ∷ rest) ≡ [] → Result f (word ∷ rest)
at_plain none word rest long short some go e = absurd (plain_refused _ word rest long short some e)
at_plain a word rest long short some go e = absurd (plain_refused _ word rest long short some e)
at_plain (r v) word rest long short some go e = absurd (plain_refused _ word rest long short some e)
at_plain (ar v) word rest long short some go e = absurd (plain_refused _ word rest long short some e)
at_plain (ra v) word rest long short some go e = absurd (plain_refused _ word rest long short some e)
at_plain (p v) word rest long short some go e = absurd (plain_refused _ word rest long short some e)
at_plain (q v) word rest long short some go e = absurd (plain_refused _ word rest long short some e)
at_plain w word rest long short some go e =
    let met = value_met [] word rest long short some in
    let more = go (p word) (sym met.0 ∙ e) in
    (word, rest, more.0, refl, more.1, subst (λ h. Finds h more.0 (Some word)) (sym met.1) more.2)
at_plain aw word rest long short some go e =
    let met = value_met (answers_row ∷ []) word rest long short some in
    let more = go (q word) (sym met.0 ∙ e) in
    (word, rest, refl, more.0, subst (λ h. Finds h true (Some word)) (sym met.1) more.1)

at_word : (f : Form) (word : Text) → Kind word → (rest : List Text) → Taken rest → Goes rest → fault_from (walk_at f) (word ∷ rest) ≡ [] → Result f (word ∷ rest)
at_word f _ kind.dashes rest taken go e = at_dashes f rest e
at_word f _ kind.flag rest taken go e = at_flag f rest go e
at_word f _ kind.option rest taken go e = at_option f rest taken go e
at_word f _ (kind.joined v) rest taken go e = at_joined f v rest go e
at_word f _ (kind.other word name v long differs some) rest taken go e = absurd (other_refused (waiting_at f) (held_at f) word name v rest long differs some e)
at_word f _ (kind.plain word long short some) rest taken go e = at_plain f word rest long short some go e

pub words_taken : (words : List Text) → Taken words → Goes words
words_taken [] taken f e = at_end f e
words_taken (word ∷ rest) taken f e =
    at_word f word (kind_of word (first_taken word rest taken)) rest (rest_taken word rest taken) (λ g more. words_taken rest (rest_taken word rest taken) g more) e

-- ---- words that give something are taken

abbrev Good : Form → List Text → Bool → Option Text → Type 0
Good f words with_answers text = (fault_from (walk_at f) words ≡ []) × Finds (end_of (walk_at f) words) with_answers text

-- both are given
full_ar : (v : Text) {words : List Text} → Give words false None → Good (ar v) words true (Some v)
unfolding clap_on_literals
full_ar v nothing = (refl, record { answers_are = refl; rounds_are = refl })
full_ar v end_of_options = (refl, record { answers_are = refl; rounds_are = refl })

full_ra : (v : Text) {words : List Text} → Give words false None → Good (ra v) words true (Some v)
unfolding clap_on_literals
full_ra v nothing = (refl, record { answers_are = refl; rounds_are = refl })
full_ra v end_of_options = (refl, record { answers_are = refl; rounds_are = refl })

full_q : (v : Text) {words : List Text} → Give words false None → Good (q v) words true (Some v)
unfolding clap_on_literals
full_q v nothing = (refl, record { answers_are = refl; rounds_are = refl })
full_q v end_of_options = (refl, record { answers_are = refl; rounds_are = refl })

-- the number is given
from_r : (v : Text) {words : List Text} {with_answers : Bool} → Give words with_answers None → Good (r v) words with_answers (Some v)
unfolding clap_on_literals
from_r v nothing = (refl, record { answers_are = refl; rounds_are = refl })
from_r v end_of_options = (refl, record { answers_are = refl; rounds_are = refl })
from_r v (answers more) = full_ra v more

from_p : (v : Text) {words : List Text} {with_answers : Bool} → Give words with_answers None → Good (p v) words with_answers (Some v)
unfolding clap_on_literals
from_p v nothing = (refl, record { answers_are = refl; rounds_are = refl })
from_p v end_of_options = (refl, record { answers_are = refl; rounds_are = refl })
from_p v (answers more) = full_ra v more

moved : (rows : List Row) (word : Text) (rest : List Text) (with_answers : Bool) → IsValue word
    → (fault_from (at idle (holding rows (Some (codes "rounds", word ∷ [])))) rest ≡ []) × Finds (end_of (at idle (holding rows (Some (codes "rounds", word ∷ [])))) rest) with_answers (Some word)
    → (fault_from (waits_with rows) (word ∷ rest) ≡ []) × Finds (end_of (waits_with rows) (word ∷ rest)) with_answers (Some word)
moved rows word rest with_answers value good =
    let met = value_met rows word rest value.long value.short value.some in
    (met.0 ∙ good.0, subst (λ h. Finds h with_answers (Some word)) (sym met.1) good.1)

-- `-a` is given
from_a : {words : List Text} {text : Option Text} → Give words false text → IsValueText text → Good a words true text
unfolding clap_on_literals
from_a nothing values = (refl, record { answers_are = refl; rounds_are = refl })
from_a end_of_options values = (refl, record { answers_are = refl; rounds_are = refl })
from_a (rounds {words = words} v more) values = moved (answers_row ∷ []) v words true (values v refl) (full_q v more)
from_a (joined_rounds v more) values = full_ar v more

pub from_none : {words : List Text} {with_answers : Bool} {text : Option Text} → Give words with_answers text → IsValueText text → Good none words with_answers text
unfolding clap_on_literals
from_none nothing values = (refl, record { answers_are = refl; rounds_are = refl })
from_none end_of_options values = (refl, record { answers_are = refl; rounds_are = refl })
from_none (answers more) values = from_a more values
from_none (rounds {words = words} {answers = with_answers} v more) values = moved [] v words with_answers (values v refl) (from_p v more)
from_none (joined_rounds v more) values = from_r v more

-- ---- the whole command

entered_none : (stop : Option (Text × List Text)) → entered (built page_command) stop ≡ None
entered_none None = refl
entered_none (Some x) = refl

entered_fine : (stop : Option (Text × List Text)) → entered_fault (built page_command) stop ≡ []
entered_fine None = refl
entered_fine (Some x) = refl

abbrev first_rule : Rule
first_rule = unwrap_or (slice_get rules 0) answers_rule

abbrev second_rule : Rule
second_rule = unwrap_or (slice_get rules 1) rounds_rule

answers_default : (rows : List Row) → default_fault rows first_rule ≡ []
answers_default rows = by_case (has_row (codes "answers") rows) refl
  where
    by_case : (b : Bool) → has_row (codes "answers") rows ≡ b → default_fault rows first_rule ≡ []
    by_case true is = rw is refl
    by_case false is = rw is refl

rounds_default : (rows : List Row) → default_fault rows second_rule ≡ []
rounds_default rows = by_case (has_row (codes "rounds") rows) refl
  where
    by_case : (b : Bool) → has_row (codes "rounds") rows ≡ b → default_fault rows second_rule ≡ []
    by_case true is = rw is refl
    by_case false is = rw is refl

defaults_fine : (rows : List Row) → defaults_fault rows rules ≡ []
unfolding defaults_fault
defaults_fine rows = ap₂ (λ x y. or_else x (or_else y [])) (answers_default rows) (rounds_default (with_default rows first_rule))

fault_alone : (f g : Kinds) → or_else f (or_else [] (or_else g (or_else [] []))) ≡ or_else f g
fault_alone [] [] = refl
fault_alone [] (k ∷ ks) = refl
fault_alone (k ∷ ks) g = refl

abbrev stop_at : List Text → Option (Text × List Text)
stop_at words = (walk rules [] nothing_held words).stopped

fault_is : (words : List Text) → fault_of page_command words ≡ fault_from (walk_at none) words
fault_is words =
    ap (λ below. level_fault top [] nothing_held words (is_some (entered (built page_command) (stop_at words))) below) (entered_fine (stop_at words))
    ∙ ap (λ e. level_fault top [] nothing_held words (is_some e) []) (entered_none (stop_at words))
    ∙ ap (λ k. or_else (walk_fault top [] (walk_from nothing_held) words) (or_else [] (or_else (settle_fault rules false (end_of (walk_at none) words)) (or_else k [])))) (defaults_fine (settled rules (end_of (walk_at none) words)).rows)
    ∙ fault_alone (walk_fault top [] (walk_at none) words) (settle_fault rules false (end_of (walk_at none) words))

found_by : (words : List Text) (m : ArgMatches) (with_answers : Bool) (text : Option Text) → HasMatchesOf page_command words m → Finds (end_of (walk_at none) words) with_answers text → Found m with_answers text
found_by words m with_answers text has finds =
    let rows = (has is_plain).0 in
    record {
      answers_are = one_text-rows (found_of m) (codes "answers") ∙ (ap (one_of (codes "answers")) rows ∙ finds.answers_are);
      rounds_are = first_value-rows (found_of m) (codes "rounds") ∙ (ap (first_of (codes "rounds")) rows ∙ finds.rounds_are);
    }

-- words that are taken give what is found
pub taken_gives : (words : List Text) (m : ArgMatches) → Taken words → HasMatchesOf page_command words m → fault_of page_command words ≡ []
    → (with_answers : Bool) × (text : Option Text) × Give words with_answers text × Found m with_answers text
taken_gives words m taken has e =
    let given = words_taken words taken none (sym (fault_is words) ∙ e) in
    (given.0, given.1, given.2, found_by words m given.0 given.1 has given.3)

-- words that give something are taken, and it is found
pub gives_taken : (words : List Text) (with_answers : Bool) (text : Option Text) → Give words with_answers text → IsValueText text → fault_of page_command words ≡ []
gives_taken words with_answers text give values = fault_is words ∙ (from_none give values).0

pub gives_found : (words : List Text) (m : ArgMatches) (with_answers : Bool) (text : Option Text) → Give words with_answers text → IsValueText text → HasMatchesOf page_command words m → Found m with_answers text
gives_found words m with_answers text give values has = found_by words m with_answers text has (from_none give values).1

-- words that are taken fail for memory alone
pub fails_not : (words : List Text) (e : Error) → HasKind (fault_of page_command words) e → (error_kind e ≡ OutOfMemory → ⊥) → fault_of page_command words ≡ [] → ⊥
fails_not words e has other fine = by_kind (subst (λ k. HasKind k e) fine has)
  where
    by_kind : HasKind [] e → ⊥
    by_kind (inl is) = other is
    by_kind (inr among) = among
