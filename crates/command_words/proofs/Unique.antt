-- Words stand for one settings at the most.
use Rattle.std.proofs.Common.{◌≡◌, ◌⊎◌, ◌∙◌, ℕ, ◌<◌, ◌==◌, Bool, true, false, List, [], ◌∷◌, Option, Some, None, refl, sym, ap, subst, arith, get_or, inl, inr, Result, Ok, Err, codes}
use Rattle.std.specs.Fmt.{decimal}
use Rattle.std.specs.List.{list_any}
use Rattle.std.specs.Prelude.{IsErrAnd}
use Rattle.std.specs.Str.{bytes_eq}
use Rattle.std.specs.Str.Parse.{ParsesUnsigned}
use Rattle.std.proofs.lemmas.Slice.Eq.{bytes_eq-Decides}
use Rattle.std.proofs.lemmas.Fmt.{decimal_injective, first_decimal, parse-decimal}
use Rattle.std.proofs.lemmas.Bool.{ne_eqb}
use Rattle.clap.specs.Words.{Text}
use Rattle.command_words.specs.Clap.{IsValue, IsValueText, answers_text, is_other_flag}
use Rattle.command_words.specs.Words.{Give, nothing, end_of_options, answers, rounds, joined_rounds, IsRounds, StandFor}
use Rattle.command_words.specs.declared.error.WordsError.{WordsError}
use Rattle.command_words.specs.declared.error.WordsError.TheVariants.{BadWords, NoMemory}
use Rattle.command_words.specs.declared.settings.Settings.{Settings}
use Rattle.clap.specs.Words.{first_value, found_of}
use Rattle.clap.specs.declared.parser.matches.ArgMatches.{ArgMatches}
use Rattle.command_words.specs.Clap.{Found}
use Rattle.command_words.proofs.Walks.{from_none}

-- a text that does not begin with a hyphen
value_by_first : (v : Text) → 48 < get_or v 0 0 → IsValue v
value_by_first [] first = absurd (omega arith)
value_by_first (d ∷ ds) first =
    let no : (d == 45) ≡ false = ne_eqb d 45 (λ e. omega (arith, e)) in
    record { long = rw no refl; short = rw no refl; some = rw no refl }

pub value_of_rounds : (text : Option Text) (n : ℕ) → IsRounds text n → IsValueText text
value_of_rounds None n is v e = cc
value_of_rounds (Some text) n is v e =
    let same : v ≡ decimal n = (let same_text : text ≡ v = cc in sym same_text ∙ is.0) in
    value_by_first v (rw same (first_decimal n (omega arith) (omega arith)))

answers_injective : (x y : Bool) → answers_text x ≡ answers_text y → x ≡ y
answers_injective true true e = refl
answers_injective false false e = refl
answers_injective true false e = cc
answers_injective false true e = cc

inside : {X : Type 0} {x y : X} → Some x ≡ Some y → x ≡ y
inside e = cc

pub one_giving : (words : List Text) (x y : Bool) (t u : Option Text) → Give words x t → Give words y u → IsValueText t → IsValueText u → (x ≡ y) × (t ≡ u)
one_giving words x y t u give other values others =
    let a = (from_none give values).1 in
    let b = (from_none other others).1 in
    (answers_injective x y (inside (sym a.answers_are ∙ b.answers_are)), sym a.rounds_are ∙ b.rounds_are)

pub one_number : (t : Option Text) (m n : ℕ) → IsRounds t m → IsRounds t n → m ≡ n
one_number None m n a b = a ∙ sym b
one_number (Some text) m n a b = decimal_injective m n (omega arith) (omega arith) (sym a.0 ∙ b.0)

made : Bool → ℕ → Settings
made a n = record { answers = a; rounds = n }

pub one : (words : List Text) (a b : Settings) → StandFor words a → StandFor words b → a ≡ b
unfolding made
one words a b s t =
    let same = one_giving words a.answers b.answers s.0 t.0 s.1 t.1 (value_of_rounds s.0 a.rounds s.2) (value_of_rounds t.0 b.rounds t.2) in
    let number = one_number t.0 a.rounds b.rounds (subst (λ x. IsRounds x a.rounds) same.1 s.2) t.2 in
    ap (λ x. made x a.rounds) same.0 ∙ ap (made b.answers) number

-- what the answer says of the words also says when it comes
pub taken_by : (words : List Text) (result : Result Settings WordsError) → ((settings : Settings) → result ≡ Ok settings → StandFor words settings)
    → (result ≡ Err BadWords → (settings : Settings) → StandFor words settings → ⊥) → (settings : Settings) → StandFor words settings → (result ≡ Ok settings) ⊎ (result ≡ Err NoMemory)
taken_by words (Ok found) stands bad settings stand = inl (ap (λ s. Ok s) (one words found settings (stands found refl) stand))
taken_by words (Err BadWords) stands bad settings stand = absurd (bad refl settings stand)
taken_by words (Err NoMemory) stands bad settings stand = inr refl

-- where the words stand for none
pub refused_by : (words : List Text) (result : Result Settings WordsError) → ((settings : Settings) → result ≡ Ok settings → StandFor words settings)
    → ((settings : Settings) → StandFor words settings → ⊥) → (result ≡ Err BadWords) ⊎ (result ≡ Err NoMemory)
refused_by words (Ok found) stands none = absurd (none found (stands found refl))
refused_by words (Err BadWords) stands none = inl refl
refused_by words (Err NoMemory) stands none = inr refl

-- words that give something have no other flag
pub no_other_flag : {words : List Text} {with_answers : Bool} {text : Option Text} → Give words with_answers text → IsValueText text → list_any is_other_flag words ≡ false
no_other_flag nothing values = refl
no_other_flag end_of_options values = refl
no_other_flag (answers more) values = no_other_flag more values
no_other_flag (rounds text more) values = rw (values text refl).short (no_other_flag more (λ v e. cc))
no_other_flag (joined_rounds text more) values = no_other_flag more (λ v e. cc)

-- a plain number is read as what it is
pub number_read : {E : Type 0} (bs : Text) (r : Result ℕ E) → ParsesUnsigned 32 10 bs r → (n : ℕ) → IsRounds (Some bs) n → r ≡ Ok n
number_read bs r parses n is = parse-decimal 32 n bs r (omega arith) (omega arith) is.0 parses

pub ok_inside : {E : Type 0} (m n : ℕ) (r : Result ℕ E) → r ≡ Ok m → r ≡ Ok n → m ≡ n
ok_inside m n r a b = cc

pub same_texts : (xs ys : Text) → false ≡ bytes_eq xs ys → xs ≡ ys → ⊥
same_texts xs ys differs e =
    let yes : bytes_eq xs ys ≡ true = (bytes_eq-Decides xs ys).1 e in
    cc

-- the number of the matches is that for which the words stand
pub stands_not : (words : List Text) (m : ArgMatches) → ((with_answers : Bool) (text : Option Text) → Give words with_answers text → IsValueText text → Found m with_answers text)
    → ((n : ℕ) → IsRounds (first_value (found_of m) (codes "rounds")) n → ⊥) → (settings : Settings) → StandFor words settings → ⊥
stands_not words m only bad settings stand =
    let found = only settings.answers stand.0 stand.1 (value_of_rounds stand.0 settings.rounds stand.2) in
    bad settings.rounds (subst (λ t. IsRounds t settings.rounds) (sym found.rounds_are) stand.2)

-- the error that a `?` handed on
pub error_inside : {X Y : Type 0} (r : Result X WordsError) (error : WordsError) → IsErrAnd r (λ e. e ≡ error) → r ≡ Err BadWords → (let back : Result Y WordsError = Err error in back ≡ Err BadWords)
error_inside r error is e = ap (λ x. Err x) (sym (subst (λ q. IsErrAnd q (λ x. x ≡ error)) e is))
