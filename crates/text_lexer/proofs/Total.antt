-- What is computed comes next, and so at each cursor something comes next.
use Rattle.std.proofs.Common.{◌≡◌, ◌↔◌, ℕ, ◌+◌, ◌<◌, ◌≤◌, Bool, true, false, not, cond, ◌&&◌, ◌||◌, eqb, eqb-true, leb, ltb, ltb-true, List, [], ◌∷◌, length, take, drop, get_or, Option, Some, None, Ok, Err, inl, inr, ◌⊎◌, refl, sym, ◌∙◌, ap, subst, arith}
use Rattle.std.proofs.lemmas.Bool.{and_parts, and_from, or_cases, not-true, not_from_false, eq-eqb, eqb-false, ne_eqb, lt-ltb, leb-true, leb-false, false≢true}
use Rattle.std.proofs.lemmas.List.{length-drop, drop_more}
use Rattle.std.specs.List.{prefix_len}
use Rattle.text_lexer.specs.declared.token.BadToken.{BadToken}
use Rattle.text_lexer.specs.declared.token.Mark.{Mark}
use Rattle.text_lexer.specs.declared.token.Reserved.{Reserved}
use Rattle.text_lexer.specs.declared.token.Token.{Token}
use Rattle.text_lexer.specs.declared.token.TokenKind.TheVariants.{Number, Mark as MarkSign, End}
use Rattle.text_lexer.specs.Bytes.{is_blank, is_letter, is_digit, is_name_byte}
use Rattle.text_lexer.specs.Computed.{spelled, all_reserved, all_marks, run_length, skip_from, text_length, Found, word_kind, word_of, number_of, as_text, text_of, as_mark, either_mark, mark_of, front_of, token_at, given_at, rest_given, next_of}
use Rattle.text_lexer.specs.Cursor.{Cursor}
use Rattle.text_lexer.specs.Lexing.{Skips, IsNext, IsBad, HasSomeNext}
use Rattle.text_lexer.specs.Token.{reserved_bytes, mark_bytes, is_plain, is_escape, IsLongest, IsTokenOf, HasNoToken}
use Rattle.text_lexer.specs.Tokens.{Lexed, IsGiven}
use Rattle.text_lexer.proofs.Lexemes.{IsTextFrom, BeginsNoOther, text_start, text_past_plain, text_past_escape, text_token, no_closing, no_text_byte, no_escape, no_escape_at_end, name_token, reserved_token, no_long_word, number_token, no_leading_zero, pair_token, single_token, no_mark}
use Rattle.text_lexer.proofs.Skipping.{SkipsSoFar, skips_none, skips_more, skips_done}
use Rattle.text_lexer.proofs.Spelled.{IsSpelling, reserved_spells, mark_spells}
use Rattle.text_lexer.proofs.Tokens.{token_stands}

-- a choice that is known
chosen : {X : Type 0} (P : X → Type 0) (test : Bool) (a b : X) → (test ≡ true → P a) → (test ≡ false → P b) → P (cond test a b)
chosen P true a b if_true if_false = if_true refl
chosen P false a b if_true if_false = if_false refl

both_false : (a b : Bool) → (a || b) ≡ false → (a ≡ false) × (b ≡ false)
both_false true b h = absurd (false≢true (sym h))
both_false false b h = (refl, h)

-- the bytes that are left from i on
record IsRest (text : List ℕ) (i b : ℕ) (bs : List ℕ) : Type 0 where
  within : i < length text
  here : get_or text i 0 ≡ b
  next : drop (i + 1) text ≡ bs

is_rest : (text : List ℕ) (i b : ℕ) (bs : List ℕ) → drop i text ≡ b ∷ bs → IsRest text i b bs
is_rest text i b bs e =
    let size = length-drop i text in
    let some = ap length e in
    let within : i < length text = omega arith in
    let both : get_or text i 0 ∷ drop (i + 1) text ≡ b ∷ bs = sym (drop_more text i 0 within) ∙ e in
    record { within = within; here = ap (λ l. get_or l 0 0) both; next = ap (drop 1) both }

no_rest : (text : List ℕ) (i : ℕ) → drop i text ≡ [] → length text ≤ i
no_rest text i e =
    let size = length-drop i text in
    let none = ap length e in
    omega arith

-- ---- blanks and comments

skip_all : (in_comment : Bool) (left text : List ℕ) (from i : ℕ) → SkipsSoFar text from i in_comment → drop i text ≡ left → Skips text from (skip_from in_comment i left)
skip_all in_comment [] text from i s e = skips_done text from i in_comment s (λ h. let none = no_rest text i e in absurd (omega arith))
skip_all true (b ∷ bs) text from i s e =
    let rest = is_rest text i b bs e in
    let here = rest.here in
    skip_all (not (eqb b 10)) bs text from (i + 1) (
    skips_more text from i true (not (eqb b 10)) s rest.within (λ outside _ _. false≢true (sym outside)) (λ h. (inl refl, λ ten. eqb-false b 10 (not-true (eqb b 10) h) (sym here ∙ ten))) (λ h. not_from_false (eqb b 10) (ne_eqb b 10 (λ ten. h.1 (here ∙ ten))))
    ) rest.next
skip_all false (b ∷ bs) text from i s e =
    let rest = is_rest text i b bs e in
    let here = rest.here in
    chosen (λ start. Skips text from start) (is_blank b || eqb b 35) (skip_from (eqb b 35) (i + 1) bs) i (λ skipped. skip_all (eqb b 35) bs text from (i + 1) (
    skips_more text from i false (eqb b 35) s rest.within (λ _ no_blank no_hash. elim (or_cases (is_blank b) (eqb b 35) skipped) [
      | inl blank ↦ false≢true (sym no_blank ∙ (ap is_blank here ∙ blank))
      | inr hash ↦ no_hash (here ∙ eqb-true b 35 hash)
    ]) (λ h. let hash = eqb-true b 35 h in (inr (here ∙ hash), λ ten. omega arith)) (λ h. elim h.0 [
      | inl inside ↦ absurd (false≢true inside)
      | inr hash ↦ eq-eqb b 35 (sym here ∙ hash)
    ])
    ) rest.next) (λ stops.
    let neither = both_false (is_blank b) (eqb b 35) stops in
    skips_done text from i false s (λ _. (refl, ap is_blank here ∙ neither.0, λ hash. eqb-false b 35 neither.1 (sym here ∙ hash))))

-- ---- the token at the front

-- a token at the front, or none
abbrev pub IsFound : List ℕ → Option Found → Type 0
IsFound rest (Some found) = IsLongest rest found.0 found.1
IsFound rest None = HasNoToken rest

-- where a text is read: before i, or behind a backslash that stands just before i
record IsInEscape (rest : List ℕ) (i : ℕ) : Type 0 where
  slash : ℕ
  behind : i ≡ slash + 1
  within : slash < length rest
  is_slash : get_or rest slash 0 ≡ 92
  before : IsTextFrom rest slash

abbrev IsReading : Bool → List ℕ → ℕ → Type 0
IsReading true rest i = IsInEscape rest i
IsReading false rest i = IsTextFrom rest i

text_found : (in_escape : Bool) (left rest : List ℕ) (i : ℕ) → IsReading in_escape rest i → 0 < i → get_or rest 0 0 ≡ 34 → drop i rest ≡ left → IsFound rest (as_text (text_length in_escape i left))
text_found true [] rest i t some opens e =
    let none = no_rest rest i e in
    let behind = t.behind in
    let within = t.within in
    no_escape_at_end rest t.slash t.before opens within (omega arith) t.is_slash
text_found false [] rest i t some opens e = no_closing rest i t opens (no_rest rest i e)
text_found true (b ∷ bs) rest i t some opens e =
    let at = is_rest rest i b bs e in
    let within = at.within in
    let behind = t.behind in
    let here : get_or rest (t.slash + 1) 0 ≡ b = subst (λ v. get_or rest v 0 ≡ b) behind at.here in
    chosen (λ v. IsFound rest (as_text v)) (is_escape b) (text_length false (i + 1) bs) None (λ escape.
    let two : t.slash + 2 ≡ i + 1 = omega arith in
    let past = text_past_escape rest t.slash t.before (omega arith) t.is_slash (ap is_escape here ∙ escape) in
    text_found false bs rest (i + 1) (subst (λ v. IsTextFrom rest v) two past) (omega arith) opens at.next) (λ bad. no_escape rest t.slash t.before opens (omega arith) t.is_slash (ap is_escape here ∙ bad))
text_found false (b ∷ bs) rest i t some opens e =
    let at = is_rest rest i b bs e in
    let within = at.within in
    let here = at.here in
    let more = text_length (eqb b 92) (i + 1) bs in
    chosen (λ v. IsFound rest (as_text v)) (eqb b 34) (Some (i + 1)) (cond (is_plain b || eqb b 92) more None) (λ closes. text_token rest i t some within opens (here ∙ eqb-true b 34 closes)) (λ no_close.
    chosen (λ v. IsFound rest (as_text v)) (is_plain b || eqb b 92) more None (λ goes. text_found (eqb b 92) bs rest (i + 1) (reading (eqb b 92) refl goes within here) (omega arith) opens at.next) (λ bad.
    let neither = both_false (is_plain b) (eqb b 92) bad in
    no_text_byte rest i t opens within (ap is_plain here ∙ neither.0) (λ closes. eqb-false b 34 no_close (sym here ∙ closes)) (λ slash. eqb-false b 92 neither.1 (sym here ∙ slash))))
  where
    reading : (slash : Bool) → eqb b 92 ≡ slash → (is_plain b || eqb b 92) ≡ true → i < length rest → get_or rest i 0 ≡ b → IsReading slash rest (i + 1)
    reading true is goes within here = record { slash = i; behind = refl; within = within; is_slash = here ∙ eqb-true b 92 is; before = t }
    reading false is goes within here = elim (or_cases (is_plain b) (eqb b 92) goes) [
      | inl plain ↦ text_past_plain rest i t within (ap is_plain here ∙ plain)
      | inr slash ↦ absurd (false≢true (sym is ∙ slash))
    ]

run_is : (test : ℕ → Bool) (bs : List ℕ) → run_length test bs ≡ prefix_len test bs
run_is test [] = refl
run_is test (b ∷ bs) = ap (λ v. cond (test b) (1 + v) 0) (run_is test bs)

word_found : (rest : List ℕ) → 0 < length rest → is_letter (get_or rest 0 0) ≡ true → IsFound rest (word_of rest)
word_found rest some l =
    let n = run_length is_name_byte rest in
    let is = run_is is_name_byte rest in
    let reserved = spelled reserved_bytes all_reserved (take n rest) in
    chosen (IsFound rest) (leb n 64) (Some (word_kind reserved, n)) None (λ short. kind reserved (leb-true n 64 short) (reserved_spells (take n rest))) (λ long. no_long_word rest n some l is (leb-false n 64 long))
  where
    kind : (x : Option Reserved) → run_length is_name_byte rest ≤ 64 → IsSpelling reserved_bytes (take (run_length is_name_byte rest) rest) x → IsLongest rest (word_kind x) (run_length is_name_byte rest)
    kind (Some r) short spells = reserved_token rest (run_length is_name_byte rest) r some l (run_is is_name_byte rest) spells
    kind None short none = name_token rest (run_length is_name_byte rest) some l (run_is is_name_byte rest) short none

number_found : (rest : List ℕ) → 0 < length rest → is_digit (get_or rest 0 0) ≡ true → IsFound rest (number_of rest)
number_found rest some l =
    let n = run_length is_digit rest in
    let is = run_is is_digit rest in
    chosen (IsFound rest) (leb 2 n && eqb (get_or rest 0 0) 48) None (Some (Number, n)) (λ bad.
    let parts = and_parts (leb 2 n) (eqb (get_or rest 0 0) 48) bad in
    no_leading_zero rest n some l is (leb-true 2 n parts.0) (eqb-true (get_or rest 0 0) 48 parts.1)) (λ good. number_token rest n some l is (λ two first. false≢true (sym good ∙ and_from (leb 2 n) (eqb (get_or rest 0 0) 48) (lt-ltb 1 n two) (eq-eqb (get_or rest 0 0) 48 first))))

mark_found : (rest : List ℕ) → 0 < length rest → BeginsNoOther rest → IsFound rest (mark_of rest)
mark_found [] some o = absurd (omega arith)
mark_found (b ∷ []) some o = one (spelled mark_bytes all_marks (b ∷ [])) (mark_spells (b ∷ []))
  where
    one : (x : Option Mark) → IsSpelling mark_bytes (b ∷ []) x → IsFound (b ∷ []) (as_mark (either_mark x x))
    one (Some m) e =
        let size : 1 ≡ length (mark_bytes m) = ap length e in
        subst (λ n. IsLongest (b ∷ []) (MarkSign m) n) size (single_token (b ∷ []) m o some (λ two. absurd (omega arith)) e)
    one None none = no_mark (b ∷ []) o some (λ two. absurd (omega arith)) none
mark_found (b ∷ c ∷ bs) some o = two (spelled mark_bytes all_marks (b ∷ c ∷ [])) (mark_spells (b ∷ c ∷ [])) (spelled mark_bytes all_marks (b ∷ [])) (mark_spells (b ∷ []))
  where
    two : (x : Option Mark) → IsSpelling mark_bytes (b ∷ c ∷ []) x → (y : Option Mark) → IsSpelling mark_bytes (b ∷ []) y → IsFound (b ∷ c ∷ bs) (as_mark (either_mark x y))
    two (Some m) e y _ =
        let size : 2 ≡ length (mark_bytes m) = ap length e in
        subst (λ n. IsLongest (b ∷ c ∷ bs) (MarkSign m) n) size (pair_token (b ∷ c ∷ bs) m o (omega arith) e)
    two None none (Some m) e =
        let size : 1 ≡ length (mark_bytes m) = ap length e in
        subst (λ n. IsLongest (b ∷ c ∷ bs) (MarkSign m) n) size (single_token (b ∷ c ∷ bs) m o some (λ _. none) e)
    two None none None lone = no_mark (b ∷ c ∷ bs) o some (λ _. none) lone

front_found : (rest : List ℕ) → 0 < length rest → IsFound rest (front_of rest)
front_found rest some =
    let first = get_or rest 0 0 in
    chosen (IsFound rest) (is_letter first) (word_of rest) (cond (is_digit first) (number_of rest) (cond (eqb first 34) (text_of rest) (mark_of rest))) (λ letter. word_found rest some letter) (λ no_letter.
    chosen (IsFound rest) (is_digit first) (number_of rest) (cond (eqb first 34) (text_of rest) (mark_of rest)) (λ digit. number_found rest some digit) (λ no_digit.
    chosen (IsFound rest) (eqb first 34) (text_of rest) (mark_of rest) (λ quote. text_found false (drop 1 rest) rest 1 (text_start rest some) (omega arith) (eqb-true first 34 quote) refl) (λ no_quote. mark_found rest some (record { no_letter = no_letter; no_digit = no_digit; no_quote = eqb-false first 34 no_quote }))))

-- ---- what comes next

touching : (at start : ℕ) → ((ltb 0 at && eqb start at) ≡ true) ↔ ((0 < at) × (start ≡ at))
touching at start = (λ h. let parts = and_parts (ltb 0 at) (eqb start at) h in (ltb-true 0 at parts.0, eqb-true start at parts.1), λ h. and_from (ltb 0 at) (eqb start at) (lt-ltb 0 at h.0) (eq-eqb start at h.1))

end_stands : (text : List ℕ) (token : Token) → token.kind ≡ End → token.start ≡ length text → token.end ≡ length text → IsTokenOf text token
end_stands text token is start end = record {
  ordered = omega arith;
  within = omega arith;
  last = λ _. start;
  longest = λ no_end. absurd (no_end is);
}

found_given : (cursor : Cursor) (start : ℕ) (x : Option Found) → Skips cursor.text cursor.at start → start < length cursor.text → IsFound (drop start cursor.text) x → IsGiven cursor (given_at cursor start x)
found_given cursor start (Some found) skipped remains x = record {
  skips = skipped;
  stands = token_stands cursor.text (token_at cursor start found.0 found.1) found.1 skipped.within refl x;
  line = refl;
  column = refl;
  touches = touching cursor.at start;
}
found_given cursor start None skipped remains none = record { start = start; skips = skipped; remains = remains; no_token = none; line = refl; column = refl }

rest_is_given : (cursor : Cursor) (start : ℕ) (rest : List ℕ) → Skips cursor.text cursor.at start → drop start cursor.text ≡ rest → IsGiven cursor (rest_given cursor start rest)
rest_is_given cursor start [] skipped e =
    let past = no_rest cursor.text start e in
    let within = skipped.within in
    let at_end : start ≡ length cursor.text = omega arith in
    record {
      skips = skipped;
      stands = (let same : start + 0 ≡ length cursor.text = omega arith in end_stands cursor.text (token_at cursor start End 0) refl at_end same);
      line = refl;
      column = refl;
      touches = touching cursor.at start;
    }
rest_is_given cursor start (b ∷ bs) skipped e =
    let rest = is_rest cursor.text start b bs e in
    found_given cursor start (front_of (b ∷ bs)) skipped rest.within (subst (λ l. IsFound l (front_of (b ∷ bs))) (sym e) (front_found (b ∷ bs) (omega arith)))

pub next_given : (cursor : Cursor) → cursor.at ≤ length cursor.text → IsGiven cursor (next_of cursor)
next_given cursor h =
    let left = drop cursor.at cursor.text in
    let start = skip_from false cursor.at left in
    rest_is_given cursor start (drop start cursor.text) (skip_all false left cursor.text cursor.at cursor.at (skips_none cursor.text cursor.at h) refl) refl

pub some_next : (cursor : Cursor) → HasSomeNext cursor
some_next cursor h = either (next_of cursor) (next_given cursor h)
  where
    either : (x : Lexed) → IsGiven cursor x → ((token : Token) × IsNext cursor token) ⊎ ((bad : BadToken) × IsBad cursor bad)
    either (Ok token) given = inl (token, given)
    either (Err bad) given = inr (bad, given)
