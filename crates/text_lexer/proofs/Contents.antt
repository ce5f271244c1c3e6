-- What the bytes of a number and a text mean.
use Rattle.std.proofs.Common.{◌≡◌, ℕ, suc, ◌+◌, ◌-◌, ◌^◌, ◌<◌, true, false, eqb, List, [], ◌∷◌, ◌++◌, length, take, drop, get_or, refl, sym, ◌∙◌, ap, subst, Result, Ok, Err, arith, rules}
use Rattle.std.proofs.lemmas.Str.{IsUtf8-drop, IsCharBoundary-before_ascii, IsCharBoundary-after_ascii}
use Rattle.std.specs.Str.{IsUtf8, IsCharBoundary}
use Rattle.std.specs.Option.{SomeIff}
use Rattle.std.specs.Result.{OkIff, result_ok}
use Rattle.std.proofs.lemmas.Bool.{and_parts, or_parts, false≢true, ne_eqb, cond-false}
use Rattle.std.proofs.lemmas.Bool.Decides.{nat_tests}
use Rattle.std.proofs.lemmas.List.{append_assoc, length-append, get_or_at, drop_at, drop_more, drop_all, length-drop, take-append-drop}
use Rattle.std.proofs.lemmas.Str.Parse.{IsNumeralModel, numerals_by_fold}
use Rattle.std.specs.List.{list_all, list_any, slice_range}
use Rattle.text_lexer.specs.Bytes.{is_digit}
use Rattle.text_lexer.specs.Token.{is_escape, is_plain, is_text, is_text_rest, escape_value, unescaped, decimal_value, decimal_value_after}
use Rattle.text_lexer.proofs.Tokens.{rest_plain, rest_last, text_ends}
use Rattle.text_lexer.proofs.Lexemes.{text_rest}

-- digits, and the number that they write
pub numerals : IsNumeralModel (λ ds. list_all is_digit ds ≡ true) decimal_value
numerals = numerals_by_fold _ (search rules) decimal_value_after (search rules)

-- the rest of a text is its content and the closing quotation mark
pub rest_closed : (bs : List ℕ) → is_text_rest bs ≡ true → take (length bs - 1) bs ++ 34 ∷ [] ≡ bs
rest_closed bs h =
    let last = rest_last bs h in
    let some = last.0 in
    let at : length bs - 1 + 1 ≡ length bs = omega arith in
    let end : drop (length bs - 1) bs ≡ 34 ∷ [] = drop_more bs (length bs - 1) 0 (omega arith) ∙ rw (last.1, at, drop_all (length bs) bs (omega arith)) refl in
    rw (← end) (take-append-drop (length bs - 1) bs)

unescaped_plain : (b : ℕ) (bs : List ℕ) → eqb b 92 ≡ false → unescaped (b ∷ bs) ≡ b ∷ unescaped bs
unescaped_plain b [] e = refl
unescaped_plain b (c ∷ bs) e = cond-false (eqb b 92) (escape_value c ∷ unescaped bs) (b ∷ unescaped (c ∷ bs)) e

-- content with no backslash means itself
pub unescaped_none : (bs : List ℕ) → ((i : ℕ) → i < length bs → get_or bs i 0 ≡ 92 → ⊥) → unescaped bs ≡ bs
unescaped_none [] none = refl
unescaped_none (b ∷ bs) none =
    unescaped_plain b bs (ne_eqb b 92 (none 0 (omega arith))) ∙ ap (λ v. b ∷ v) (unescaped_none bs (λ i l. none (suc i) (omega arith)))

-- the same by the test
pub unescaped_free : (bs : List ℕ) → list_any (λ b. eqb b 92) bs ≡ false → unescaped bs ≡ bs
unescaped_free [] none = refl
unescaped_free (b ∷ bs) none =
    let parts = or_parts (eqb b 92) (list_any (λ c. eqb c 92) bs) none in
    unescaped_plain b bs parts.0 ∙ ap (λ v. b ∷ v) (unescaped_free bs parts.1)

-- the first backslash of content, and the byte that it stands before
pub unescaped_first : (plain more : List ℕ) (b : ℕ) → ((i : ℕ) → i < length plain → get_or plain i 0 ≡ 92 → ⊥) → unescaped (plain ++ 92 ∷ b ∷ more) ≡ plain ++ escape_value b ∷ unescaped more
unescaped_first [] more b none = refl
unescaped_first (p ∷ plain) more b none =
    unescaped_plain p (plain ++ 92 ∷ b ∷ more) (ne_eqb p 92 (none 0 (omega arith))) ∙ ap (λ v. p ∷ v) (unescaped_first plain more b (λ i l. none (suc i) (omega arith)))

-- what stands behind the plain bytes at the front is again the rest of a text
rest_past_plain : (plain more : List ℕ) (c : ℕ) → ((i : ℕ) → i < length plain → get_or plain i 0 ≡ 92 → ⊥) → is_text_rest (plain ++ c ∷ more) ≡ true → is_text_rest (c ∷ more) ≡ true
rest_past_plain [] more c none h = h
rest_past_plain (p ∷ []) more c none h =
    (and_parts (is_plain p) (is_text_rest (c ∷ more)) (sym (rest_plain p c more (ne_eqb p 92 (none 0 (omega arith)))) ∙ h)).1
rest_past_plain (p ∷ q ∷ plain) more c none h =
    rest_past_plain (q ∷ plain) more c (λ i l. none (suc i) (omega arith)) (and_parts (is_plain p) (is_text_rest (q ∷ (plain ++ c ∷ more))) (sym (rest_plain p q (plain ++ c ∷ more) (ne_eqb p 92 (none 0 (omega arith)))) ∙ h)).1

-- an escape stands behind the first backslash, and then again the rest of a text
pub record IsEscapeFirst (escape : List ℕ) : Type 0 where
  pub some : 0 < length escape
  pub escaped : is_escape (get_or escape 0 0) ≡ true
  pub rest : is_text_rest (drop 1 escape ++ 34 ∷ []) ≡ true

escape_first : (escape : List ℕ) → is_text_rest (92 ∷ (escape ++ 34 ∷ [])) ≡ true → IsEscapeFirst escape
escape_first [] h = absurd (false≢true h)
escape_first (b ∷ bs) h =
    let parts = and_parts (is_escape b) (is_text_rest (bs ++ 34 ∷ [])) h in
    record { some = omega arith; escaped = parts.0; rest = parts.1 }

pub escape_ascii : (b : ℕ) → is_escape b ≡ true → b < 128
escape_ascii b h = grind (arith, nat_tests)

pub value_ascii : (b : ℕ) → b < 128 → escape_value b < 128
value_ascii b h = grind (arith, nat_tests)

pub escape_behind : (written plain escape : List ℕ) → written ≡ plain ++ 92 ∷ escape → ((i : ℕ) → i < length plain → get_or plain i 0 ≡ 92 → ⊥) → is_text_rest (written ++ 34 ∷ []) ≡ true → IsEscapeFirst escape
escape_behind written plain escape e none h =
    let whole = rw (e, append_assoc) at h in
    escape_first escape (rest_past_plain plain (escape ++ 34 ∷ []) 92 none whole)

pub utf8_behind : (rest plain escape : List ℕ) → IsUtf8 rest → rest ≡ plain ++ 92 ∷ escape → IsUtf8 escape
utf8_behind rest plain escape utf8 e =
    let size = length-append plain (92 ∷ escape) in
    let long = ap length e in
    let here : get_or rest (length plain) 0 ≡ 92 = rw e (get_or_at plain 92 escape 0 (length plain) refl) in
    let split : rest ≡ (plain ++ 92 ∷ []) ++ escape = rw append_assoc e in
    let front = length-append plain (92 ∷ []) in
    let behind : drop (length plain + 1) rest ≡ escape = rw split (drop_at (plain ++ 92 ∷ []) escape (length plain + 1) (omega arith)) in
    subst (λ v. IsUtf8 v) behind (IsUtf8-drop rest (length plain + 1) utf8 (IsCharBoundary-after_ascii rest (length plain) utf8 (omega arith) (omega arith)))

pub unescaped_more : (content wide rest plain escape more whole : List ℕ) (ch : ℕ) → rest ≡ plain ++ 92 ∷ escape → ((i : ℕ) → i < length plain → get_or plain i 0 ≡ 92 → ⊥) → 0 < length escape → more ≡ drop 1 escape → ch ≡ escape_value (get_or escape 0 0) → wide ≡ (content ++ plain) ++ ch ∷ [] → content ++ unescaped rest ≡ whole → wide ++ unescaped more ≡ whole
unescaped_more content wide rest plain [] more whole ch e none some m c w h = absurd (omega arith)
unescaped_more content wide rest plain (b ∷ bs) more whole ch e none some m c w h =
    let is = unescaped_first plain bs b none in
    let was : content ++ (plain ++ escape_value b ∷ unescaped bs) ≡ whole = ap (λ v. content ++ v) (sym is ∙ sym (ap unescaped e)) ∙ h in
    rw (w, c, m) (simp append_assoc was)

pub decimal_some : {E : Type 0} → (bs : List ℕ) (r : Result ℕ E) → 0 < length bs → OkIff r ((0 < length bs) × (decimal_value bs < 2 ^ 32)) (decimal_value bs) → SomeIff (result_ok r) (decimal_value bs < 2 ^ 32) (decimal_value bs)
decimal_some bs (Ok x) some h = (h.0.1, h.1)
decimal_some bs (Err e) some h = λ small. h (some, small)

-- a text may be cut behind its first quotation mark and before its last one
pub text_opened : (bs : List ℕ) → IsUtf8 bs → is_text bs ≡ true → IsCharBoundary bs 1
text_opened bs utf8 h =
    let ends = text_ends bs h in
    let first = ends.first in
    IsCharBoundary-after_ascii bs 0 utf8 ends.some first

pub text_closed : (bs : List ℕ) → is_text bs ≡ true → IsCharBoundary bs (length bs - 1)
text_closed bs h =
    let ends = text_ends bs h in
    let some = ends.some in
    IsCharBoundary-before_ascii bs (length bs - 1) (omega arith) ends.last

pub written_closed : (bs : List ℕ) → is_text bs ≡ true → is_text_rest (slice_range bs 1 (length bs - 1) ++ 34 ∷ []) ≡ true
written_closed bs h =
    let rest = text_rest bs h in
    let size = length-drop 1 bs in
    let at : length bs - 1 - 1 ≡ length (drop 1 bs) - 1 = omega arith in
    rw (at, rest_closed (drop 1 bs) rest) rest
