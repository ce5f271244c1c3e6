-- The bytes of a token: none is a line feed, and the first and the last are ASCII.
use Rattle.std.proofs.Common.{◌≡◌, ℕ, zero, suc, ◌+◌, ◌-◌, ◌<◌, ◌≤◌, Bool, true, false, not, ◌&&◌, eqb, ltb, ltb-true, eqb-true, List, [], ◌∷◌, length, take, drop, get_or, add-zero, leb-true, inl, inr, ◌⊎◌, refl, sym, ◌∙◌, ap, subst, arith}
use Rattle.std.proofs.lemmas.Bool.{cases_Bool, cond-true, cond-false, and_parts, and_from, false≢true, ne_eqb}
use Rattle.std.proofs.lemmas.Str.{IsCharBoundary-end, IsCharBoundary-before_ascii, IsCharBoundary-after_ascii}
use Rattle.std.specs.Str.{IsUtf8, IsCharBoundary}
use Rattle.std.proofs.lemmas.Bool.Decides.{nat_tests}
use Rattle.std.proofs.lemmas.List.{length-take-le, length-drop, get_or-take, get_or-drop}
use Rattle.std.specs.List.{list_all, slice_range}
use Rattle.text_lexer.specs.declared.token.Mark.{Mark}
use Rattle.text_lexer.specs.declared.token.Mark.TheVariants.{ClosingTag, EqualTo, Arrow, Assign, Less, Greater, Slash, OpenBrace, CloseBrace, OpenParen, CloseParen, OpenBracket, CloseBracket, Dot, Plus, Minus, Star, Percent}
use Rattle.text_lexer.specs.declared.token.Token.{Token}
use Rattle.text_lexer.specs.declared.token.TokenKind.{TokenKind}
use Rattle.text_lexer.specs.declared.token.TokenKind.TheVariants.{Name, Reserved as ReservedWord, Number, Text, Mark as MarkSign, End}
use Rattle.text_lexer.specs.Bytes.{is_digit, is_name_byte}
use Rattle.text_lexer.specs.Place.{IsPlace}
use Rattle.text_lexer.specs.Token.{reserved_bytes, mark_bytes, is_word, is_digits, is_text, is_escape, is_plain, is_text_rest, IsToken, IsLongest, IsTokenOf}
use Rattle.text_lexer.proofs.Lexemes.{reserved_word, word_all, digits_all, text_first, text_rest, mark_some}
use Rattle.text_lexer.proofs.Places.{place_more}

abbrev is_inside : ℕ → Bool
is_inside b = not (eqb b 10)

abbrev is_ascii : ℕ → Bool
is_ascii b = ltb b 128

-- a test of each byte, at a place and by another test
all_at : (p : ℕ → Bool) (bs : List ℕ) (k : ℕ) → list_all p bs ≡ true → k < length bs → p (get_or bs k 0) ≡ true
all_at p [] k h l = absurd (omega arith)
all_at p (b ∷ bs) zero h l = (and_parts (p b) (list_all p bs) h).0
all_at p (b ∷ bs) (suc k) h l = all_at p bs k (and_parts (p b) (list_all p bs) h).1 (omega arith)

all_by : (p q : ℕ → Bool) → ((b : ℕ) → p b ≡ true → q b ≡ true) → (bs : List ℕ) → list_all p bs ≡ true → list_all q bs ≡ true
all_by p q f [] h = refl
all_by p q f (b ∷ bs) h =
    let parts = and_parts (p b) (list_all p bs) h in
    and_from (q b) (list_all q bs) (f b parts.0) (all_by p q f bs parts.1)

name_inside : (b : ℕ) → is_name_byte b ≡ true → is_inside b ≡ true
name_inside b h = grind (arith, nat_tests)

name_ascii : (b : ℕ) → is_name_byte b ≡ true → is_ascii b ≡ true
name_ascii b h = grind (arith, nat_tests)

digit_inside : (b : ℕ) → is_digit b ≡ true → is_inside b ≡ true
digit_inside b h = grind (arith, nat_tests)

digit_ascii : (b : ℕ) → is_digit b ≡ true → is_ascii b ≡ true
digit_ascii b h = grind (arith, nat_tests)

plain_inside : (b : ℕ) → is_plain b ≡ true → is_inside b ≡ true
plain_inside b h = grind (arith, nat_tests)

escape_inside : (b : ℕ) → is_escape b ≡ true → is_inside b ≡ true
escape_inside b h = grind (arith, nat_tests)

mark_inside : (m : Mark) → list_all is_inside (mark_bytes m) ≡ true
mark_inside ClosingTag = refl
mark_inside EqualTo = refl
mark_inside Arrow = refl
mark_inside Assign = refl
mark_inside Less = refl
mark_inside Greater = refl
mark_inside Slash = refl
mark_inside OpenBrace = refl
mark_inside CloseBrace = refl
mark_inside OpenParen = refl
mark_inside CloseParen = refl
mark_inside OpenBracket = refl
mark_inside CloseBracket = refl
mark_inside Dot = refl
mark_inside Plus = refl
mark_inside Minus = refl
mark_inside Star = refl
mark_inside Percent = refl

mark_ascii : (m : Mark) → list_all is_ascii (mark_bytes m) ≡ true
mark_ascii ClosingTag = refl
mark_ascii EqualTo = refl
mark_ascii Arrow = refl
mark_ascii Assign = refl
mark_ascii Less = refl
mark_ascii Greater = refl
mark_ascii Slash = refl
mark_ascii OpenBrace = refl
mark_ascii CloseBrace = refl
mark_ascii OpenParen = refl
mark_ascii CloseParen = refl
mark_ascii OpenBracket = refl
mark_ascii CloseBracket = refl
mark_ascii Dot = refl
mark_ascii Plus = refl
mark_ascii Minus = refl
mark_ascii Star = refl
mark_ascii Percent = refl

-- the rest of a text that begins with a backslash, and one that does not
pub rest_escape : (b c : ℕ) (bs : List ℕ) → eqb b 92 ≡ true → is_text_rest (b ∷ c ∷ bs) ≡ (is_escape c && is_text_rest bs)
rest_escape b c bs e = cond-true (eqb b 92) (is_escape c && is_text_rest bs) (is_plain b && is_text_rest (c ∷ bs)) e

pub rest_plain : (b c : ℕ) (bs : List ℕ) → eqb b 92 ≡ false → is_text_rest (b ∷ c ∷ bs) ≡ (is_plain b && is_text_rest (c ∷ bs))
rest_plain b c bs e = cond-false (eqb b 92) (is_escape c && is_text_rest bs) (is_plain b && is_text_rest (c ∷ bs)) e

equal_inside : (b n : ℕ) → eqb b n ≡ true → is_inside n ≡ true → is_inside b ≡ true
equal_inside b n e h = subst (λ v. is_inside v ≡ true) (sym (eqb-true b n e)) h

rest_inside : (bs : List ℕ) → is_text_rest bs ≡ true → list_all is_inside bs ≡ true
rest_inside [] h = refl
rest_inside (b ∷ []) h = and_from (is_inside b) true (equal_inside b 34 h refl) refl
rest_inside (b ∷ c ∷ bs) h = elim (cases_Bool (eqb b 92)) [
  | inl e ↦
      let parts = and_parts (is_escape c) (is_text_rest bs) (sym (rest_escape b c bs e) ∙ h) in
      and_from (is_inside b) (is_inside c && list_all is_inside bs) (equal_inside b 92 e refl) (and_from (is_inside c) (list_all is_inside bs) (escape_inside c parts.0) (rest_inside bs parts.1))
  | inr e ↦
      let parts = and_parts (is_plain b) (is_text_rest (c ∷ bs)) (sym (rest_plain b c bs e) ∙ h) in
      and_from (is_inside b) (list_all is_inside (c ∷ bs)) (plain_inside b parts.0) (rest_inside (c ∷ bs) parts.1)
]

-- the rest of a text ends with a quotation mark
pub rest_last : (bs : List ℕ) → is_text_rest bs ≡ true → (0 < length bs) × (get_or bs (length bs - 1) 0 ≡ 34)
rest_last [] h = absurd (false≢true h)
rest_last (b ∷ []) h = (omega arith, eqb-true b 34 h)
rest_last (b ∷ c ∷ bs) h = (
  omega arith,
  elim (cases_Bool (eqb b 92)) [
    | inl e ↦
        let more = rest_last bs (and_parts (is_escape c) (is_text_rest bs) (sym (rest_escape b c bs e) ∙ h)).1 in
        let some = more.0 in
        let at : suc (suc (length bs)) - 1 ≡ suc (suc (length bs - 1)) = omega arith in
        rw at more.1
    | inr e ↦
        let more = rest_last (c ∷ bs) (and_parts (is_plain b) (is_text_rest (c ∷ bs)) (sym (rest_plain b c bs e) ∙ h)).1 in
        let at : suc (suc (length bs)) - 1 ≡ suc (suc (length bs) - 1) = omega arith in
        rw at more.1
  ],
)

text_inside : (bs : List ℕ) → is_text bs ≡ true → list_all is_inside bs ≡ true
text_inside [] h = refl
text_inside (b ∷ bs) h = and_from (is_inside b) (list_all is_inside bs) (equal_inside b 34 (text_first (b ∷ bs) h) refl) (rest_inside bs (text_rest (b ∷ bs) h))

no_feed : (bs : List ℕ) → list_all is_inside bs ≡ true → (k : ℕ) → k < length bs → get_or bs k 0 ≡ 10 → ⊥
no_feed bs h k l e = false≢true (subst (λ v. is_inside v ≡ true) e (all_at is_inside bs k h l))

-- no byte of a token is a line feed
token_inside : (kind : TokenKind) (bs : List ℕ) → IsToken kind bs → list_all is_inside bs ≡ true
token_inside Name bs t = all_by is_name_byte is_inside name_inside bs (word_all bs t.0)
token_inside (ReservedWord r) bs t = rw t (all_by is_name_byte is_inside name_inside (reserved_bytes r) (word_all (reserved_bytes r) (reserved_word r)))
token_inside Number bs t = all_by is_digit is_inside digit_inside bs (digits_all bs t.0)
token_inside Text bs t = text_inside bs t
token_inside (MarkSign m) bs t = rw t (mark_inside m)
token_inside End bs t = absurd t

-- some bytes, of which the first and the last are ASCII
pub record HasAsciiEnds (bs : List ℕ) : Type 0 where
  pub some : 0 < length bs
  pub first : get_or bs 0 0 < 128
  pub last : get_or bs (length bs - 1) 0 < 128

ascii_ends : (bs : List ℕ) → 0 < length bs → list_all is_ascii bs ≡ true → HasAsciiEnds bs
ascii_ends bs some h = record {
  some = some;
  first = ltb-true _ _ (all_at is_ascii bs 0 h some);
  last = ltb-true _ _ (all_at is_ascii bs (length bs - 1) h (omega arith));
}

word_some : (bs : List ℕ) → is_word bs ≡ true → 0 < length bs
word_some [] h = absurd (false≢true h)
word_some (b ∷ bs) h = omega arith

pub digits_some : (bs : List ℕ) → is_digits bs ≡ true → 0 < length bs
digits_some [] h = absurd (false≢true h)
digits_some (b ∷ bs) h = omega arith

pub text_ends : (bs : List ℕ) → is_text bs ≡ true → HasAsciiEnds bs
text_ends [] h = absurd (false≢true h)
text_ends (b ∷ bs) h =
    let first = eqb-true b 34 (text_first (b ∷ bs) h) in
    let last = rest_last bs (text_rest (b ∷ bs) h) in
    let some = last.0 in
    let at : suc (length bs) - 1 ≡ suc (length bs - 1) = omega arith in
    let is : get_or (b ∷ bs) (suc (length bs) - 1) 0 ≡ 34 = rw at last.1 in
    record { some = omega arith; first = omega arith; last = omega arith }

token_ends : (kind : TokenKind) (bs : List ℕ) → IsToken kind bs → HasAsciiEnds bs
token_ends Name bs t = ascii_ends bs (word_some bs t.0) (all_by is_name_byte is_ascii name_ascii bs (word_all bs t.0))
token_ends (ReservedWord r) bs t = rw t (ascii_ends (reserved_bytes r) (word_some (reserved_bytes r) (reserved_word r)) (all_by is_name_byte is_ascii name_ascii (reserved_bytes r) (word_all (reserved_bytes r) (reserved_word r))))
token_ends Number bs t = ascii_ends bs (digits_some bs t.0) (all_by is_digit is_ascii digit_ascii bs (digits_all bs t.0))
token_ends Text bs t = text_ends bs t
token_ends (MarkSign m) bs t = rw t (ascii_ends (mark_bytes m) (leb-true 1 (length (mark_bytes m)) (mark_some m)) (mark_ascii m))
token_ends End bs t = absurd t

no_end : (kind : TokenKind) (bs : List ℕ) → IsToken kind bs → kind ≡ End → ⊥
no_end kind bs t e = subst (λ k. IsToken k bs) e t

-- the longest at the place is a token of the text
pub token_stands : (text : List ℕ) (token : Token) (n : ℕ) → token.start ≤ length text → token.end ≡ token.start + n → IsLongest (drop token.start text) token.kind n → IsTokenOf text token
token_stands text token n h e x =
    let size = length-drop token.start text in
    let within = x.within in
    let same : token.end - token.start ≡ n = omega arith in
    record {
      ordered = omega arith;
      within = omega arith;
      last = λ is. absurd (no_end token.kind (take n (drop token.start text)) x.token is);
      longest = λ _. rw same x;
    }

pub longest_some : (rest : List ℕ) (kind : TokenKind) (n : ℕ) → IsLongest rest kind n → 0 < n
longest_some rest kind n x =
    let some = (token_ends kind (take n rest) x.token).some in
    let size = length-take-le n rest x.within in
    omega arith

place_run : (first_line : ℕ) (text : List ℕ) (start line column n : ℕ) → IsPlace first_line text start line column → start + n ≤ length text → ((k : ℕ) → k < n → get_or text (start + k) 0 ≡ 10 → ⊥) → IsPlace first_line text (start + n) line (column + n)
place_run first_line text start line column zero p h none = rw (add-zero start, add-zero column) p
place_run first_line text start line column (suc n) p h none =
    let before = place_run first_line text start line column n p (omega arith) (λ k l. none k (omega arith)) in
    let more = place_more first_line text (start + n) line (column + n) before (omega arith) in
    let far : start + suc n ≡ start + n + 1 = omega arith in
    let wide : column + suc n ≡ column + n + 1 = omega arith in
    rw (far, wide) (rw (ne_eqb (get_or text (start + n) 0) 10 (none n (omega arith))) at more)

-- the place behind a token
pub place_past_token : (first_line : ℕ) (text : List ℕ) (start line column n : ℕ) (kind : TokenKind) → IsPlace first_line text start line column → IsLongest (drop start text) kind n → IsPlace first_line text (start + n) line (column + n)
place_past_token first_line text start line column n kind p x =
    let bs = take n (drop start text) in
    let size = length-drop start text in
    let long = length-take-le n (drop start text) x.within in
    let within = x.within in
    let at_most = p.within in
    place_run first_line text start line column n p (omega arith) (λ k l e.
    let here : get_or bs k 0 ≡ get_or text (start + k) 0 = get_or-take n (drop start text) k 0 l ∙ get_or-drop start text k 0 in
    no_feed bs (token_inside kind bs x.token) k (omega arith) (here ∙ e))

pub end_or_not : (kind : TokenKind) → (kind ≡ End) ⊎ (kind ≡ End → ⊥)
end_or_not Name = inr (λ e. cc)
end_or_not (ReservedWord r) = inr (λ e. cc)
end_or_not Number = inr (λ e. cc)
end_or_not Text = inr (λ e. cc)
end_or_not (MarkSign m) = inr (λ e. cc)
end_or_not End = inl refl

-- a text may be cut before and behind a token
pub start_boundary : (text : List ℕ) (token : Token) → IsTokenOf text token → IsCharBoundary text token.start
start_boundary text token t = elim (end_or_not token.kind) [
  | inl is ↦ rw (t.last is) (IsCharBoundary-end text)
  | inr is ↦
      let x = t.longest is in
      let n = token.end - token.start in
      let bs = take n (drop token.start text) in
      let ends = token_ends token.kind bs x.token in
      let long = length-take-le n (drop token.start text) x.within in
      let size = length-drop token.start text in
      let some = ends.some in
      let first = ends.first in
      let within = t.within in
      let zero_more = add-zero token.start in
      let here : get_or bs 0 0 ≡ get_or text token.start 0 = get_or-take n (drop token.start text) 0 0 (omega arith) ∙ (get_or-drop token.start text 0 0 ∙ ap (λ i. get_or text i 0) zero_more) in
      IsCharBoundary-before_ascii text token.start (omega arith) (omega arith)
]

pub end_boundary : (text : List ℕ) (token : Token) → IsUtf8 text → IsTokenOf text token → IsCharBoundary text token.end
end_boundary text token utf8 t = elim (end_or_not token.kind) [
  | inl is ↦
      let last = t.last is in
      let ordered = t.ordered in
      let within = t.within in
      let same : token.end ≡ length text = omega arith in
      rw same (IsCharBoundary-end text)
  | inr is ↦
      let x = t.longest is in
      let n = token.end - token.start in
      let bs = take n (drop token.start text) in
      let ends = token_ends token.kind bs x.token in
      let long = length-take-le n (drop token.start text) x.within in
      let size = length-drop token.start text in
      let some = ends.some in
      let last = ends.last in
      let within = t.within in
      let here : get_or bs (length bs - 1) 0 ≡ get_or text (token.start + (length bs - 1)) 0 = get_or-take n (drop token.start text) (length bs - 1) 0 (omega arith) ∙ get_or-drop token.start text (length bs - 1) 0 in
      let at : token.start + (length bs - 1) + 1 ≡ token.end = omega arith in
      subst (λ v. IsCharBoundary text v) at (IsCharBoundary-after_ascii text (token.start + (length bs - 1)) utf8 (omega arith) (omega arith))
]

-- the bytes of a token of a known kind
pub token_of_kind : (text : List ℕ) (token : Token) (kind : TokenKind) → IsTokenOf text token → token.kind ≡ kind → (kind ≡ End → ⊥) → IsToken kind (slice_range text token.start token.end)
token_of_kind text token kind t e not_end =
    subst (λ k. IsToken k (slice_range text token.start token.end)) e (t.longest (λ is. not_end (sym e ∙ is))).token
